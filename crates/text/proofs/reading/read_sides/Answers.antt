-- `text::reading::read_sides` meets its contract.
use mathlib.Core.Path.{ap, sym, ◌∙◌}
use native.Mathlib.Omega.{arith}
use Rattle.std.specs.Prelude.{ℕ, ◌-◌, List, Some}
use Rattle.octets.specs.Octets.{blank}
use Rattle.text.specs.Written.{written}
use Rattle.text.specs.AddressText.{side_groups}
use Rattle.text.proofs.WholeLaws.{count_some, count_nothing, side_under, sides_bad, front_bad, back_bad, sides_many, sides_good}
use Rattle.text.proofs.reading.read_sides.Goals as goal

pub returns-in_err-m : goal.returns-in_err-m
returns-in_err-m c =
    let f = c.args.front.now in
    let b = c.args.back.now in
    c.from_residual.ensures ∙ sides_bad f b (front_bad f b (count_nothing f (sym c.count_groups.ensures ∙ c.in_err-m.was)))

pub returns-in_err-n : goal.returns-in_err-n
returns-in_err-n c =
    let f = c.args.front.now in
    let b = c.args.back.now in
    c.from_residual-in_err-n.ensures ∙ sides_bad f b (back_bad f b (count_nothing b (sym c.count_groups-2.ensures ∙ c.in_err-n.was)))

pub returns-then-saturating_add-gt7 : goal.returns-then-saturating_add-gt7
returns-then-saturating_add-gt7 c =
    let f = c.args.front.now in
    let b = c.args.back.now in
    let m = count_some f _ (sym c.count_groups.ensures ∙ c.in_ok-m.was) in
    let n = count_some b _ (sym c.count_groups-2.ensures ∙ c.in_ok-n.was) in
    sides_bad f b (sides_many f b (omega (arith, m.1, n.1, c.saturating_add.ensures)))

pub put_groups-requires : goal.put_groups-requires
put_groups-requires c =
    let f = c.args.front.now in
    let m = count_some f _ (sym c.count_groups.ensures ∙ c.in_ok-m.was) in
    record { under = side_under f m.0; text_in_bounds = omega (arith, m.1, c.saturating_add.ensures) }

pub put_groups-requires-2 : goal.put_groups-requires-2
put_groups-requires-2 c =
    let b = c.args.back.now in
    let n = count_some b _ (sym c.count_groups-2.ensures ∙ c.in_ok-n.was) in
    record { under = side_under b n.0; text_in_bounds = omega (arith, n.1, c.saturating_add.ensures, c.put_groups.auto.out) }

pub returns : goal.returns
unfolding blank
returns c =
    let f = c.args.front.now in
    let b = c.args.back.now in
    let m = count_some f _ (sym c.count_groups.ensures ∙ c.in_ok-m.was) in
    let n = count_some b _ (sym c.count_groups-2.ensures ∙ c.in_ok-n.was) in
    let u = c.put_groups in
    let v = c.put_groups-2 in
    let g = v.ensures ∙ ap (λ (l : List ℕ). written l (8 - c.in_ok-n.n) (side_groups b)) u.ensures
    ∙ ap (λ (n : ℕ). written (written (blank 8) 0 (side_groups f)) (8 - n) (side_groups b)) n.1 in
    ap (λ (l : List ℕ). Some l) c.octets_of.ensures ∙ sides_good f b v.new.out m.0 n.0 (omega (arith, m.1, n.1, c.saturating_add.ensures)) g
