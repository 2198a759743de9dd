-- `text::reading::read_full` meets its contract.
use mathlib.Core.Path.{◌≡◌, ap, sym, ◌∙◌}
use native.Mathlib.Omega.{arith}
use Rattle.std.specs.Prelude.{ℕ, List, Some, None}
use Rattle.octets.specs.Octets.{blank}
use Rattle.text.specs.AddressText.{side_groups}
use Rattle.text.specs.Sides.{count_of}
use Rattle.text.proofs.WholeLaws.{Full, full_good, full_bad, side_under, written_whole, whole_good, whole_bad}
use Rattle.text.proofs.reading.read_full.Goals.{In_ok-count_groups}
use Rattle.text.proofs.reading.read_full.Goals as goal

pub returns-in_err-count_groups : goal.returns-in_err-count_groups
returns-in_err-count_groups c =
    let text = c.args.text.now in
    let e : count_of c.args.text.now ≡ None = sym c.count_groups.ensures ∙ c.in_err-count_groups.was in
    c.from_residual.ensures ∙ whole_bad text (full_bad text c.requires (λ h. let z : ⊥ = cc in z))

pub returns-then-branch-ne8 : goal.returns-then-branch-ne8
returns-then-branch-ne8 c =
    let text = c.args.text.now in
    let e : count_of c.args.text.now ≡ Some c.in_ok-count_groups.field-0 = sym c.count_groups.ensures ∙ c.in_ok-count_groups.was in
    whole_bad text (full_bad text c.requires (λ h. c.if-branch-ne8.true (cc)))

full : (c : In_ok-count_groups) → c.in_ok-count_groups.field-0 ≡ 8 → Full c.args.text.now
full c h = full_good c.args.text.now c.requires (sym c.count_groups.ensures ∙ c.in_ok-count_groups.was ∙ ap (λ (n : ℕ). Some n) h)

pub put_groups-requires : goal.put_groups-requires
put_groups-requires c =
    let f = full (goal.at.put_groups-requires c).In_ok-count_groups c.if-branch-ne8.false in
    record { under = side_under c.args.text.now f.side; text_in_bounds = omega (arith, f.eight) }

pub returns : goal.returns
unfolding blank
returns c =
    let text = c.args.text.now in
    let f = full (goal.at.returns c).In_ok-count_groups c.if-branch-ne8.false in
    let g = c.put_groups.ensures ∙ written_whole (side_groups text) f.eight ∙ sym f.groups in
    ap (λ (l : List ℕ). Some l) c.octets_of.ensures ∙ whole_good text c.put_groups.new.out f.good g
