-- `nametext::reading::bit_part` meets its contract: one law for each return.
use Prim.Native.Nat.{◌-◌, ◌*◌, ◌≤◌}
use mathlib.Core.List.{[], ◌∷◌}
use mathlib.Core.Path.{◌≡◌, sym, ◌∙◌}
use lib.ListN.{length, drop}
use native.Mathlib.Omega.{arith}
use borrow.Author.Rules.{rules}
use Rattle.octets.specs.Octets.{same}
use Rattle.text.specs.Digits.{is_hex}
use Rattle.text.proofs.LeadingLaws.{lead_end}
use Rattle.text.proofs.RunLaws.{rest_whole}
use Rattle.nametext.proofs.BitPartLaws.{no_x, no_digits, open_end, open_plain, good_plain, count_plain, bit_good, bit_unranged, digits_inside}
use Rattle.nametext.proofs.reading.bit_part.Goals.{After-hex_end-e, After-closes, then-n-lt4-via-then-n-lt4, then-n-lt4-via-else-n-lt4+then-p-ne120, then-e-eq3-via-then-e-eq3, then-e-eq3-via-else-e-eq3+then-e-n}
use Rattle.nametext.proofs.reading.bit_part.Goals as goal

pub returns-then-n-lt4 : goal.returns-then-n-lt4
returns-then-n-lt4 c =
    let p = c.args.p.now in
    elim c.then-n-lt4.branch [
      | then-n-lt4-via-then-n-lt4 w ↦ no_digits p (lead_end is_hex p 3 (omega arith))
      | then-n-lt4-via-else-n-lt4+then-p-ne120 w ↦ no_x p w.if-p-ne120.true
    ]

pub returns-then-e-eq3 : goal.returns-then-e-eq3
returns-then-e-eq3 c =
    let p = c.args.p.now in
    let e = c.hex_end-e in
    elim c.then-e-eq3.branch [
      | then-e-eq3-via-then-e-eq3 w ↦ no_digits p (omega (arith, e.ensures))
      | then-e-eq3-via-else-e-eq3+then-e-n w ↦ open_end p e.result e.ensures (omega arith)
    ]

within : (c : After-hex_end-e) → c.hex_end-e.result ≤ length c.args.p.now
within c = digits_inside c.args.p.now c.hex_end-e.result (omega (arith, c.if-n-lt4.false)) c.hex_end-e.ensures

pub bounds-p-e : goal.bounds-p-e
bounds-p-e c = omega (arith, within (goal.at.bounds-p-e c).After-hex_end-e)

pub slice_bounds-closes-count : goal.slice_bounds-closes-count
slice_bounds-closes-count c = within (goal.at.slice_bounds-closes-count c).After-hex_end-e

pub slice_bounds-closes-start : goal.slice_bounds-closes-start
slice_bounds-closes-start c =
    let h : c.hex_end-e.result ≤ length c.args.p.now = within (goal.at.slice_bounds-closes-start c).After-hex_end-e in
    search rules

closed : (c : After-closes) → c.closes.result ≡ same (drop c.hex_end-e.result c.args.p.now) (93 ∷ [])
closed c = rw (rest_whole c.args.p.now c.hex_end-e.result) at c.closes.ensures

pub returns-then-not-closes : goal.returns-then-not-closes
returns-then-not-closes c =
    let e = c.hex_end-e in
    open_plain c.args.p.now e.result e.ensures c.if-p-e-eq47.false (sym (closed (goal.at.returns-then-not-closes c).After-closes) ∙ c.if-not-closes.true)

pub returns-then-e-gt67 : goal.returns-then-e-gt67
returns-then-e-gt67 c =
    let p = c.args.p.now in
    let e = c.hex_end-e in
    let n = count_plain p e.result e.ensures c.if-p-e-eq47.false in
    bit_unranged p (good_plain p e.result e.ensures c.if-p-e-eq47.false c.if-p-ne120.false c.if-e-eq3.false (sym (closed (goal.at.returns-then-e-gt67 c).After-closes) ∙ c.if-not-closes.false)) (omega (arith, c.if-e-gt67.true))

pub returns : goal.returns
returns c =
    let p = c.args.p.now in
    let e = c.hex_end-e in
    let n = count_plain p e.result e.ensures c.if-p-e-eq47.false in
    bit_good p (4 * (e.result - 3)) (good_plain p e.result e.ensures c.if-p-e-eq47.false c.if-p-ne120.false c.if-e-eq3.false (sym (closed (goal.at.returns c).After-closes) ∙ c.if-not-closes.false)) (sym n) (omega (arith, c.if-e-gt67.false))
