-- `plan::slot_good` meets its contract: the fill first, then the name.
use mathlib.Core.Path.{◌≡◌, ap, ◌∙◌, sym}
use Prim.Native.Nat.{ℕ, ◌+◌, ◌<◌}
use mathlib.Core.Bool.{true, false}
use lib.ListN.{length, get_or, drop}
use borrow.Author.Rules.{rules}
use Rattle.octets.specs.Zeros.{is_blank}
use Rattle.names.specs.Standard.{in_standard_form}
use Rattle.plan.specs.Layout.{slot_size}
use Rattle.plan.proofs.SlotLaws.{slot_loose, slot_filled}
use Rattle.plan.proofs.slot_good.Goals as goal

pub returns-else-is_blank : goal.returns-else-is_blank
returns-else-is_blank c =
    let s = c.args.slot.now in
    let l : length s ≡ slot_size = search rules in
    let o : get_or s 0 0 < 256 = search rules in
    let b : is_blank (drop (1 + get_or s 0 0) s) ≡ false =
    ap (λ (k : ℕ). is_blank (drop k s)) (sym c.fill_in.ensures) ∙ sym c.is_blank.ensures ∙ c.if-is_blank.false in
    c.if-is_blank.false ∙ sym (slot_loose s l o b)

pub returns-then-is_blank : goal.returns-then-is_blank
returns-then-is_blank c =
    let s = c.args.slot.now in
    let l : length s ≡ slot_size = search rules in
    let o : get_or s 0 0 < 256 = search rules in
    let b : is_blank (drop (1 + get_or s 0 0) s) ≡ true =
    ap (λ (k : ℕ). is_blank (drop k s)) (sym c.fill_in.ensures) ∙ sym c.is_blank.ensures ∙ c.if-is_blank.true in
    c.is_standard.ensures ∙ ap in_standard_form c.name_in.ensures ∙ sym (slot_filled s l o b)
