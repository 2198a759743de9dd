-- `plan::inside::same_spelt` meets its contract: names of one length are the same exactly when the walk over their labels says so.
use Prim.Native.Nat.{ℕ, ◌+◌, ◌≤◌, ◌<◌}
use mathlib.Core.Path.{◌≡◌, ap, ◌∙◌, sym}
use mathlib.Core.List.{List}
use lib.ListN.{length, get_or, take}
use lib.Seq.{length-take-le}
use native.Mathlib.Omega.{arith}
use borrow.Author.Rules.{rules}
use Rattle.plan.specs.Layout.{slot_size}
use Rattle.names.specs.Keys.{walked}
use Rattle.plan.proofs.SlotLaws.{slots_walked, slots_unlike}
use Rattle.plan.proofs.inside.same_spelt.Goals as goal

-- as many octets of a slot as are compared
piece : (n : ℕ) (s : List ℕ) → length s ≡ slot_size → n ≤ slot_size → length (take n s) ≡ n
piece n s l h = length-take-le n s (omega arith)

pub returns-then-n-b : goal.returns-then-n-b
returns-then-n-b c =
    let a = c.args in
    let k : length a.a.now ≡ slot_size = search rules in
    let l : length a.b.now ≡ slot_size = search rules in
    let m : get_or a.a.now 0 0 < 256 = search rules in
    let n : get_or a.b.now 0 0 < 256 = search rules in
    sym (slots_unlike a.a.now a.b.now k l m n c.requires.0 c.requires.1 c.if-n-b.true)

pub returns : goal.returns
returns c =
    let n = c.pieces-k.result in
    let a = c.args in
    c.same_labels.ensures ∙ ap (λ (i : ℕ). walked (take n a.a.now) (take n a.b.now) (1 + i) 1) c.wide.ensures.0
    ∙ slots_walked a.a.now a.b.now c.requires.0 c.requires.1 c.if-n-b.false n c.pieces-k.ensures.0
