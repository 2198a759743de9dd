-- `names::inside::same_part` meets its contract.
use Prim.Native.Nat.{ℕ, ◌+◌, ◌-◌, ◌≤◌, min}
use borrow.Author.Tests.{ltb-true, ltb-false}
use lib.Dec.{ltb}
use lib.Seq.{take_all, length-take-le}
use mathlib.Core.Bool.{Bool, true, false}
use mathlib.Core.Path.{◌≡◌, refl, ap₂, ◌∙◌, sym}
use mathlib.Core.List.{List}
use lib.ListN.{length, take, drop, length-drop}
use native.Mathlib.Omega.{arith}
use Rattle.octets.specs.Octets.{same}
use Rattle.octets.proofs.OctetLaws.{take_drop_take}
use Rattle.names.proofs.inside.same_part.Goals as goal

-- so many octets from a place on, or as many as there are before the end
part : (xs : List ℕ) (i n end to : ℕ) → i ≤ end → end ≤ length xs → to ≡ min end (i + n) → take (to - i) (drop i xs) ≡ take n (drop i (take end xs))
part xs i n end to h k e = sym (take_drop_take (to - i) i end xs (omega arith)) ∙ go (ltb end (i + n)) refl
  where
    ys : List ℕ
    ys = drop i (take end xs)

    go : (t : Bool) → ltb end (i + n) ≡ t → take (to - i) ys ≡ take n ys
    go true f =
        let b = ltb-true end (i + n) f in
        let l = length-drop i (take end xs) in
        let z = length-take-le end xs k in
        take_all (to - i) ys (omega arith) ∙ sym (take_all n ys (omega arith))
    go false f = let b = ltb-false end (i + n) f in let m : to - i ≡ n = omega arith in rw m

pub returns : goal.returns
returns c =
    let a = c.args in
    c.equal.ensures ∙ ap₂ same (part a.a.now a.i a.size a.end c.min-to.result (omega arith) (omega arith) c.min-to.ensures) (part a.b.now a.i a.size a.end c.min-to.result (omega arith) (omega arith) c.min-to.ensures)
