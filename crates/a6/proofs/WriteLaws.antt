-- Laws of the writer: A6 data as its parts, one after the other.
use Prim.Native.Nat.{ℕ, suc, ◌+◌, ◌-◌, ◌/◌, ◌≤◌, max}
use mathlib.Core.Path.{◌≡◌, refl, ap, sym, ◌∙◌}
use mathlib.Core.Bool.{Bool, true, false}
use mathlib.Core.List.{List, ◌∷◌, ◌++◌}
use lib.Dec.{ltb}
use lib.ListN.{length, drop, length-append, length-drop, drop_of_length-le}
use native.Mathlib.Omega.{arith}
use borrow.Author.Tests.{ltb-true, ltb-false}
use Rattle.a6.specs.Data.{suffix_octets, octets_of}
use Rattle.a6.specs.Write.{data_of}
use Rattle.a6.specs.Parts.{laid_of}
use Rattle.a6.specs.declared.Value.{Value}

module _ (v : Value) (long : length v.address ≡ 16) where
  -- how long the data is
  pub suffix_length : v.prefix ≤ 128 → length (drop (16 - suffix_octets v.prefix) v.address) ≡ suffix_octets v.prefix
  suffix_length low = length-drop (16 - suffix_octets v.prefix) v.address ∙ omega arith

  pub data_length : v.prefix ≤ 128 → length (data_of v) ≡ 1 + suffix_octets v.prefix + length (octets_of v.name)
  unfolding data_of
  data_length low =
      ap suc (length-append (drop (16 - suffix_octets v.prefix) v.address) (octets_of v.name)) ∙ rw (suffix_length low) (omega arith)

-- the data in the order in which the code lays it: no octet of the address before the prefix length
pub data_laid : (v : Value) → length v.address ≤ 16 → laid_of v 0 ≡ data_of v
unfolding data_of
data_laid v long = ap (λ (xs : List ℕ). v.prefix ∷ (xs ++ octets_of v.name)) (go (ltb 16 (v.prefix / 8)) refl)
  where
    go : (t : Bool) → ltb 16 (v.prefix / 8) ≡ t → drop (max 0 (v.prefix / 8)) v.address ≡ drop (16 - suffix_octets v.prefix) v.address
    go true h =
        let k = ltb-true 16 (v.prefix / 8) h in
        drop_of_length-le v.address {i = max 0 (v.prefix / 8)} (omega arith) ∙ sym (drop_of_length-le v.address {i = 16 - suffix_octets v.prefix} (omega arith))
    go false h =
        let k = ltb-false 16 (v.prefix / 8) h in
        let e : max 0 (v.prefix / 8) ≡ 16 - suffix_octets v.prefix = omega arith in
        ap (λ (i : ℕ). drop i v.address) e
