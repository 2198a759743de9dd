-- Laws of the reader: one for each test, and what holds where all are passed.
use Prim.Native.Nat.{ℕ, ◌+◌, ◌≤◌, ◌<◌}
use mathlib.Core.Path.{◌≡◌, refl}
use mathlib.Core.List.{List}
use lib.Dec.{ltb, eqb}
use lib.ListN.{length, drop, length-drop}
use lib.Seq.{length-take-le}
use native.Mathlib.Omega.{arith}
use borrow.Author.Tests.{lt-ltb, le-ltb, ne_eqb, ltb-false, eqb-false}
use Rattle.octets.proofs.AnswerLaws.{earns_zero}
use Rattle.a6.specs.Data.{suffix_octets, prefix_of, suffix_of, after_suffix}
use Rattle.a6.specs.Ending.{name_number, value_from}
use Rattle.a6.specs.Read.{read_number, value_of}
use Rattle.a6.specs.Parts.{in_last}

-- the data has a prefix length in range and its suffix
pub record Fronted (octets : List ℕ) : Type 0 where
  pub some : 0 < length octets
  pub low : prefix_of octets ≤ 128
  pub long : 1 + suffix_octets (prefix_of octets) ≤ length octets

module _ (octets : List ℕ) where
  pub read_empty : length octets ≡ 0 → read_number octets ≡ 11
  unfolding read_number
  read_empty e = rw e

  pub read_prefix : 0 < length octets → 128 < prefix_of octets → read_number octets ≡ 10
  unfolding read_number
  read_prefix s p = rw (read_number, ne_eqb (length octets) 0 (λ e. omega arith), lt-ltb 128 (prefix_of octets) p)

  pub read_suffix : 0 < length octets → prefix_of octets ≤ 128 → length octets < 1 + suffix_octets (prefix_of octets) → read_number octets ≡ 11
  unfolding read_number
  read_suffix s p l =
      rw (read_number, ne_eqb (length octets) 0 (λ e. omega arith), le-ltb 128 (prefix_of octets) p, lt-ltb (length octets) (1 + suffix_octets (prefix_of octets)) l)

  pub read_ending : Fronted octets → read_number octets ≡ name_number (prefix_of octets) (after_suffix octets)
  unfolding read_number
  read_ending f =
      rw (read_number, ne_eqb (length octets) 0 (λ e. omega (arith, f.some)), le-ltb 128 (prefix_of octets) f.low, le-ltb (length octets) (1 + suffix_octets (prefix_of octets)) f.long)

  -- the data can be read: its front is there, and it ends well
  pub readable : read_number octets ≡ 0 → Fronted octets × (name_number (prefix_of octets) (after_suffix octets) ≡ 0)
  unfolding read_number
  readable e =
      let t1 = earns_zero (eqb (length octets) 0) 10 _ e in
      let t2 = earns_zero (ltb 128 (prefix_of octets)) 9 _ t1.1 in
      let t3 = earns_zero (ltb (length octets) (1 + suffix_octets (prefix_of octets))) 10 _ t2.1 in
      let n : length octets ≡ 0 → ⊥ = eqb-false (length octets) 0 t1.0 in (
        record { some = omega (arith, n); low = ltb-false 128 (prefix_of octets) t2.0; long = ltb-false (length octets) (1 + suffix_octets (prefix_of octets)) t3.0 },
        t3.1,
      )

  pub suffix_long : Fronted octets → length (suffix_of octets) ≡ suffix_octets (prefix_of octets)
  unfolding suffix_of
  suffix_long f = length-take-le (suffix_octets (prefix_of octets)) (drop 1 octets) (omega (arith, f.long, length-drop 1 octets))

  -- the value by where the parts are: the suffix after the first octet, and the rest after it
  pub value_parts : value_from (prefix_of octets) (in_last (prefix_of octets) (suffix_of octets)) (after_suffix octets) ≡ value_of octets
  unfolding value_of
  value_parts = refl
