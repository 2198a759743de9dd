-- The name that a walk starts from: its octets, and that it is in standard form.
use Prim.Native.Nat.{ℕ, ◌≤◌}
use mathlib.Core.Path.{◌≡◌, refl, ap, ◌∙◌, sym}
use mathlib.Core.Bool.{false}
use mathlib.Core.List.{List, [], ◌∷◌, ◌++◌, append-nil}
use lib.ListN.{length, take, drop, length-append}
use lib.Seq.{take_at, drop_at}
use native.Mathlib.Omega.{arith}
use Rattle.octets.specs.Octets.{Small}
use Rattle.bits.specs.Bits.{unpack, pack_from, pack}
use Rattle.bits.proofs.BitLaws.{unpack_length, pack_unpack}
use Rattle.bits.proofs.PackingLaws.{unpack_bits}
use Rattle.names.specs.Standard.{Unit, label, bit_label, encode_from, encode}
use Rattle.names.proofs.WriteLaws.{encode_before, bit_label_some}
use Rattle.rewriting.specs.Rewrite.{long_run}
use Rattle.reverse.specs.Walk.{ip6, arpa, start_of}
use Rattle.rewriting.specs.Spots.{units_at, Standing}
use Rattle.rewriting.proofs.LargeLaws.{long_before}
use Rattle.rewriting.proofs.FormLaws.{FitUnits, fit_before, encode_standing, encode_at_lem}

-- the octets of IP6.ARPA, and the zeros that stand there before it is written
abbrev suffix : List ℕ
suffix = 3 ∷ 73 ∷ 80 ∷ 54 ∷ 4 ∷ 65 ∷ 82 ∷ 80 ∷ 65 ∷ 0 ∷ []

abbrev noughts : List ℕ
noughts = 0 ∷ 0 ∷ 0 ∷ 0 ∷ 0 ∷ 0 ∷ 0 ∷ 0 ∷ 0 ∷ 0 ∷ []

module _ (address : List ℕ) (s : Small address) (l : length address ≡ 16) where
  abbrev bs : List ℕ
  bs = unpack 128 address

  abbrev rest : List Unit
  rest = label ip6 ∷ label arpa ∷ []

  bits_length : length bs ≡ 128
  bits_length = unpack_length 128 address (omega arith)

  start_octets : encode (start_of address) ≡ 65 ∷ 128 ∷ (address ++ suffix)
  unfolding encode start_of encode_from bit_label pack
  start_octets =
      let n = bits_length in
      let p : pack_from 0 0 bs ≡ address = pack_unpack 128 address s (l ∙ refl) (omega arith) in
      encode_before bs [] rest ∙ ap (λ (run : List ℕ). encode_from run rest) (append-nil bs)
      ∙ ap (λ (ys : List ℕ). ys ++ encode_from [] rest) (bit_label_some bs (omega arith)) ∙ rw (n, p)

  -- the header, the address and the suffix, written one after the other
  pub start_written : (x y : List ℕ) → x ≡ address → y ≡ suffix → 65 ∷ 128 ∷ (take 16 (x ++ noughts) ++ (y ++ drop 10 (drop 16 (x ++ noughts)))) ≡ encode (start_of address)
  start_written x y p q =
      let t : take 16 (x ++ noughts) ≡ address = ap (λ (ys : List ℕ). take 16 (ys ++ noughts)) p ∙ take_at address noughts 16 l in
      let d : drop 16 (x ++ noughts) ≡ noughts = ap (λ (ys : List ℕ). drop 16 (ys ++ noughts)) p ∙ drop_at address noughts 16 l in
      rw (t, d, q) (sym start_octets)

  pub length_start : length (encode (start_of address)) ≤ 255
  length_start = let n = ap length start_octets in let a = length-append address suffix in omega arith

  pub short_start : long_run 0 (start_of address) ≡ false
  unfolding start_of long_run
  short_start = let n : length (bs ++ []) ≡ 128 = ap length (append-nil bs) ∙ bits_length in long_before bs [] rest ∙ rw n

  pub fit_start : FitUnits (start_of address)
  unfolding start_of
  fit_start = fit_before bs rest (unpack_bits 128 address) (omega arith, omega arith, (omega arith, omega arith, record {}))

  pub start_standing : Standing (encode (start_of address))
  start_standing = encode_standing (start_of address) fit_start short_start length_start

  pub start_units : units_at (encode (start_of address)) 0 ≡ start_of address
  start_units = encode_at_lem (start_of address) fit_start short_start length_start
