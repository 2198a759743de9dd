-- What is read of A6 data can be written, and data that was written is read again.
use Prim.Native.Nat.{ℕ, suc, ◌+◌, ◌-◌, ◌%◌}
use mathlib.Core.Path.{◌≡◌, refl, ap, ◌∙◌}
use mathlib.Core.List.{List, ◌∷◌, ◌++◌}
use lib.ListN.{length, drop, length-append}
use lib.Seq.{take_at, drop_at}
use native.Mathlib.Omega.{arith}
use Rattle.octets.specs.Octets.{blank, Small}
use Rattle.octets.proofs.OctetLaws.{length_blank, small_drop, small_take}
use Rattle.octets.proofs.SmallLaws.{small_cons, small_append}
use Rattle.address.specs.Address.{join_of}
use Rattle.a6.specs.Data.{suffix_octets, prefix_of, suffix_of, after_suffix, octets_of, Shaped}
use Rattle.a6.specs.Ending.{name_number, value_from}
use Rattle.a6.specs.Read.{read_number, aligned, value_of}
use Rattle.a6.specs.Write.{data_of}
use Rattle.a6.specs.Standard.{without_padding, standard_data}
use Rattle.a6.specs.declared.Value.{Value}
use Rattle.address.proofs.ClearLaws.{join_clear}
use Rattle.a6.proofs.SuffixLaws.{join_suffix, join_own}
use Rattle.a6.proofs.ReadLaws.{Fronted, suffix_long, read_ending}
use Rattle.a6.proofs.AcceptedLaws.{Writable}
use Rattle.a6.proofs.WriteLaws.{suffix_length, data_length}
use Rattle.a6.proofs.RoundLaws.{read_name, read_shaped, read_writable, again, own_value}

-- ---- what is read
module _ (octets : List ℕ) (small : Small octets) (f : Fronted octets) (e : name_number (prefix_of octets) (after_suffix octets) ≡ 0) where
  rest_small : Small (after_suffix octets)
  unfolding after_suffix
  rest_small = small_drop (1 + suffix_octets (prefix_of octets)) octets small

  aligned_long : length (aligned octets) ≡ 16
  aligned_long =
      length-append (blank (16 - suffix_octets (prefix_of octets))) (suffix_of octets) ∙ rw (length_blank (16 - suffix_octets (prefix_of octets)), suffix_long octets f) (omega arith)

  address_standard : drop (16 - suffix_octets (prefix_of octets)) (join_of (blank 16) (aligned octets) (prefix_of octets)) ≡ without_padding (prefix_of octets % 8) (suffix_of octets)
  unfolding suffix_of
  address_standard =
      let k = 16 - suffix_octets (prefix_of octets) in
      let s = small_take (suffix_octets (prefix_of octets)) (drop 1 octets) (small_drop 1 octets small) in
      ap (drop k) (join_suffix (prefix_of octets) (suffix_of octets) f.low (suffix_long octets f) s) ∙ drop_at (blank k) (without_padding (prefix_of octets % 8) (suffix_of octets)) k (length_blank k)

  pub value_shaped : Shaped (value_of octets)
  unfolding value_of
  value_shaped = read_shaped (prefix_of octets) (after_suffix octets) rest_small e (aligned octets) aligned_long f.low

  pub value_writable : Writable (value_of octets)
  unfolding value_of
  value_writable = read_writable (prefix_of octets) (after_suffix octets) rest_small e (aligned octets) aligned_long f.low

  pub value_data : data_of (value_of octets) ≡ standard_data octets
  unfolding value_of value_from data_of standard_data
  value_data = λ i. prefix_of octets ∷ (address_standard i ++ read_name (prefix_of octets) (after_suffix octets) rest_small e i)

-- ---- what was written
module _ (v : Value) (long : length v.address ≡ 16) (w : Writable v) where
  count : length (drop (16 - suffix_octets v.prefix) v.address) ≡ suffix_octets v.prefix
  count = suffix_length v long w.low

  data_prefix : prefix_of (data_of v) ≡ v.prefix
  unfolding data_of
  data_prefix = refl

  data_suffix : suffix_of (data_of v) ≡ drop (16 - suffix_octets v.prefix) v.address
  unfolding suffix_of data_of
  data_suffix = take_at (drop (16 - suffix_octets v.prefix) v.address) (octets_of v.name) (suffix_octets v.prefix) count

  data_after : after_suffix (data_of v) ≡ octets_of v.name
  unfolding after_suffix data_of
  data_after =
      let e : 1 + suffix_octets v.prefix ≡ suc (suffix_octets v.prefix) = omega arith in
      rw e (drop_at (drop (16 - suffix_octets v.prefix) v.address) (octets_of v.name) (suffix_octets v.prefix) count)

  pub written_number : read_number (data_of v) ≡ 0
  written_number =
      let l = data_length v long w.low in
      let p = data_prefix in
      read_ending (data_of v) (record { some = omega arith; low = omega (arith, w.low); long = omega arith })
      ∙ (λ i. name_number (data_prefix i) (data_after i)) ∙ (again v w).number

  pub written_value : Shaped v → value_of (data_of v) ≡ v
  unfolding value_of
  written_value s =
      (λ i. value_from (data_prefix i) (blank (16 - suffix_octets (data_prefix i)) ++ data_suffix i) (data_after i))
      ∙ own_value v w s (blank (16 - suffix_octets v.prefix) ++ drop (16 - suffix_octets v.prefix) v.address)
      (join_own v.prefix v.address w.low s.address_long ∙ join_clear v.prefix v.address w.low s.address_long s.address_small w.clear)

pub data_small : (v : Value) → Shaped v → Small (data_of v)
unfolding data_of octets_of
data_small v s =
    let k = 16 - suffix_octets v.prefix in
    small_cons v.prefix (drop k v.address ++ octets_of v.name) s.prefix_small
    (small_append (drop k v.address) (octets_of v.name) (small_drop k v.address s.address_small) (small_take v.name.length v.name.octets s.octets_small))
