-- What is read of data can be written, and data that was written is read again.
use Prim.Native.Nat.{ℕ, ◌+◌, ◌-◌, ◌/◌, ◌≤◌, max}
use mathlib.Core.Path.{◌≡◌, ap, ◌∙◌, sym}
use mathlib.Core.List.{List, ◌∷◌, ◌++◌}
use lib.ListN.{length, drop, length-append, length-take, length-drop, drop_of_length-le}
use lib.Seq.{take_at, take_all, drop-append-add, get_or_at}
use native.Mathlib.Omega.{arith}
use Rattle.octets.specs.Octets.{blank, Small}
use Rattle.octets.proofs.OctetLaws.{small_drop, small_take}
use Rattle.octets.proofs.SmallLaws.{small_cons, small_append}
use Rattle.address.specs.Address.{join_of}
use Rattle.a6.specs.Data.{suffix_octets, octets_of, Shaped}
use Rattle.a6.specs.Ending.{name_number, value_from}
use Rattle.a6.specs.Parts.{laid_of}
use Rattle.a6.specs.declared.Value.{Value}
use Rattle.address.proofs.ClearLaws.{join_clear}
use Rattle.a6.proofs.SuffixLaws.{join_suffix, join_own}
use Rattle.a6.proofs.AcceptedLaws.{Writable}
use Rattle.a6.proofs.RoundLaws.{read_name, read_shaped, read_writable, again, own_value}
use Rattle.draft.specs.Layout.{address_part, prefix_part, rest_part}
use Rattle.draft.specs.Read.{draft_number, draft_value}
use Rattle.draft.specs.Write.{draft_data}
use Rattle.draft.specs.Standard.{without_first, draft_standard}
use Rattle.draft.proofs.ReadLaws.{Fronted, address_long, read_ending}

-- ---- what is read
-- a join with zeros clears the first bits
join_first : (l : ℕ) (a : List ℕ) → l ≤ 128 → length a ≡ 16 → Small a → join_of (blank 16) a l ≡ without_first l a
unfolding without_first
join_first l a low long small =
    let k : 16 - suffix_octets l ≡ l / 8 = omega arith in
    let n = length-drop (16 - suffix_octets l) a in
    rw k at (sym (join_own l a low long) ∙ join_suffix l (drop (16 - suffix_octets l) a) low (omega arith) (small_drop (16 - suffix_octets l) a small))

module _ (octets : List ℕ) (small : Small octets) (f : Fronted octets) (e : name_number (prefix_part octets) (rest_part octets) ≡ 0) where
  rest_small : Small (rest_part octets)
  unfolding rest_part
  rest_small = small_drop 17 octets small

  pub value_shaped : Shaped (draft_value octets)
  unfolding draft_value
  value_shaped = read_shaped (prefix_part octets) (rest_part octets) rest_small e (address_part octets) (address_long octets f) f.low

  pub value_writable : Writable (draft_value octets)
  unfolding draft_value
  value_writable = read_writable (prefix_part octets) (rest_part octets) rest_small e (address_part octets) (address_long octets f) f.low

  pub value_data : draft_data (draft_value octets) ≡ draft_standard octets
  unfolding draft_value value_from draft_data draft_standard
  value_data =
      let a = join_first (prefix_part octets) (address_part octets) f.low (address_long octets f) (small_take 16 octets small) in
      λ i. a i ++ (prefix_part octets ∷ read_name (prefix_part octets) (rest_part octets) rest_small e i)

-- ---- what was written
module _ (v : Value) (long : length v.address ≡ 16) where
  data_length : length (draft_data v) ≡ 17 + length (octets_of v.name)
  unfolding draft_data
  data_length = length-append v.address (v.prefix ∷ octets_of v.name) ∙ omega arith

  -- 272 octets are enough for every value
  pub data_short : v.name.length ≤ 255 → length (draft_data v) ≤ 272
  unfolding octets_of
  data_short h = omega (arith, data_length, length-take v.name.length v.name.octets)

  data_address : address_part (draft_data v) ≡ v.address
  unfolding draft_data
  data_address = take_at v.address (v.prefix ∷ octets_of v.name) 16 long

  data_prefix : prefix_part (draft_data v) ≡ v.prefix
  unfolding draft_data
  data_prefix = get_or_at v.address v.prefix (octets_of v.name) 0 16 long

  data_rest : rest_part (draft_data v) ≡ octets_of v.name
  unfolding rest_part draft_data
  data_rest =
      let ys = v.prefix ∷ octets_of v.name in
      ap (λ (n : ℕ). drop (n + 1) (v.address ++ ys)) (sym long) ∙ drop-append-add v.address ys 1

  module _ (w : Writable v) where
    pub written_number : draft_number (draft_data v) ≡ 0
    written_number =
        read_ending (draft_data v) (record { long = omega (arith, data_length); low = omega (arith, data_prefix, w.low) })
        ∙ (λ i. name_number (data_prefix i) (data_rest i)) ∙ (again v w).number

    pub written_value : Shaped v → draft_value (draft_data v) ≡ v
    unfolding draft_value
    written_value s =
        (λ i. value_from (data_prefix i) (data_address i) (data_rest i))
        ∙ own_value v w s v.address (join_clear v.prefix v.address w.low s.address_long s.address_small w.clear)

-- the data in the order in which the code lays it: the whole address before the prefix length
pub data_laid : (v : Value) → length v.address ≤ 16 → laid_of v 16 ≡ draft_data v
unfolding draft_data
data_laid v long =
    let t = take_all 16 v.address long in
    let d = drop_of_length-le v.address {i = max 16 (v.prefix / 8)} (omega arith) in
    λ i. t i ++ (v.prefix ∷ (d i ++ octets_of v.name))

pub data_small : (v : Value) → Shaped v → Small (draft_data v)
unfolding draft_data octets_of
data_small v s =
    small_append v.address (v.prefix ∷ octets_of v.name) s.address_small
    (small_cons v.prefix (octets_of v.name) s.prefix_small (small_take v.name.length v.name.octets s.octets_small))
