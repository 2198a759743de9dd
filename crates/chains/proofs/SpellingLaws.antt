-- The address that a chain spells, bit by bit, is the fold of joins: from its end, and from its start as a search goes.
use Prim.Native.Nat.{ℕ, zero, suc, ◌≤◌, ◌<◌}
use mathlib.Core.Path.{◌≡◌, refl, sym, ap, ◌∙◌}
use mathlib.Core.Logic.{inl, inr}
use mathlib.Core.Bool.{Bool, true, false}
use mathlib.Core.List.{List, [], ◌∷◌, append-nil}
use native.Mathlib.Omega.{arith}
use lib.Dec.{leb, eqb}
use lib.ListN.{length, get_or}
use borrow.Author.Tests.{leb-true, leb-false, eqb-true}
use Rattle.octets.specs.Octets.{Small, blank}
use Rattle.bits.specs.Bits.{octets_for, pack, pack_from}
use Rattle.bits.specs.Packing.{Bits}
use Rattle.octets.proofs.OctetLaws.{length_blank}
use Rattle.bits.proofs.PackingLaws.{pack_length, unpack_pack, unpack_bits, bits_append}
use Rattle.address.specs.Address.{bits, bit_at, join_of}
use Rattle.bits.proofs.UnpackLaws.{pack_small}
use Rattle.address.proofs.AddressLaws.{bit_ext, join_length, join_small, join_bit_high, join_bit_low, join_assoc, join_zero, join_all}
use Rattle.chains.specs.Lists.{In, pick, up_to}
use Rattle.chains.specs.Graph.{Graph}
use Rattle.chains.specs.Sound.{Sound}
use Rattle.chains.specs.Chain.{Linked, Chain, Complete, last_length, spelt_bit, spelt}
use Rattle.chains.specs.Listing.{chains_of}
use Rattle.chains.specs.Addresses.{insert, gather, addresses_of}
use Rattle.chains.specs.Spelling.{spell}
use Rattle.chains.proofs.ListLaws.{length_up_to, get_or_up_to}
use Rattle.chains.proofs.Listed.{listed_chain}
use Rattle.chains.proofs.ChainLaws.{spelt_own, spelt_later}

bits_up_to : (f : ℕ → ℕ) → ((k : ℕ) → f k < 2) → (n : ℕ) → Bits (up_to n (λ k. f k ∷ []))
unfolding up_to
bits_up_to f h zero = λ i. omega arith
bits_up_to f h (suc n) = bits_append (up_to n (λ k. f k ∷ [])) (f n ∷ []) (bits_up_to f h n) one
  where
    one : Bits (f n ∷ [])
    one zero = h n
    one (suc i) = omega arith

bit_small : (a : List ℕ) (k : ℕ) → bit_at a k < 2
unfolding bit_at bits
bit_small a k = unpack_bits 128 a k

module _ {N : Type 0} (g : Graph N) where
  spelt_bit_small : (p : List ℕ) (k : ℕ) → spelt_bit g p k < 2
  unfolding spelt_bit
  spelt_bit_small [] k = omega arith
  spelt_bit_small (i ∷ p) k = go (leb (g.len i) k) (bit_small (g.addr i) k) (spelt_bit_small p k)
    where
      go : (t : Bool) → bit_at (g.addr i) k < 2 → spelt_bit g p k < 2 → pick t (bit_at (g.addr i) k) (spelt_bit g p k) < 2
      go true h l = h
      go false h l = l

  module _ (p : List ℕ) where
    abbrev row : List ℕ
    row = up_to 128 (λ k. spelt_bit g p k ∷ [])

    row_bits : Bits row
    row_bits = bits_up_to (spelt_bit g p) (spelt_bit_small p) 128

    pub spelt_length : length (spelt g p) ≡ 16
    unfolding spelt
    spelt_length = pack_length row ∙ ap octets_for (length_up_to (spelt_bit g p) 128)

    pub spelt_small : Small (spelt g p)
    unfolding spelt
    spelt_small = pack_small row row_bits

    pub spelt_bit_lem : (k : ℕ) → k < 128 → bit_at (spelt g p) k ≡ spelt_bit g p k
    unfolding spelt bit_at bits pack
    spelt_bit_lem k h =
        let n : length row ≡ 128 = length_up_to (spelt_bit g p) 128 in
        let u = unpack_pack 128 row (omega (arith, n)) row_bits [] in
        ap (λ (bs : List ℕ). get_or bs k 0) (rw (n, append-nil (pack_from 0 0 row)) at u) ∙ get_or_up_to (spelt_bit g p) 128 k h

  module _ (sound : Sound g) where
    -- Theorem: bit by bit is by joins: what the rest spells up to the record's prefix length, and the record's own bits after it
    pub spelt_join : (i : ℕ) (p : List ℕ) → i < g.size → spelt g (i ∷ p) ≡ join_of (spelt g p) (g.addr i) (g.len i)
    spelt_join i p h =
        let n = sound.sixteen i h in
        bit_ext (spelt g (i ∷ p)) (join_of (spelt g p) (g.addr i) (g.len i)) (spelt_length (i ∷ p)) (join_length (spelt g p) (g.addr i) (g.len i) (spelt_length p) n)
        (spelt_small (i ∷ p)) (join_small (spelt g p) (g.addr i) (g.len i) (spelt_length p) n) (λ k l. spelt_bit_lem (i ∷ p) k l ∙ go k l n (leb (g.len i) k) refl)
      where
        go : (k : ℕ) → k < 128 → length (g.addr i) ≡ 16 → (t : Bool) → leb (g.len i) k ≡ t → spelt_bit g (i ∷ p) k ≡ bit_at (join_of (spelt g p) (g.addr i) (g.len i)) k
        go k l n true e =
            let m = leb-true (g.len i) k e in
            spelt_own g i p k m ∙ sym (join_bit_low (spelt g p) (g.addr i) (g.len i) (spelt_length p) n k m)
        go k l n false e =
            let m = leb-false (g.len i) k e in
            spelt_later g i p k m ∙ sym (join_bit_high (spelt g p) (g.addr i) (g.len i) (spelt_length p) n k m ∙ spelt_bit_lem p k l)

    -- a finished record spells its own address
    pub spelt_end : (i : ℕ) (p : List ℕ) → i < g.size → g.len i ≡ 0 → spelt g (i ∷ p) ≡ g.addr i
    spelt_end i p h e = spelt_join i p h ∙ ap (join_of (spelt g p) (g.addr i)) e ∙ join_zero (spelt g p) (g.addr i) (sound.sixteen i h) (sound.small i h)

    -- from the start: the chain spells the bits before b, and a has those from b on
    spell_join : (i : ℕ) (p : List ℕ) (b : ℕ) (a : List ℕ) → i < g.size → g.len i ≤ b → Linked g i p → last_length g (g.len i) p ≡ 0 → length a ≡ 16 →
        spell g b a (i ∷ p) ≡ join_of (spelt g (i ∷ p)) a b
    unfolding spell last_length
    spell_join i [] b a h s l z n = ap (λ (v : List ℕ). join_of v a b) (sym (spelt_end i [] h z))
    spell_join i (j ∷ p) b a h s l z n =
        let m = sound.sixteen i h in
        spell_join j p (g.len i) (join_of (g.addr i) a b) l.0.1.0 l.0.2 l.1 z (join_length (g.addr i) a b m n)
        ∙ sym (join_assoc a (g.addr i) (spelt g (j ∷ p)) n m (spelt_length (j ∷ p)) (g.len i) b s)
        ∙ ap (λ (v : List ℕ). join_of v a b) (sym (spelt_join i (j ∷ p) h))

    -- Theorem: a search that begins with 128 bits open spells what the chain spells
    pub spell_spelt : (x : N) (p a : List ℕ) → Chain g x p → Complete g p → length a ≡ 16 → spell g 128 a p ≡ spelt g p
    unfolding last_length
    spell_spelt x [] a c z n = elim c [ ]
    spell_spelt x (i ∷ p) a c z n =
        spell_join i p 128 a c.0.0 (sound.short i c.0.0) c.1 z n
        ∙ join_all (spelt g (i ∷ p)) a 128 (spelt_length (i ∷ p)) n (spelt_small (i ∷ p)) (omega arith)

-- ---- the addresses, as a search finds them
module _ {N : Type 0} (g : Graph N) (b : ℕ) (f f' : List ℕ → List ℕ) where
  gather_same : (ps l : List (List ℕ)) → ((p : List ℕ) → In p ps → last_length g b p ≡ 0 → f p ≡ f' p) → gather g b f l ps ≡ gather g b f' l ps
  unfolding gather
  gather_same [] l h = refl
  gather_same (p ∷ ps) l h =
      ap (λ (m : List (List ℕ)). gather g b f m ps) (go (eqb (last_length g b p) 0) refl) ∙ gather_same ps _ (λ q m. h q (inr m))
    where
      go : (t : Bool) → eqb (last_length g b p) 0 ≡ t → pick t (insert (f p) l) l ≡ pick t (insert (f' p) l) l
      go true e = ap (λ (v : List ℕ). insert v l) (h p (inl refl) (eqb-true (last_length g b p) 0 e))
      go false e = refl

-- the addresses of a name are those that a search finds, from no bits at all
pub addresses_spell : {N : Type 0} (g : Graph N) → Sound g → (x : N) → addresses_of g x ≡ gather g 128 (spell g 128 (blank 16)) [] (chains_of g x)
unfolding addresses_of
addresses_spell g sound x =
    gather_same g 128 (spelt g) (spell g 128 (blank 16)) (chains_of g x) []
    (λ p m z. sym (spell_spelt g sound x p (blank 16) (listed_chain g x p m).0 z (length_blank 16)))
