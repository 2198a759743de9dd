-- Laws of the list of names in its buckets: what a search along a bucket finds, and how a name is added.
use Prim.Native.Nat.{ℕ, ◌+◌, ◌-◌, ◌%◌, ◌≤◌, ◌<◌}
use mathlib.Core.Path.{◌≡◌, refl, ap, sym, subst, ◌∙◌}
use mathlib.Core.Bool.{Bool, true, false}
use mathlib.Core.List.{List, [], ◌∷◌, ◌++◌}
use native.Mathlib.Decide.{ℕ_discrete, dec_lt}
use native.Mathlib.Omega.{arith}
use lib.Dec.{ltb}
use borrow.Author.Tests.{lt-ltb, ltb-true}
use lib.ListN.{length, get_or, set, length-set, get_or-replicate}
use lib.Seq.{get_or-set_same, get_or-set_other}
use Rattle.octets.specs.Octets.{blank}
use Rattle.octets.proofs.OctetLaws.{length_blank}
use Rattle.names.specs.Standard.{same_name}
use Rattle.plan.proofs.MarkLaws.{same_mark}
use Rattle.plan.proofs.AlikeLaws.{alike_same}
use Rattle.plan.specs.Layout.{name_in, owner_slot, record_at, owner_at}
use Rattle.plan.specs.Good.{Holds}
use Rattle.plan.specs.Marks.{alike_of}
use Rattle.chains.proofs.ListLaws.{both_true}
use Rattle.numbering.specs.Numbers.{number_in, meeting}
use Rattle.numbering.specs.Buckets.{max_names, buckets, slot_at, name_at, Named, held, bucket_of, bucket_at, last_in, Listing, again, Before}
use Rattle.numbering.proofs.NumberLaws.{number_same, number_none, number_append, number_new, meeting_known, meeting_new}
use Rattle.numbering.proofs.HeldLaws.{held_length, held_at, held_more, last_here, last_past, last_none, last_same, Last, last_is}

-- ---- buckets
pub bucket_small : (s : List ℕ) → bucket_of s < buckets
unfolding bucket_of
bucket_small s = omega arith

-- slots of the same name are in one bucket
bucket_same : (a b : List ℕ) → Holds a → Holds b → same_name (name_in a) (name_in b) ≡ true → bucket_of a ≡ bucket_of b
unfolding bucket_of
bucket_same a b p q h = ap (λ (v : ℕ). v % buckets) (same_mark a b p q h)

-- ---- the empty list
pub listing_none : (t : List ℕ) → Listing t (blank buckets) (blank max_names) (blank max_names) 0
unfolding blank
listing_none t = record {
  heads = length_blank buckets;
  links = length_blank max_names;
  room = length_blank max_names;
  fits = omega arith;
  named = λ k l. absurd (omega arith);
  apart = λ k l. absurd (omega arith);
  last = λ b l. get_or-replicate {A = ℕ} buckets b 0 0 l ∙ sym (last_none (bucket_at t (blank max_names)) b);
  before = λ k l. absurd (omega arith);
}

-- ---- a search along a bucket, with one more than the number that is looked at next: the names from there on are others
pub record Seeking (t places slot : List ℕ) (count next : ℕ) : Type 0 where
  pub most : next ≤ count
  pub here : (k : ℕ) → k + 1 ≡ next → bucket_at t places k ≡ bucket_of slot
  pub rest : (k : ℕ) → next ≤ k → k < count → same_name (name_at t (get_or places k 0)) (name_in slot) ≡ false

module _ {t head link places : List ℕ} {count : ℕ} (w : Listing t head link places count) {slot : List ℕ} (s : Holds slot) where
  -- a name of another bucket is another name
  other : (k : ℕ) → k < count → (bucket_at t places k ≡ bucket_of slot → ⊥) → same_name (name_at t (get_or places k 0)) (name_in slot) ≡ false
  other k l d = go (same_name (name_at t (get_or places k 0)) (name_in slot)) refl
    where
      go : (b : Bool) → same_name (name_at t (get_or places k 0)) (name_in slot) ≡ b → same_name (name_at t (get_or places k 0)) (name_in slot) ≡ false
      go true e = absurd (d (bucket_same (slot_at t (get_or places k 0)) slot (w.named k l).holds s e))
      go false e = e

  pub seek_start : (next : ℕ) → next ≡ get_or head (bucket_of slot) 0 → Seeking t places slot count next
  seek_start next e =
      let r = subst (Last (bucket_at t places) (bucket_of slot) count) (sym (e ∙ w.last (bucket_of slot) (bucket_small slot))) (last_is (bucket_at t places) (bucket_of slot) count) in record {
        most = r.most;
        here = r.here;
        rest = λ k l m. other k m (r.after k l m);
      }

  pub seek_more : (k next next' : ℕ) → Seeking t places slot count next → k + 1 ≡ next → same_name (name_at t (get_or places k 0)) (name_in slot) ≡ false →
      next' ≡ get_or link k 0 → Seeking t places slot count next'
  seek_more k next next' z e d f =
      let m = z.most in
      let kc : k < count = omega arith in
      let q : next' ≡ last_in (bucket_at t places) (bucket_of slot) k = f ∙ w.before k kc ∙ ap (λ (b : ℕ). last_in (bucket_at t places) b k) (z.here k e) in
      let r = subst (Last (bucket_at t places) (bucket_of slot) k) (sym q) (last_is (bucket_at t places) (bucket_of slot) k) in record {
        most = let p = r.most in omega arith;
        here = r.here;
        rest = λ j l o. past r kc j l o (dec_lt j k);
      }
    where
      past : Last (bucket_at t places) (bucket_of slot) k next' → k < count → (j : ℕ) → next' ≤ j → j < count → Dec (j < k) → same_name (name_at t (get_or places j 0)) (name_in slot) ≡ false
      past r kc j l o (yes p) = other j o (r.after j l p)
      past r kc j l o (no p) = at_k (ℕ_discrete j k)
        where
          at_k : Dec (j ≡ k) → same_name (name_at t (get_or places j 0)) (name_in slot) ≡ false
          at_k (yes u) = rw u d
          at_k (no u) = z.rest j (omega (arith, u)) o

  pub link_falls : (k : ℕ) → k < count → get_or link k 0 ≤ k
  link_falls k l = rw (w.before k l) (last_is (bucket_at t places) (bucket_at t places k) k).most

  -- the number of a name that is found, and that there is none
  pub seek_found : (k : ℕ) → k < count → same_name (name_at t (get_or places k 0)) (name_in slot) ≡ true → k ≡ number_in (held t places count) (name_in slot)
  seek_found k l e = sym (w.apart k l) ∙ number_same (held t places count) (name_at t (get_or places k 0)) (name_in slot) e

  pub seek_none : (next : ℕ) → Seeking t places slot count next → next ≡ 0 → count ≡ number_in (held t places count) (name_in slot)
  seek_none next z e =
      let m = held_length t places count in
      sym (number_none (held t places count) (name_in slot) (λ k l. ap (λ (x : List ℕ). same_name x (name_in slot)) (held_at t places count k (omega arith)) ∙ z.rest k (omega arith) (omega arith)) ∙ m)

-- ---- a name is met
module _ {t head link places : List ℕ} {count : ℕ} (w : Listing t head link places count) (p : ℕ) where
  abbrev x : List ℕ
  x = name_at t p

  abbrev ns : List (List ℕ)
  ns = held t places count

  pub names_known : (k : ℕ) → k ≡ number_in ns x → k < count → ns ≡ meeting ns x
  names_known k e l = let m = held_length t places count in sym (meeting_known ns x (omega arith))

  module _ (r : count < max_names) (g : Named t p) (e : count ≡ number_in ns x) where
    abbrev b : ℕ
    b = bucket_of (slot_at t p)

    abbrev head' : List ℕ
    head' = set head b (count + 1)

    abbrev link' : List ℕ
    link' = set link count (get_or head b 0)

    abbrev places' : List ℕ
    places' = set places count p

    -- the new name and the old ones
    place_new : get_or places' count 0 ≡ p
    place_new = get_or-set_same places count p 0 (let m = w.room in omega arith)

    place_old : (k : ℕ) → k < count → get_or places' k 0 ≡ get_or places k 0
    place_old k l = get_or-set_other places count k p 0 (λ z. omega arith)

    bucket_old : (k : ℕ) → k < count → bucket_at t places k ≡ bucket_at t places' k
    bucket_old k l = ap (λ (v : ℕ). bucket_of (slot_at t v)) (sym (place_old k l))

    bucket_new : bucket_at t places' count ≡ b
    bucket_new = ap (λ (v : ℕ). bucket_of (slot_at t v)) place_new

    names_new : held t places' (count + 1) ≡ ns ++ (x ∷ [])
    names_new = held_more t places count p (let m = w.room in omega arith)

    absent : number_in ns x ≡ length ns
    absent = sym e ∙ sym (held_length t places count)

    -- what holds of the old ones and of the new one holds of all
    each : (P : ℕ → Type 0) → ((k : ℕ) → k < count → P k) → P count → (k : ℕ) → k < count + 1 → P k
    each P f h k l = go (dec_lt k count)
      where
        go : Dec (k < count) → P k
        go (yes o) = f k o
        go (no o) = let q : count ≡ k = omega arith in subst P q h

    last_new : (a : ℕ) → a < buckets → get_or head' a 0 ≡ last_in (bucket_at t places') a (count + 1)
    last_new a l = go (ℕ_discrete a b)
      where
        go : Dec (a ≡ b) → get_or head' a 0 ≡ last_in (bucket_at t places') a (count + 1)
        go (yes q) = rw q (get_or-set_same head b (count + 1) 0 (let m = w.heads in let n = bucket_small (slot_at t p) in omega arith) ∙ sym (last_here (bucket_at t places') b count bucket_new))
        go (no q) =
            get_or-set_other head b a (count + 1) 0 q ∙ w.last a l ∙ last_same (bucket_at t places) (bucket_at t places') a count bucket_old
            ∙ sym (last_past (bucket_at t places') a count (λ z. q (sym z ∙ bucket_new)))

    listing_new : Listing t head' link' places' (count + 1)
    listing_new = record {
      heads = length-set head b (count + 1) ∙ w.heads;
      links = length-set link count (get_or head b 0) ∙ w.links;
      room = length-set places count p ∙ w.room;
      fits = omega arith;
      named = each (λ k. Named t (get_or places' k 0)) (λ k l. subst (Named t) (sym (place_old k l)) (w.named k l)) (subst (Named t) (sym place_new) g);
      apart = each (λ k. number_in (held t places' (count + 1)) (name_at t (get_or places' k 0)) ≡ k)
          (λ k l. rw (names_new, place_old k l) (number_append ns (x ∷ []) (name_at t (get_or places k 0)) (let a = w.apart k l in let m = held_length t places count in omega arith) ∙ w.apart k l))
          (rw (names_new, place_new) (number_new ns x absent ∙ held_length t places count));
      last = last_new;
      before = each (λ k. get_or link' k 0 ≡ last_in (bucket_at t places') (bucket_at t places' k) k)
          (λ k l. get_or-set_other link count k (get_or head b 0) 0 (λ z. omega arith) ∙ w.before k l
          ∙ last_same (bucket_at t places) (bucket_at t places') (bucket_at t places k) k (λ j o. bucket_old j (omega arith))
          ∙ ap (λ (a : ℕ). last_in (bucket_at t places') a k) (bucket_old k l))
          (get_or-set_same link count (get_or head b 0) 0 (let m = w.links in omega arith) ∙ w.last b (bucket_small (slot_at t p))
          ∙ last_same (bucket_at t places) (bucket_at t places') b count bucket_old
          ∙ ap (λ (a : ℕ). last_in (bucket_at t places') a count) (sym bucket_new));
    }

    pub listing_put : (b' : ℕ) → b' ≡ b → Listing t (set head b' (count + 1)) (set link count (get_or head b' 0)) places' (count + 1)
    listing_put b' q = rw q listing_new

    pub names_met : held t places' (count + 1) ≡ meeting ns x
    names_met = names_new ∙ sym (meeting_new ns x absent)

-- ---- the owner of a record is met, or it is that of the record before
module _ (t : List ℕ) (i : ℕ) where
  -- where it is seen to be the same, it is
  again_same : again t i ≡ true → (0 < i) × (same_name (owner_at t (i - 1)) (owner_at t i) ≡ true)
  unfolding again
  again_same h =
      let p = both_true (ltb 0 i) (alike_of (owner_slot (record_at t (i - 1))) (owner_slot (record_at t i))) h in
      (ltb-true 0 i p.0, alike_same (owner_slot (record_at t (i - 1))) (owner_slot (record_at t i)) p.1)

  pub again_after : again t i ≡ true → 0 < i
  again_after h = (again_same h).0

  pub again_first : i ≡ 0 → again t i ≡ false
  unfolding again
  again_first e = rw e

  pub again_is : (i ≡ 0 → ⊥) → again t i ≡ alike_of (owner_slot (record_at t (i - 1))) (owner_slot (record_at t i))
  unfolding again
  again_is n = rw (lt-ltb 0 i (omega (arith, n)))

  -- its number is the one that is noted, and the list stays
  pub noted_again : {own : List ℕ} (ns : List (List ℕ)) → Before t own ns i → again t i ≡ true → (get_or own (i - 1) 0 ≡ number_in ns (owner_at t i)) × (ns ≡ meeting ns (owner_at t i))
  noted_again ns b h =
      let s = again_same h in
      let e = number_same ns (owner_at t (i - 1)) (owner_at t i) s.1 in
      let l = b.listed s.0 in
      (b.number s.0 ∙ e, sym (meeting_known ns (owner_at t i) (omega arith)))
