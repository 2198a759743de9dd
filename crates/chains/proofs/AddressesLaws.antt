-- The addresses of a name: which they are, and that they stand in ascending order, each once.
use Prim.Native.Nat.{ℕ}
use mathlib.Core.Path.{◌≡◌, refl, sym, ap, subst, ◌∙◌}
use mathlib.Core.Logic.{◌⊎◌, inl, inr, ⊎_elim, ◌↔◌}
use mathlib.Core.Bool.{Bool, true, false}
use mathlib.Core.List.{List, [], ◌∷◌}
use lib.Dec.{eqb}
use lib.ListN.{length, get_or}
use borrow.Author.Tests.{eqb-true, eqb-false}
use Rattle.octets.specs.Each.{Each}
use Rattle.octets.proofs.FlatLaws.{each_at}
use Rattle.std.specs.declared.cmp.Ordering.{Ordering}
use Rattle.std.specs.declared.cmp.Ordering.TheVariants.{Less, Equal, Greater}
use Rattle.address.specs.Order.{order_of, Precedes}
use Rattle.address.proofs.OrderLaws.{same_equal, after_precedes, precedes_irreflexive, precedes_transitive}
use Rattle.chains.specs.Lists.{In, Distinct, pick}
use Rattle.chains.specs.Graph.{Graph}
use Rattle.chains.specs.Sound.{Sound}
use Rattle.chains.specs.Chain.{Spells, last_length, spelt}
use Rattle.chains.specs.Listing.{chains_of}
use Rattle.chains.specs.Addresses.{Ascending, choose, insert, gather, addresses_of}
use Rattle.chains.proofs.ListLaws.{in_at}
use Rattle.chains.proofs.Listed.{listed_chain, chain_listed}
use Rattle.chains.proofs.SpellingLaws.{spelt_length}
use Rattle.chains.proofs.Cutting.{spells_distinct}

-- ---- one address put in its place
pub in_insert : (v a : List ℕ) (l : List (List ℕ)) → In a (insert v l) → (a ≡ v) ⊎ In a l
unfolding insert
in_insert v a [] m = m
in_insert v a (x ∷ l) m = go (order_of x v) (in_insert v a l) m
  where
    go : (o : Ordering) → (In a (insert v l) → (a ≡ v) ⊎ In a l) → In a (choose o (x ∷ insert v l) (x ∷ l) (v ∷ x ∷ l)) → (a ≡ v) ⊎ In a (x ∷ l)
    go Less ih (inl e) = inr (inl e)
    go Less ih (inr k) = ⊎_elim inl (λ r. inr (inr r)) (ih k)
    go Equal ih k = inr k
    go Greater ih k = k

pub insert_in : (v a : List ℕ) (l : List (List ℕ)) → (a ≡ v) ⊎ In a l → In a (insert v l)
unfolding insert
insert_in v a [] m = m
insert_in v a (x ∷ l) m = go (order_of x v) refl (insert_in v a l) m
  where
    go : (o : Ordering) → order_of x v ≡ o → ((a ≡ v) ⊎ In a l → In a (insert v l)) → (a ≡ v) ⊎ In a (x ∷ l) → In a (choose o (x ∷ insert v l) (x ∷ l) (v ∷ x ∷ l))
    go Less q ih (inl e) = inr (ih (inl e))
    go Less q ih (inr (inl e)) = inl e
    go Less q ih (inr (inr k)) = inr (ih (inr k))
    go Equal q ih (inl e) = inl (e ∙ sym (same_equal x v q))
    go Equal q ih (inr k) = k
    go Greater q ih k = k

pub insert_ascending : (v : List ℕ) (l : List (List ℕ)) → Ascending l → Ascending (insert v l)
unfolding insert
insert_ascending v [] h = (λ b m. absurd m, tt)
insert_ascending v (x ∷ l) h = go (order_of x v) refl (insert_ascending v l h.1)
  where
    go : (o : Ordering) → order_of x v ≡ o → Ascending (insert v l) → Ascending (choose o (x ∷ insert v l) (x ∷ l) (v ∷ x ∷ l))
    go Less q ih = (λ b m. ⊎_elim (λ e. rw e q) (h.0 b) (in_insert v b l m), ih)
    go Equal q ih = h
    go Greater q ih =
        let k : Precedes v x = after_precedes x v q in
        (λ b m. ⊎_elim (λ e. rw e k) (λ o. precedes_transitive v x b k (h.0 b o)) m, h)

ascending_distinct : (l : List (List ℕ)) → Ascending l → Distinct l
ascending_distinct [] h = tt
ascending_distinct (x ∷ l) h = (λ m. precedes_irreflexive x (h.0 x m), ascending_distinct l h.1)

-- two ascending lists of the same addresses are one: the first of each is in the other, so neither precedes the other
heads_same : (x y : List ℕ) (l m : List (List ℕ)) → Ascending (x ∷ l) → Ascending (y ∷ m) → In x (y ∷ m) → In y (x ∷ l) → x ≡ y
heads_same x y l m h k (inl e) w = e
heads_same x y l m h k (inr v) (inl e) = sym e
heads_same x y l m h k (inr v) (inr w) = absurd (precedes_irreflexive x (precedes_transitive x y x (h.0 y w) (k.0 x v)))

tail_over : (x y : List ℕ) (l m : List (List ℕ)) → Ascending (x ∷ l) → x ≡ y → (a : List ℕ) → (In a (x ∷ l) → In a (y ∷ m)) → In a l → In a m
tail_over x y l m h e a t v =
    ⊎_elim (λ q. absurd (precedes_irreflexive x (subst (λ (b : List ℕ). Precedes x b) (q ∙ sym e) (h.0 a v)))) (λ w. w) (t (inr v))

ascending_same : (l m : List (List ℕ)) → Ascending l → Ascending m → ((a : List ℕ) → In a l ↔ In a m) → l ≡ m
ascending_same [] [] h k t = refl
ascending_same [] (y ∷ m) h k t = absurd ((t y).1 (inl refl))
ascending_same (x ∷ l) [] h k t = absurd ((t x).0 (inl refl))
ascending_same (x ∷ l) (y ∷ m) h k t =
    let e : x ≡ y = heads_same x y l m h k ((t x).0 (inl refl)) ((t y).1 (inl refl)) in
    let r : l ≡ m = ascending_same l m h.1 k.1 (λ a. (tail_over x y l m h e a (t a).0, tail_over y x m l k (sym e) a (t a).1)) in
    λ i. e i ∷ r i

-- ---- those of some chains
module _ {N : Type 0} (g : Graph N) (b : ℕ) (spelling : List ℕ → List ℕ) where
  pub gather_ascending : (ps l : List (List ℕ)) → Ascending l → Ascending (gather g b spelling l ps)
  unfolding gather
  gather_ascending [] l h = h
  gather_ascending (p ∷ ps) l h = gather_ascending ps _ (go (eqb (last_length g b p) 0))
    where
      go : (t : Bool) → Ascending (pick t (insert (spelling p) l) l)
      go true = insert_ascending (spelling p) l h
      go false = h

  -- a is spelt by a complete one of the chains ps
  abbrev By : List ℕ → List (List ℕ) → Type 0
  By a ps = (p : List ℕ) × In p ps × (last_length g b p ≡ 0) × (spelling p ≡ a)

  in_gather : (a : List ℕ) (ps l : List (List ℕ)) → In a (gather g b spelling l ps) → In a l ⊎ By a ps
  unfolding gather
  in_gather a [] l m = inl m
  in_gather a (p ∷ ps) l m = ⊎_elim (λ k. go (eqb (last_length g b p) 0) refl k) (λ r. inr (r.0, inr r.1, r.2, r.3)) (in_gather a ps _ m)
    where
      go : (t : Bool) → eqb (last_length g b p) 0 ≡ t → In a (pick t (insert (spelling p) l) l) → In a l ⊎ By a (p ∷ ps)
      go true e k = ⊎_elim (λ r. inr (p, inl refl, eqb-true (last_length g b p) 0 e, sym r)) inl (in_insert (spelling p) a l k)
      go false e k = inl k

  first : (a p : List ℕ) (ps l : List (List ℕ)) (t : Bool) → eqb (last_length g b p) 0 ≡ t → (q : List ℕ) → In q (p ∷ ps) → last_length g b q ≡ 0 → spelling q ≡ a →
      In a (pick t (insert (spelling p) l) l) ⊎ By a ps
  first a p ps l t e q (inr m) z w = inr (q, m, z, w)
  first a p ps l true e q (inl m) z w = inl (insert_in (spelling p) a l (inl (sym w ∙ ap spelling m)))
  first a p ps l false e q (inl m) z w = absurd (eqb-false (last_length g b p) 0 e (ap (last_length g b) (sym m) ∙ z))

  gather_in : (a : List ℕ) (ps l : List (List ℕ)) → In a l ⊎ By a ps → In a (gather g b spelling l ps)
  unfolding gather
  gather_in a [] l (inl m) = m
  gather_in a [] l (inr m) = absurd m.1
  gather_in a (p ∷ ps) l h = gather_in a ps _ (⊎_elim (old (eqb (last_length g b p) 0)) (λ r. first a p ps l (eqb (last_length g b p) 0) refl r.0 r.1 r.2 r.3) h)
    where
      old : (t : Bool) → In a l → In a (pick t (insert (spelling p) l) l) ⊎ By a ps
      old true m = inl (insert_in (spelling p) a l (inr m))
      old false m = inl m

-- ---- those of a name
module _ {N : Type 0} (g : Graph N) (x : N) where
  -- Theorem: the addresses listed stand in ascending order
  pub addresses_ascending : Ascending (addresses_of g x)
  unfolding addresses_of
  addresses_ascending = gather_ascending g 128 (spelt g) (chains_of g x) [] tt

  -- each has sixteen octets
  pub addresses_each : Each 16 (addresses_of g x)
  unfolding addresses_of
  addresses_each =
      each_at 16 (addresses_of g x) (λ i h.
      ⊎_elim (λ k. absurd k) (λ r. ap length (sym r.3) ∙ spelt_length g r.0) (in_gather g 128 (spelt g) (get_or (addresses_of g x) i []) (chains_of g x) [] (in_at (addresses_of g x) i h)))

  -- Theorem: the addresses listed are those that the complete chains of x spell, chains that use a record again among them: no address is lost by
  -- leaving repeats out
  pub spells_listed : Sound g → (a : List ℕ) → In a (addresses_of g x) ↔ Spells g x a
  unfolding addresses_of
  spells_listed sound a = (
    λ m. ⊎_elim (λ k. absurd k) (λ r. (r.0, (listed_chain g x r.0 r.1).0, r.2, r.3)) (in_gather g 128 (spelt g) a (chains_of g x) [] m),
    λ s. let r = spells_distinct g sound x a s in gather_in g 128 (spelt g) a (chains_of g x) [] (inr (r.0, chain_listed g x sound r.0 r.1 r.2, r.3, r.4)),
  )

  -- Theorem: they are the only ascending list of what the chains of x spell
  pub addresses_only : Sound g → (l : List (List ℕ)) → Ascending l → ((a : List ℕ) → In a l ↔ Spells g x a) → l ≡ addresses_of g x
  addresses_only sound l h t =
      ascending_same l (addresses_of g x) h addresses_ascending (λ a. (λ m. (spells_listed sound a).1 ((t a).0 m), λ m. (t a).1 ((spells_listed sound a).0 m)))
