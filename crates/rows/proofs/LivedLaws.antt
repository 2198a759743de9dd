-- The lifetimes beside the rows: those of the addresses kept, the least of all that came with each.
use Rattle.std.proofs.Common.{◌≡◌, ℕ, zero, suc, ◌+◌, ◌-◌, ◌*◌, ◌<◌, ◌≤◌, min, false, List, [], ◌∷◌, ◌++◌, map, length, get_or, take, drop, set, sym, refl, ap, ◌∙◌, subst, inl, inr, ⊎_elim, arith, length-drop, take_at}
use lib.ListN.{length-map}
use lib.Seq.{append_snoc, take-append-le, drop-append-le, drop-append-add}
use Rattle.octets.specs.Octets.{blank, same, flat}
use Rattle.octets.proofs.BoolLaws.{clash, refuted}
use Rattle.octets.proofs.SameLaws.{same_eq, same_refl}
use Rattle.std.specs.declared.cmp.Ordering.{Ordering}
use Rattle.std.specs.declared.cmp.Ordering.TheVariants.{Less, Equal, Greater}
use Rattle.address.specs.Order.{order_of, Precedes}
use Rattle.address.proofs.OrderLaws.{same_equal, equal_same, after_precedes, precedes_irreflexive, precedes_transitive}
use Rattle.chains.specs.Lists.{In}
use Rattle.chains.specs.Graph.{max_ttl}
use Rattle.chains.specs.Addresses.{Ascending, choose, insert}
use Rattle.chains.proofs.ListLaws.{pick_true, pick_false}
use Rattle.chains.proofs.AddressesLaws.{insert_in}
use Rattle.rows.specs.Rows.{put_at, lowered, Kept, keep_in, Holds, shortened, Lived}
use Rattle.rows.proofs.RowsLaws.{keep_full}
use Rattle.rows.proofs.KeepingLaws.{rank, rank_within, insert_found, longer, keep_cases}

-- what precedes v, or follows it, is not v
before_other : (a v : List ℕ) → Precedes a v → a ≡ v → ⊥
before_other a v p e = precedes_irreflexive a (subst (Precedes a) (sym e) p)

after_other : (a v : List ℕ) → Precedes v a → a ≡ v → ⊥
after_other a v p e = precedes_irreflexive v (subst (Precedes v) e p)

module _ (v : List ℕ) (t : ℕ) (life : List ℕ → ℕ) where
  abbrev life' : List ℕ → ℕ
  life' = shortened v t life

  own : life' v ≡ min (life v) t
  own = pick_true _ _ _ (same_refl v)

  other : (a : List ℕ) → (a ≡ v → ⊥) → life' a ≡ life a
  other a n = pick_false _ _ _ (refuted (same v a) (λ e. n (sym (same_eq v a e))))

  others : (l : List (List ℕ)) → ((a : List ℕ) → In a l → a ≡ v → ⊥) → map life' l ≡ map life l
  others [] n = refl
  others (a ∷ l) n = λ i. other a (n a (inl refl)) i ∷ others l (λ b m. n b (inr m)) i

  -- v stands in the list: its lifetime alone is lowered
  beside_found : (l : List (List ℕ)) → Ascending l → rank v l < length l → order_of (get_or l (rank v l) []) v ≡ Equal → map life' l ≡ lowered (rank v l) t (map life l)
  unfolding rank lowered
  beside_found [] s h e = absurd (omega arith)
  beside_found (a ∷ l) s h e = go (order_of a v) refl h e (beside_found l s.1)
    where
      go : (o : Ordering) → order_of a v ≡ o → choose o (suc (rank v l)) 0 0 < suc (length l) → order_of (get_or (a ∷ l) (choose o (suc (rank v l)) 0 0) []) v ≡ Equal
          → (rank v l < length l → order_of (get_or l (rank v l) []) v ≡ Equal → map life' l ≡ set (map life l) (rank v l) (min (get_or (map life l) (rank v l) 0) t))
          → life' a ∷ map life' l
          ≡ set (life a ∷ map life l) (choose o (suc (rank v l)) 0 0) (min (get_or (life a ∷ map life l) (choose o (suc (rank v l)) 0 0) 0) t)
      go Less q h e ih = λ i. other a (before_other a v q) i ∷ ih (omega arith) e i
      go Equal q h e ih =
          let w : a ≡ v = same_equal a v q in
          let x : life' a ≡ min (life a) t = ap life' w ∙ own ∙ ap (λ (b : List ℕ). min (life b) t) (sym w) in
          let y : map life' l ≡ map life l = others l (λ b m. after_other b v (subst (λ (c : List ℕ). Precedes c b) w (s.0 b m))) in
          λ i. x i ∷ y i
      go Greater q h e ih = absurd (let z : ◌≡◌ {A = ℕ} 0 1 = cc in omega arith)

  -- v is new: the others keep theirs, and it stands among them
  beside_new : (l : List (List ℕ)) → Ascending l → (rank v l < length l → order_of (get_or l (rank v l) []) v ≡ Equal → ⊥)
      → map life' (insert v l) ≡ take (rank v l) (map life l) ++ (life' v ∷ drop (rank v l) (map life l))
  unfolding rank insert
  beside_new [] s n = refl
  beside_new (a ∷ l) s n = go (order_of a v) refl n (beside_new l s.1)
    where
      go : (o : Ordering) → order_of a v ≡ o → (choose o (suc (rank v l)) 0 0 < suc (length l) → order_of (get_or (a ∷ l) (choose o (suc (rank v l)) 0 0) []) v ≡ Equal → ⊥)
          → ((rank v l < length l → order_of (get_or l (rank v l) []) v ≡ Equal → ⊥) → map life' (insert v l) ≡ take (rank v l) (map life l) ++ (life' v ∷ drop (rank v l) (map life l)))
          → map life' (choose o (a ∷ insert v l) (a ∷ l) (v ∷ a ∷ l))
          ≡ take (choose o (suc (rank v l)) 0 0) (life a ∷ map life l) ++ (life' v ∷ drop (choose o (suc (rank v l)) 0 0) (life a ∷ map life l))
      go Less q n ih = λ i. other a (before_other a v q) i ∷ ih (λ h e. n (omega arith) e) i
      go Equal q n ih = absurd (n (omega arith) q)
      go Greater q n ih =
          let p : Precedes v a = after_precedes a v q in
          let y : map life' l ≡ map life l = others l (λ b m. after_other b v (precedes_transitive v a b p (s.0 b m))) in
          λ i. life' v ∷ other a (after_other a v p) i ∷ y i

-- an address that is not found at its place is not in the list
not_listed : (v : List ℕ) (l : List (List ℕ)) → Ascending l → (rank v l < length l → order_of (get_or l (rank v l) []) v ≡ Equal → ⊥) → In v l → ⊥
unfolding rank
not_listed v [] s n x3 = elim x3 [ ]
not_listed v (a ∷ l) s n (inl e) =
    let q : order_of a v ≡ Equal = equal_same a v (sym e) in
    let z : choose (order_of a v) (suc (rank v l)) 0 0 ≡ 0 = ap (λ (o : Ordering). choose o (suc (rank v l)) 0 0) q in
    n (omega (arith, z)) (ap (λ (k : ℕ). order_of (get_or (a ∷ l) k []) v) z ∙ q)
not_listed v (a ∷ l) s n (inr m) =
    let z : choose (order_of a v) (suc (rank v l)) 0 0 ≡ suc (rank v l) = ap (λ (o : Ordering). choose o (suc (rank v l)) 0 0) (s.0 v m) in
    not_listed v l s.1 (λ h e. n (omega (arith, z)) (ap (λ (k : ℕ). order_of (get_or (a ∷ l) k []) v) z ∙ e)) m

-- a number lowered among those in front
lowered_front : (k t : ℕ) (ls z : List ℕ) → k < length ls → lowered k t (ls ++ z) ≡ lowered k t ls ++ z
unfolding lowered
lowered_front k t [] z h = absurd (omega arith)
lowered_front zero t (x ∷ ls) z h = refl
lowered_front (suc k) t (x ∷ ls) z h = ap (λ (r : List ℕ). x ∷ r) (lowered_front k t ls z (omega arith))

-- a number put among others that fill the front
put_among : (ls z : List ℕ) (y t k : ℕ) → k ≤ length ls → put_at 1 k (length ls) (t ∷ []) (ls ++ (y ∷ z)) ≡ (take k ls ++ (t ∷ drop k ls)) ++ z
unfolding put_at
put_among ls z y t k h =
    let a = take-append-le k ls (y ∷ z) h in
    let b : take (length ls - k) (drop k (ls ++ (y ∷ z))) ≡ drop k ls = ap (take (length ls - k)) (drop-append-le k ls (y ∷ z) h) ∙ take_at (drop k ls) (y ∷ z) (length ls - k) (length-drop k ls) in
    let d : drop (length ls + 1) (ls ++ (y ∷ z)) ≡ z = drop-append-add ls (y ∷ z) 1 in
    (λ i. a i ++ (t ∷ []) ++ b i ++ d i) ∙ ap (λ (x : List ℕ). x ++ z) (append_snoc (take k ls) t (drop k ls))

-- ---- what is kept
blank_one : (d : ℕ) → 0 < d → blank d ≡ 0 ∷ blank (d - 1)
unfolding blank
blank_one zero h = absurd (omega arith)
blank_one (suc d) h = ap (λ (e : ℕ). 0 ∷ blank e) (let z : d ≡ suc d - 1 = omega arith in z)

module _ (room : ℕ) (v : List ℕ) (t : ℕ) (l : List (List ℕ)) (s : Kept) (n : length v ≡ 16) (h : Holds room l s) (life : List ℕ → ℕ) (lived : Lived room l life s) (b : t ≤ max_ttl) where
  abbrev k : ℕ
  k = rank v l

  unmet : (a : List ℕ) → (In a (insert v l) → ⊥) → shortened v t life a ≡ max_ttl
  unmet a m = other v t life a (λ e. m (insert_in v a l (inl e))) ∙ lived.unmet a (λ i. m (insert_in v a l (inr i)))

  -- the lifetimes are those of the list with v
  abbrev Beside : Kept → Type 0
  Beside c = c.full ≡ false → c.lives ≡ map (shortened v t life) (insert v l) ++ blank (room - length (insert v l))

  module _ (lax : s.full ≡ false) (count : s.count ≡ length l) (fits : length l ≤ room) (out : s.out ≡ flat l ++ blank ((room - length l) * 16)) where
    found : k < length l → order_of (get_or l k []) v ≡ Equal → lowered k t s.lives ≡ map (shortened v t life) (insert v l) ++ blank (room - length (insert v l))
    found q e =
        ap (lowered k t) (lived.beside lax) ∙ lowered_front k t (map life l) (blank (room - length l)) (omega (arith, length-map l life))
        ∙ (λ i. sym (beside_found v t life l h.ascending q e) i ++ blank (room - length l))
        ∙ ap (λ (m : List (List ℕ)). map (shortened v t life) m ++ blank (room - length m)) (sym (insert_found v l q e))

    new : (k < length l → order_of (get_or l k []) v ≡ Equal → ⊥) → length l < room
        → put_at 1 k s.count (t ∷ []) s.lives ≡ map (shortened v t life) (insert v l) ++ blank (room - length (insert v l))
    new m q =
        let d = room - length l in
        let c : s.count ≡ length (map life l) = count ∙ sym (length-map l life) in
        let o : s.lives ≡ map life l ++ (0 ∷ blank (d - 1)) = lived.beside lax ∙ ap (λ (z : List ℕ). map life l ++ z) (blank_one d (omega arith)) in
        let e : d - 1 ≡ room - length (insert v l) = omega (arith, longer room v t l s n h lax count fits out m) in
        let f : t ≡ shortened v t life v = omega (arith, own v t life, lived.unmet v (not_listed v l h.ascending m)) in
        (λ i. put_at 1 k (c i) (t ∷ []) (o i))
        ∙ put_among (map life l) (blank (d - 1)) 0 t k (omega (arith, rank_within v l, length-map l life))
        ∙ (λ i. (take k (map life l) ++ (f i ∷ drop k (map life l))) ++ blank (e i))
        ∙ ap (λ (z : List ℕ). z ++ blank (room - length (insert v l))) (sym (beside_new v t life l h.ascending m))

    beside_lax : Beside (keep_in v t s)
    beside_lax = keep_cases room v t l s n h lax count fits out Beside (λ q e f. found q e) (λ m q f. new m q) (λ m q f. absurd (clash refl f))

  -- keeping v keeps this true of the list with v
  pub keep_lived : Lived room (insert v l) (shortened v t life) (keep_in v t s)
  keep_lived = record {
    unmet = unmet;
    beside = ⊎_elim (λ w. beside_lax w.0 w.1 w.2 w.3) (λ w f. absurd (clash (ap (λ (c : Kept). c.full) (sym (keep_full v t s w.0)) ∙ w.0) f)) h.stands;
  }
