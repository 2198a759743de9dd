-- What is kept after some chains: the addresses that they spell, ascending and each once, or too many of them for the room.
use Rattle.std.proofs.Common.{◌≡◌, ℕ, zero, suc, ◌+◌, ◌-◌, ◌*◌, ◌/◌, ◌<◌, ◌≤◌, true, false, List, [], ◌∷◌, ◌++◌, length, get_or, take, drop, sym, refl, ap, ◌∙◌, subst, inl, inr, ⊎_elim, append_assoc, arith, length-append, length-drop, length-take, take_at, drop_at}
use native.Mathlib.Decide.{dec_lt}
use lib.ListN.{replicate-append-replicate}
use lib.Seq.{drop-append-add}
use Rattle.octets.proofs.FlatLaws.{each_drop, flat_length, flat_append, flat_take, flat_drop, flat_at}
use Rattle.chains.proofs.ListLaws.{in_at}
use Rattle.octets.specs.Octets.{blank, flat}
use Rattle.octets.specs.Each.{Each}
use Rattle.octets.proofs.BoolLaws.{clash, refuted}
use Rattle.octets.proofs.OctetLaws.{length_blank}
use Rattle.std.specs.declared.cmp.Ordering.{Ordering}
use Rattle.std.specs.declared.cmp.Ordering.TheVariants.{Less, Equal, Greater}
use Rattle.address.specs.Order.{order_of, Precedes}
use Rattle.address.proofs.OrderLaws.{same_equal, equal_same, precedes_transitive}
use Rattle.chains.specs.Addresses.{Ascending, choose, insert}
use Rattle.chains.proofs.AddressesLaws.{insert_ascending}
use Rattle.rows.specs.Rows.{row, seek, put_at, lowered, Kept, is_same, keep_in, Holds, Ordered}
use Rattle.rows.proofs.RowsLaws.{seek_end, seek_right, seek_left, is_same_lem, keep_full, keep_at_lem, keep_found, keep_new, keep_over}

-- ---- the place of an address: after all that come before it
unfoldable pub rank : List ℕ → List (List ℕ) → ℕ
rank v [] = 0
rank v (a ∷ l) = choose (order_of a v) (suc (rank v l)) 0 0

pub rank_within : (v : List ℕ) (l : List (List ℕ)) → rank v l ≤ length l
unfolding rank
rank_within v [] = omega arith
rank_within v (a ∷ l) = go (order_of a v) (rank_within v l)
  where
    go : (o : Ordering) → rank v l ≤ length l → choose o (suc (rank v l)) 0 0 ≤ suc (length l)
    go Less h = omega arith
    go Equal h = omega arith
    go Greater h = omega arith

rank_before : (v : List ℕ) (l : List (List ℕ)) (j : ℕ) → j < rank v l → Precedes (get_or l j []) v
unfolding rank
rank_before v [] j h = absurd (omega arith)
rank_before v (a ∷ l) j h = go (order_of a v) refl j h (λ i. rank_before v l i)
  where
    go : (o : Ordering) → order_of a v ≡ o → (j : ℕ) → j < choose o (suc (rank v l)) 0 0 → ((i : ℕ) → i < rank v l → Precedes (get_or l i []) v) → Precedes (get_or (a ∷ l) j []) v
    go Less e zero k ih = e
    go Less e (suc j) k ih = ih j (omega arith)
    go Equal e j k ih = absurd (omega arith)
    go Greater e j k ih = absurd (omega arith)

rank_after : (v : List ℕ) (l : List (List ℕ)) (j : ℕ) → Ascending l → j < length l → rank v l ≤ j → Precedes (get_or l j []) v → ⊥
unfolding rank
rank_after v [] j s h k p = omega arith
rank_after v (a ∷ l) j s h k p = go (order_of a v) refl j h k p (λ i. rank_after v l i s.1)
  where
    -- what does not come before v has nothing after it that does
    late : (o : Ordering) → order_of a v ≡ o → (o ≡ Less → ⊥) → (j : ℕ) → j < suc (length l) → Precedes (get_or (a ∷ l) j []) v → ⊥
    late o e d zero h p = d (sym e ∙ p)
    late o e d (suc j) h p = d (sym e ∙ precedes_transitive a (get_or l j []) v (s.0 (get_or l j []) (in_at l j (omega arith))) p)

    go : (o : Ordering) → order_of a v ≡ o → (j : ℕ) → j < suc (length l) → choose o (suc (rank v l)) 0 0 ≤ j → Precedes (get_or (a ∷ l) j []) v
        → ((i : ℕ) → i < length l → rank v l ≤ i → Precedes (get_or l i []) v → ⊥) → ⊥
    go Less e zero h k p ih = omega arith
    go Less e (suc j) h k p ih = ih j (omega arith) (omega arith) p
    go Equal e j h k p ih = late Equal e (λ q. let z : ◌≡◌ {A = ℕ} 0 1 = cc in omega arith) j h p
    go Greater e j h k p ih = late Greater e (λ q. let z : ◌≡◌ {A = ℕ} 0 1 = cc in omega arith) j h p

-- where it stands in an ascending list
rank_at : (v : List ℕ) (l : List (List ℕ)) (j : ℕ) → Ascending l → j < length l → get_or l j [] ≡ v → rank v l ≡ j
unfolding rank
rank_at v [] j s h e = absurd (omega arith)
rank_at v (a ∷ l) zero s h e = rw (equal_same a v e)
rank_at v (a ∷ l) (suc j) s h e =
    let p : Precedes a v = subst (Precedes a) e (s.0 (get_or l j []) (in_at l j (omega arith))) in
    rw p (ap suc (rank_at v l j s.1 (omega arith) e))

module _ (v : List ℕ) (l : List (List ℕ)) (z : List ℕ) (r : Each 16 l) (s : Ascending l) where
  -- halving comes to it
  seek_turn : (most a b : ℕ) → a < b → b ≤ length l → ((a b : ℕ) → a ≤ rank v l → rank v l ≤ b → b ≤ length l → b - a ≤ most → seek most (flat l ++ z) v a b ≡ rank v l)
      → a ≤ rank v l → rank v l ≤ b → b - a ≤ suc most → seek (suc most) (flat l ++ z) v a b ≡ rank v l
  seek_turn most a b h k ih p q n = go (dec_lt ((a + b) / 2) (rank v l))
    where
      is : row (flat l ++ z) ((a + b) / 2) ≡ get_or l ((a + b) / 2) []
      is = flat_at 16 z ((a + b) / 2) l r (omega arith)

      go : Dec ((a + b) / 2 < rank v l) → seek (suc most) (flat l ++ z) v a b ≡ rank v l
      go (yes m) =
          seek_right most (flat l ++ z) v a b h (ap (λ (x : List ℕ). order_of x v) is ∙ rank_before v l ((a + b) / 2) m)
          ∙ ih ((a + b) / 2 + 1) b (omega arith) q k (omega arith)
      go (no m) =
          seek_left most (flat l ++ z) v a b h
          (λ f. rank_after v l ((a + b) / 2) s (omega arith) (omega (arith, m)) (sym (ap (λ (x : List ℕ). order_of x v) is) ∙ f))
          ∙ ih a ((a + b) / 2) p (omega (arith, m)) (omega arith) (omega arith)

  seek_rank : (most a b : ℕ) → a ≤ rank v l → rank v l ≤ b → b ≤ length l → b - a ≤ most → seek most (flat l ++ z) v a b ≡ rank v l
  seek_rank zero a b p q k n = seek_end 0 (flat l ++ z) v a b (omega arith) ∙ (let e : a ≡ rank v l = omega arith in e)
  seek_rank (suc most) a b p q k n = go (dec_lt a b) (λ c d. seek_rank most c d)
    where
      go : Dec (a < b) → ((c d : ℕ) → c ≤ rank v l → rank v l ≤ d → d ≤ length l → d - c ≤ most → seek most (flat l ++ z) v c d ≡ rank v l)
          → seek (suc most) (flat l ++ z) v a b ≡ rank v l
      go (yes h) ih = seek_turn most a b h k ih p q n
      go (no h) ih = seek_end (suc most) (flat l ++ z) v a b (omega (arith, h)) ∙ (let e : a ≡ rank v l = omega (arith, h) in e)

-- ---- an address put in its place
pub insert_found : (v : List ℕ) (l : List (List ℕ)) → rank v l < length l → order_of (get_or l (rank v l) []) v ≡ Equal → insert v l ≡ l
unfolding rank insert
insert_found v [] h e = absurd (omega arith)
insert_found v (a ∷ l) h e = go (order_of a v) refl h e (insert_found v l)
  where
    go : (o : Ordering) → order_of a v ≡ o → choose o (suc (rank v l)) 0 0 < suc (length l) → order_of (get_or (a ∷ l) (choose o (suc (rank v l)) 0 0) []) v ≡ Equal
        → (rank v l < length l → order_of (get_or l (rank v l) []) v ≡ Equal → insert v l ≡ l)
        → choose o (a ∷ insert v l) (a ∷ l) (v ∷ a ∷ l) ≡ a ∷ l
    go Less q h e ih = ap (λ (m : List (List ℕ)). a ∷ m) (ih (omega arith) e)
    go Equal q h e ih = refl
    go Greater q h e ih = absurd (let z : ◌≡◌ {A = ℕ} 0 1 = cc in omega arith)

pub insert_new : (v : List ℕ) (l : List (List ℕ)) → (rank v l < length l → order_of (get_or l (rank v l) []) v ≡ Equal → ⊥)
    → insert v l ≡ take (rank v l) l ++ (v ∷ drop (rank v l) l)
unfolding rank insert
insert_new v [] n = refl
insert_new v (a ∷ l) n = go (order_of a v) refl n (insert_new v l)
  where
    go : (o : Ordering) → order_of a v ≡ o → (choose o (suc (rank v l)) 0 0 < suc (length l) → order_of (get_or (a ∷ l) (choose o (suc (rank v l)) 0 0) []) v ≡ Equal → ⊥)
        → ((rank v l < length l → order_of (get_or l (rank v l) []) v ≡ Equal → ⊥) → insert v l ≡ take (rank v l) l ++ (v ∷ drop (rank v l) l))
        → choose o (a ∷ insert v l) (a ∷ l) (v ∷ a ∷ l) ≡ take (choose o (suc (rank v l)) 0 0) (a ∷ l) ++ (v ∷ drop (choose o (suc (rank v l)) 0 0) (a ∷ l))
    go Less q n ih = ap (λ (m : List (List ℕ)). a ∷ m) (ih (λ h e. n (omega arith) e))
    go Equal q n ih = absurd (n (omega arith) q)
    go Greater q n ih = refl

insert_rows : (v : List ℕ) (l : List (List ℕ)) → length v ≡ 16 → Each 16 l → Each 16 (insert v l)
unfolding insert
insert_rows v [] e r = (e, tt)
insert_rows v (a ∷ l) e r = go (order_of a v) (insert_rows v l e r.1)
  where
    go : (o : Ordering) → Each 16 (insert v l) → Each 16 (choose o (a ∷ insert v l) (a ∷ l) (v ∷ a ∷ l))
    go Less q = (r.0, q)
    go Equal q = r
    go Greater q = (e, r)

pub insert_length : (v : List ℕ) (l : List (List ℕ)) → (length l ≤ length (insert v l)) × (length (insert v l) ≤ suc (length l))
unfolding insert
insert_length v [] = (omega arith, omega arith)
insert_length v (a ∷ l) = go (order_of a v) (insert_length v l)
  where
    go : (o : Ordering) → (length l ≤ length (insert v l)) × (length (insert v l) ≤ suc (length l))
        → (suc (length l) ≤ length (choose o (a ∷ insert v l) (a ∷ l) (v ∷ a ∷ l))) × (length (choose o (a ∷ insert v l) (a ∷ l) (v ∷ a ∷ l)) ≤ suc (suc (length l)))
    go Less h = (omega (arith, h.0), omega (arith, h.1))
    go Equal h = (omega arith, omega arith)
    go Greater h = (omega arith, omega arith)

-- the octets of the list with v among them
module _ (v : List ℕ) (l : List (List ℕ)) (y z : List ℕ) (k : ℕ) (r : Each 16 l) (n : length y ≡ 16) (h : k ≤ length l) where
  flat_cons : flat (take k l ++ (v ∷ drop k l)) ≡ flat (take k l) ++ (v ++ flat (drop k l))
  unfolding flat
  flat_cons = flat_append (take k l) (v ∷ drop k l)

  put_flat : put_at 16 (k * 16) (length l * 16) v (flat l ++ (y ++ z)) ≡ flat (take k l ++ (v ∷ drop k l)) ++ z
  unfolding put_at
  put_flat =
      let t = flat_take 16 (y ++ z) k l r h in
      let m : take (length l * 16 - k * 16) (drop (k * 16) (flat l ++ (y ++ z))) ≡ flat (drop k l) =
      ap (take (length l * 16 - k * 16)) (flat_drop 16 (y ++ z) k l r h)
      ∙ take_at (flat (drop k l)) (y ++ z) (length l * 16 - k * 16) (omega (arith, flat_length 16 (drop k l) (each_drop 16 k l r), length-drop k l)) in
      let e : length l * 16 + 16 ≡ length (flat l) + 16 = omega (arith, flat_length 16 l r) in
      let d : drop (length l * 16 + 16) (flat l ++ (y ++ z)) ≡ z =
      ap (λ (j : ℕ). drop j (flat l ++ (y ++ z))) e ∙ drop-append-add (flat l) (y ++ z) 16 ∙ drop_at y z 16 n in
      (λ i. t i ++ v ++ m i ++ d i)
      ∙ ap (λ (x : List ℕ). x ++ z) (append_assoc (flat (take k l)) v (flat (drop k l)) ∙ sym flat_cons)

-- ---- what is kept
blank_more : (d : ℕ) → 0 < d → blank (d * 16) ≡ blank 16 ++ blank ((d - 1) * 16)
unfolding blank
blank_more d h =
    let e : d * 16 ≡ 16 + (d - 1) * 16 = omega arith in
    ap blank e ∙ sym (replicate-append-replicate 16 ((d - 1) * 16) 0)

module _ (room : ℕ) (v : List ℕ) (t : ℕ) (l : List (List ℕ)) (s : Kept) (n : length v ≡ 16) (h : Holds room l s) where
  abbrev k : ℕ
  k = rank v l

  abbrev rest : List ℕ
  rest = blank ((room - length l) * 16)

  module _ (lax : s.full ≡ false) (count : s.count ≡ length l) (fits : length l ≤ room) (out : s.out ≡ flat l ++ rest) where
    place : k ≡ seek s.count s.out v 0 s.count
    place =
        sym ((λ i. seek (count i) (out i) v 0 (count i))
        ∙ seek_rank v l rest h.rows h.ascending (length l) 0 (length l) (omega arith) (rank_within v l) (omega arith) (omega arith))

    same_row : (j : ℕ) → j < length l → row s.out j ≡ get_or l j []
    same_row j q = ap (λ (o : List ℕ). row o j) out ∙ flat_at 16 rest j l h.rows q

    long : length s.out ≡ room * 16
    long = ap length out ∙ omega (arith, length-append (flat l) rest, flat_length 16 l h.rows, length_blank ((room - length l) * 16))

    -- a row is v where the list has v
    told : (j : ℕ) → j < length l → is_same (order_of (row s.out j) v) ≡ is_same (order_of (get_or l j []) v)
    told j q = ap (λ (a : List ℕ). is_same (order_of a v)) (same_row j q)

    -- what is kept of an address that stands in a row: the lesser lifetime
    abbrev pub again : ℕ → Kept
    again j = record { out = s.out; lives = lowered j t s.lives; count = s.count; full = s.full }

    there : (j : ℕ) → j < s.count → is_same (order_of (row s.out j) v) ≡ true → again j ≡ keep_in v t s
    there j q e =
        let q' : j < length l = omega (arith, count) in
        let z : j ≡ k = sym (rank_at v l j h.ascending q' (same_equal (get_or l j []) v (is_same_lem (order_of (get_or l j []) v) (sym (told j q') ∙ e)))) in
        ap again z ∙ keep_found v t s k (omega (arith, z)) (ap (λ (i : ℕ). is_same (order_of (row s.out i) v)) (sym z) ∙ e) ∙ keep_at_lem v t s k lax place

    module _ (m : k < length l → order_of (get_or l k []) v ≡ Equal → ⊥) where
      absent : k < s.count → is_same (order_of (row s.out k) v) ≡ false
      absent q =
          let q' : k < length l = omega (arith, count) in
          told k q' ∙ refuted (is_same (order_of (get_or l k []) v)) (λ e. m q' (is_same_lem (order_of (get_or l k []) v) e))

      pub longer : length (insert v l) ≡ suc (length l)
      longer =
          ap length (insert_new v l m)
          ∙ omega (arith, length-append (take k l) (v ∷ drop k l), length-take k l, length-drop k l, rank_within v l)

    -- what is kept: v stood there, or it is put in its place, or there is no room
    abbrev pub added : Kept
    added = record { out = put_at 16 (k * 16) (s.count * 16) v s.out; lives = put_at 1 k s.count (t ∷ []) s.lives; count = s.count + 1; full = false }

    abbrev pub past : Kept
    past = record { out = s.out; lives = s.lives; count = s.count; full = true }

    pub keep_cases : (P : Kept → Type 0)
        → (k < length l → order_of (get_or l k []) v ≡ Equal → P (again k))
        → ((k < length l → order_of (get_or l k []) v ≡ Equal → ⊥) → length l < room → P added)
        → ((k < length l → order_of (get_or l k []) v ≡ Equal → ⊥) → room ≤ length l → P past)
        → P (keep_in v t s)
    keep_cases P found new over = go (dec_lt k (length l)) (order_of (get_or l k []) v) refl
      where
        apart : (k < length l → order_of (get_or l k []) v ≡ Equal → ⊥) → Dec (length l < room) → P (keep_in v t s)
        apart m (yes q) = subst P (keep_new v t s k (absent m) (omega (arith, long, count)) ∙ keep_at_lem v t s k lax place) (new m q)
        apart m (no q) = subst P (keep_over v t s k (absent m) (omega (arith, long, count, q)) ∙ keep_at_lem v t s k lax place) (over m (omega (arith, q)))

        go : Dec (k < length l) → (o : Ordering) → order_of (get_or l k []) v ≡ o → P (keep_in v t s)
        go (yes q) Equal e = subst P (there k (omega (arith, count)) (told k q ∙ ap is_same e)) (found q e)
        go (yes q) Less e = apart (λ q f. let z : ◌≡◌ {A = ℕ} 0 1 = cc in omega arith) (dec_lt (length l) room)
        go (yes q) Greater e = apart (λ q f. let z : ◌≡◌ {A = ℕ} 0 1 = cc in omega arith) (dec_lt (length l) room)
        go (no q) o e = apart (λ p f. q p) (dec_lt (length l) room)

    kept_lax : Holds room (insert v l) (keep_in v t s)
    kept_lax = keep_cases (Holds room (insert v l)) found new over
      where
        found : k < length l → order_of (get_or l k []) v ≡ Equal → Holds room (insert v l) (again k)
        found q e = subst (λ (m : List (List ℕ)). Holds room m (again k)) (sym (insert_found v l q e)) record { rows = h.rows; ascending = h.ascending; stands = h.stands }

        new : (k < length l → order_of (get_or l k []) v ≡ Equal → ⊥) → length l < room → Holds room (insert v l) added
        new m q =
            let d = room - length l in
            let e : room - length (insert v l) ≡ d - 1 = omega (arith, longer m) in
            let o : put_at 16 (k * 16) (s.count * 16) v s.out ≡ flat (insert v l) ++ blank ((room - length (insert v l)) * 16) =
            (λ i. put_at 16 (k * 16) (count i * 16) v ((out ∙ ap (λ (x : List ℕ). flat l ++ x) (blank_more d (omega arith))) i))
            ∙ put_flat v l (blank 16) (blank ((d - 1) * 16)) k h.rows (length_blank 16) (rank_within v l)
            ∙ sym (λ i. flat (insert_new v l m i) ++ blank (e i * 16)) in
            record {
              rows = insert_rows v l n h.rows;
              ascending = insert_ascending v l h.ascending;
              stands = inl (refl, omega (arith, count, longer m), omega (arith, longer m), o);
            }

        over : (k < length l → order_of (get_or l k []) v ≡ Equal → ⊥) → room ≤ length l → Holds room (insert v l) past
        over m q = record {
          rows = insert_rows v l n h.rows;
          ascending = insert_ascending v l h.ascending;
          stands = inr (refl, omega (arith, longer m));
        }

  -- keeping v keeps this true of the list with v
  pub keep_holds : Holds room (insert v l) (keep_in v t s)
  keep_holds =
      ⊎_elim (λ w. kept_lax w.0 w.1 w.2 w.3)
      (λ w.
      subst (λ (c : Kept). Holds room (insert v l) c) (keep_full v t s w.0) record {
        rows = insert_rows v l n h.rows;
        ascending = insert_ascending v l h.ascending;
        stands = inr (w.0, omega (arith, w.1, (insert_length v l).0));
      })
      h.stands

-- what is kept stays in order
pub keep_ordered : (v : List ℕ) (t : ℕ) (s : Kept) → length v ≡ 16 → Ordered s → Ordered (keep_in v t s)
keep_ordered v t s n o = record { room = o.room; list = insert v o.list; holds = keep_holds o.room v t o.list s n o.holds }

-- an address that stands in a row: only its lifetime may change
pub keep_met : (v : List ℕ) (t : ℕ) (s : Kept) → length v ≡ 16 → Ordered s → s.full ≡ false → (j : ℕ) → j < s.count → is_same (order_of (row s.out j) v) ≡ true
    → record { out = s.out; lives = lowered j t s.lives; count = s.count; full = s.full } ≡ keep_in v t s
keep_met v t s n o lax j h e =
    ⊎_elim (λ w. there o.room v t o.list s n o.holds w.0 w.1 w.2 w.3 j h e) (λ w. absurd (clash w.0 lax)) o.holds.stands
