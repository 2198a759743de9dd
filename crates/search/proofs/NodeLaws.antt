-- Neighbours in a circular list: each node has one before it and one after it, and what taking a record out changes.
use Prim.Native.Nat.{ℕ, ◌≤◌, ◌<◌}
use mathlib.Core.Path.{◌≡◌, sym, ap, subst, ◌∙◌}
use mathlib.Core.Bool.{Bool, true, false}
use mathlib.Core.List.{List}
use native.Mathlib.Decide.{ℕ_discrete, dec_lt}
use native.Mathlib.Omega.{arith}
use lib.ListN.{length, get_or, set}
use lib.Seq.{get_or-set_same, get_or-set_other}
use Rattle.octets.proofs.BoolLaws.{clash}
use Rattle.search.specs.Links.{First, Last}

pub below? : {C : Type 0} (a b : ℕ) → (a < b → C) → (b ≤ a → C) → C
below? {C} a b f h = go (dec_lt a b)
  where
    go : Dec (a < b) → C
    go (yes l) = f l
    go (no l) = h (omega arith)

pub same? : {C : Type 0} (a b : ℕ) → (a ≡ b → C) → ((a ≡ b → ⊥) → C) → C
same? {C} a b f h = go (ℕ_discrete a b)
  where
    go : Dec (a ≡ b) → C
    go (yes l) = f l
    go (no l) = h l

-- what is at a place of a list in which w is stored at a: w, or what was there
pub stored : (P : ℕ → Type 0) (l : List ℕ) (a w j : ℕ) → a < length l → (j ≡ a → P w) → ((j ≡ a → ⊥) → P (get_or l j 0))
    → P (get_or (set l a w) j 0)
stored P l a w j h f g =
    same? j a
    (λ e. subst P (sym (ap (λ (v : ℕ). get_or (set l a w) v 0) e ∙ get_or-set_same l a w 0 h)) (f e))
    (λ d. subst P (sym (get_or-set_other l a j w 0 d)) (g d))

-- a is a node of the list: a record below n that p holds of, or the end e
pub record Node (p : ℕ → Bool) (n e a : ℕ) : Type 0 where
  pub here : a < n → p a ≡ true
  pub over : n ≤ a → a ≡ e

-- b comes next after a: both are nodes and no record between them is one. The end is before the first record and after the last.
pub record Follow (p : ℕ → Bool) (n e a b : ℕ) : Type 0 where
  pub left : Node p n e a
  pub right : Node p n e b
  pub order : a < n → b < n → a < b
  pub none : (m : ℕ) → m < n → (a < n → a < m) → (b < n → m < b) → p m ≡ false

pub node_below : {p : ℕ → Bool} {n e a : ℕ} (k : ℕ) → n ≤ e → e < k → Node p n e a → a < k
node_below {p} {n} {e} {a} k l h w = below? a n (λ o. omega arith) (λ o. let z = w.over o in omega arith)

pub node_as : {p p' : ℕ → Bool} {n e a : ℕ} → (a < n → p a ≡ true → p' a ≡ p a) → Node p n e a → Node p' n e a
node_as f w = record { here = λ l. f l (w.here l) ∙ w.here l; over = w.over }

-- ---- only one comes next after a node, and only one before it
module _ {p : ℕ → Bool} {n e : ℕ} where
  one : {b c : ℕ} → Node p n e b → Node p n e c → (b < n → (c < n → b < c) → ⊥) → (c < n → (b < n → c < b) → ⊥) → b ≡ c
  one {b} {c} x y f g =
      below? b n
      (λ l. below? b c (λ o. absurd (f l (λ _. o))) (λ o. below? c b (λ r. absurd (g (omega arith) (λ _. r))) (λ r. omega arith)))
      (λ l. below? c n (λ o. absurd (g o (λ r. absurd (omega arith)))) (λ o. x.over l ∙ sym (y.over o)))

  pub next_one : {a b c : ℕ} → Follow p n e a b → Follow p n e a c → b ≡ c
  next_one f g =
      one f.right g.right
      (λ l o. clash (f.right.here l) (g.none _ l (λ m. f.order m l) o))
      (λ l o. clash (g.right.here l) (f.none _ l (λ m. g.order m l) o))

  pub prev_one : {a b c : ℕ} → Follow p n e a c → Follow p n e b c → a ≡ b
  prev_one {a} {b} {c} f g =
      let f' : a < n → (b < n → b < a) → ⊥ = λ l o. clash (f.left.here l) (g.none a l o (f.order l)) in
      let g' : b < n → (a < n → a < b) → ⊥ = λ l o. clash (g.left.here l) (f.none b l o (g.order l)) in
      one f.left g.left
      (λ l o. below? b n (λ r. g' r (λ _. o r)) (λ r. f' l (λ z. absurd (omega arith))))
      (λ l o. below? a n (λ r. f' r (λ _. o r)) (λ r. g' l (λ z. absurd (omega arith))))

-- ---- reading a list from the node a, forwards or backwards: From holds of the records past a, and of all where a is the end
pub record Side (n a : ℕ) (Past From : ℕ → Type 0) : Type 0 where
  pub into : (m : ℕ) → m < n → (a < n → Past m) → From m
  pub back : (m : ℕ) → From m → a < n → Past m

module _ {n a : ℕ} {Past : ℕ → Type 0} where
  pub side_record : a < n → Side n a Past Past
  side_record l = record { into = λ m _ f. f l; back = λ m f _. f }

  pub side_end : {From : ℕ → Type 0} → n ≤ a → ((m : ℕ) → m < n → From m) → Side n a Past From
  side_end l f = record { into = λ m o _. f m o; back = λ m _ o. absurd (omega arith) }

module _ {p : ℕ → Bool} {n e a s k : ℕ} where
  pub first_follow : Side n a (a <◌) (s ≤◌) → Node p n e a → First p n e s k → Follow p n e a k
  first_follow d w f = record {
    left = w;
    right = record { here = λ l. (f.here l).1; over = f.over };
    order = λ l o. d.back k (f.here o).0 l;
    none = λ m l g h. f.none m (d.into m l g) (below? k n h (λ o. omega arith)) l;
  }

  pub follow_first : Side n a (a <◌) (s ≤◌) → Follow p n e a k → First p n e s k
  follow_first d f = record {
    none = λ m g h l. f.none m l (d.back m g) (λ _. h);
    here = λ l. (d.into k l (λ o. f.order o l), f.right.here l);
    over = f.right.over;
  }

  pub last_follow : Side n a (◌< a) (◌< s) → Node p n e a → Last p n e s k → Follow p n e k a
  last_follow d w f = record {
    left = record { here = λ l. (f.here l).1; over = f.over };
    right = w;
    order = λ l o. d.back k (f.here l).0 o;
    none = λ m l g h. f.none m (d.into m l h) g;
  }

  pub follow_last : s ≤ n → Side n a (◌< a) (◌< s) → Follow p n e k a → Last p n e s k
  follow_last b d f = record {
    none = λ m g h. f.none m (omega arith) h (d.back m g);
    here = λ l. (d.into k l (λ o. f.order l o), f.left.here l);
    over = f.left.over;
  }

-- ---- p' is p without i
pub record Without (p p' : ℕ → Bool) (i : ℕ) : Type 0 where
  pub out : p' i ≡ false
  pub same : (m : ℕ) → (m ≡ i → ⊥) → p' m ≡ p m

module _ {p p' : ℕ → Bool} {i : ℕ} (w : Without p p' i) where
  still : (m : ℕ) → p m ≡ false → p' m ≡ false
  still m h = same? m i (λ q. ap p' q ∙ w.out) (λ d. w.same m d ∙ h)

  pub follow_keep : {n e a b : ℕ} → (a ≡ i → ⊥) → (b ≡ i → ⊥) → Follow p n e a b → Follow p' n e a b
  follow_keep c d f = record {
    left = node_as (λ _ _. w.same _ c) f.left;
    right = node_as (λ _ _. w.same _ d) f.right;
    order = f.order;
    none = λ m l g h. still m (f.none m l g h);
  }

  pub follow_skip : {n e a b : ℕ} → i < n → Follow p n e a i → Follow p n e i b → Follow p' n e a b
  follow_skip li f g = record {
    left = node_as (λ l _. let o = f.order l li in w.same _ (λ z. omega arith)) f.left;
    right = node_as (λ l _. let o = g.order li l in w.same _ (λ z. omega arith)) g.right;
    order = λ l o. let x = f.order l li in let y = g.order li o in omega arith;
    none = λ m l x y. below? m i
        (λ o. still m (f.none m l x (λ _. o)))
        (λ o. same? m i (λ z. ap p' z ∙ w.out) (λ d. still m (g.none m l (λ _. omega arith) y)));
  }
