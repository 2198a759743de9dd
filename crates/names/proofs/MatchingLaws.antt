-- Names are the same exactly when they match: keys are equal where octets, units and names count alike.
use Prim.Native.Nat.{ℕ, ◌+◌, ◌<◌}
use mathlib.Core.Path.{◌≡◌, refl, ap, ap₂, ◌∙◌, sym}
use mathlib.Core.Bool.{true}
use mathlib.Core.List.{List, [], ◌∷◌, map, head-eq_of_cons-eq, tail-eq_of_cons-eq}
use mathlib.Core.Logic.{◌⊎◌, inl, inr, ◌↔◌}
use native.Mathlib.Omega.{arith}
use Rattle.octets.specs.Octets.{Small}
use Rattle.labels.specs.Scan.{well_formed}
use Rattle.names.specs.Standard.{Unit, label, bit, units_of, lower, key_unit, keys, Same}
use Rattle.names.specs.Matching.{Capital, MatchOctet, Pairwise, MatchUnit, MatchName}
use Rattle.names.proofs.LowerLaws.{lower_large, lower_letter, lower_ways}
use Rattle.names.proofs.KeyLaws.{same_units_lem, keys_same}

-- octets
lower_match : (x y : ℕ) → lower x ≡ lower y → MatchOctet x y
lower_match x y h = go (lower_ways x) (lower_ways y)
  where
    go : (lower x ≡ x) ⊎ ((64 < x) × (x < 91) × (lower x ≡ x + 32)) → (lower y ≡ y) ⊎ ((64 < y) × (y < 91) × (lower y ≡ y + 32)) → MatchOctet x y
    go (inl e) (inl f) = inl (sym e ∙ h ∙ f)
    go (inl e) (inr f) = inr (inr (omega (arith, f.0), omega (arith, f.1), sym e ∙ h ∙ f.2))
    go (inr e) (inl f) = inr (inl (omega (arith, e.0), omega (arith, e.1), sym f ∙ sym h ∙ e.2))
    go (inr e) (inr f) = inl (omega (arith, h, e.2, f.2))

capital_lower : (x y : ℕ) → Capital x y → lower x ≡ lower y
capital_lower x y e = lower_letter x (omega (arith, e.0)) (omega (arith, e.1)) ∙ sym e.2 ∙ sym (lower_large y (omega (arith, e.0, e.2)))

match_lower : (x y : ℕ) → MatchOctet x y → lower x ≡ lower y
match_lower x y (inl e) = ap lower e
match_lower x y (inr (inl e)) = capital_lower x y e
match_lower x y (inr (inr e)) = sym (capital_lower y x e)

-- Theorem: octets count alike exactly when they are equal or one letter in two cases
pub octets_match : (x y : ℕ) → (lower x ≡ lower y) ↔ MatchOctet x y
octets_match x y = (lower_match x y, match_lower x y)

-- lists
module _ {A B : Type 0} (f : A → B) (R : A → A → Type 0) where
  map_pairwise : ((x y : A) → f x ≡ f y → R x y) → (xs ys : List A) → map f xs ≡ map f ys → Pairwise R xs ys
  map_pairwise g [] [] h = record {}
  map_pairwise g [] (y ∷ ys) h = let z : ◌≡◌ {A = ℕ} 0 1 = cc in omega arith
  map_pairwise g (x ∷ xs) [] h = let z : ◌≡◌ {A = ℕ} 0 1 = cc in omega arith
  map_pairwise g (x ∷ xs) (y ∷ ys) h = (g x y (head-eq_of_cons-eq h), map_pairwise g xs ys (tail-eq_of_cons-eq h))

  pairwise_map : ((x y : A) → R x y → f x ≡ f y) → (xs ys : List A) → Pairwise R xs ys → map f xs ≡ map f ys
  pairwise_map g [] [] p = refl
  pairwise_map g [] (y ∷ ys) p = absurd p
  pairwise_map g (x ∷ xs) [] p = absurd p
  pairwise_map g (x ∷ xs) (y ∷ ys) p = ap₂ (λ (b : B) (bs : List B). b ∷ bs) (g x y p.0) (pairwise_map g xs ys p.1)

-- units
key_match : (u v : Unit) → key_unit u ≡ key_unit v → MatchUnit u v
unfolding key_unit
key_match (label l) (label m) h = map_pairwise lower MatchOctet lower_match l m cc
key_match (label l) (bit c) h = let z : ◌≡◌ {A = ℕ} 0 1 = cc in omega arith
key_match (bit b) (label m) h = let z : ◌≡◌ {A = ℕ} 0 1 = cc in omega arith
key_match (bit b) (bit c) h = cc

match_key : (u v : Unit) → MatchUnit u v → key_unit u ≡ key_unit v
unfolding key_unit
match_key (label l) (label m) p = ap label (pairwise_map lower MatchOctet match_lower l m p)
match_key (label l) (bit c) p = absurd p
match_key (bit b) (label m) p = absurd p
match_key (bit b) (bit c) p = ap bit p

-- Theorem: units have the same keys exactly when they match one by one
pub units_match : (us vs : List Unit) → (keys us ≡ keys vs) ↔ Pairwise MatchUnit us vs
units_match us vs = (map_pairwise key_unit MatchUnit key_match us vs, pairwise_map key_unit MatchUnit match_key us vs)

-- Theorem: well-formed names are the same exactly when they match
pub names_match : (m n : List ℕ) → Small m → Small n → well_formed m ≡ true → well_formed n ≡ true → Same m n ↔ MatchName m n
names_match m n s t u v = (λ h. (units_match (units_of m) (units_of n)).0 (same_units_lem m n s t u v h), λ p. keys_same m n ((units_match (units_of m) (units_of n)).1 p))
