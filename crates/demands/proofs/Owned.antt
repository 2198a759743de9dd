-- What the type of a slice gives: arguments that can be owned, as the language's types own them, show octets.
use Prim.Native.Nat.{ℕ, suc, ◌<◌}
use mathlib.Core.Path.{◌≡◌, refl}
use mathlib.Core.HLevel.{⊥_prop}
use mathlib.Core.Logic.{∥∥₁_prop, ∥∥₁_elim}
use mathlib.Core.Bool.{Bool, true, false}
use mathlib.Core.List.{List, [], ◌∷◌}
use native.Mathlib.Omega.{arith}
use lib.Dec.{ltb}
use lib.ListN.{get_or}
use borrow.Author.Tests.{ltb-true, ltb-false}
use mir.Syntax.{w8, erased}
use mir.Val.{Val}
use base.Fml.{Lft, Share}
use base.Logic.{ent, sep, guard, via, mono∗, mono_l, mono_r, fst∗, snd∗, comm∗}
use prog.Memory.{Memory}
use types.Logic.{sem}
use contract.Monad.{guard→, guard→fact}
use contract.Adequate.{Satisfies, sat_weaken, sat_upd, sat_fact}
use contract.CodeStep.{Step}
use contract.Lifetimes.{Lfts, Shares, toks, Outlives}
use denote.RattleType.{RattleType, owns}
use denote.Ref.{Bor}
use denote.Signature.{Signature, Slot, shr_slice, types_at}
use denote.Slice.{ShrSlice as Slice}
use denote.Triple.Entry.{Args, Vals, on_entry}
use denote.Triple.CanOwn.{learns_can_own}
use borrow.Table.Owned.{ShrSlice}
use borrow.Table.Referent.{f_int, rt_f}
use borrow.Kind.ShrSlice.{shr_laws}
use borrow.Rule.Slice.Know.{AllWt, fit_at, shs_known}
use borrow.Fn.World.{World, Pr}
use borrow.Fn.Learn.{Can}
use Rattle.octets.specs.Octets.{Small}
use Rattle.demands.specs.Demand2.{Ownable}

-- u8, as the language's types have it
abbrev octet : RattleType
octet = rt_f (f_int w8)

-- a list of values of u8 is a list of octets
octets : (xs : List ℕ) → ∥ AllWt (f_int w8) xs ∥₁ → Small xs
octets xs h i = go (ltb (get_or xs i 0) 256) refl
  where
    go : (b : Bool) → ltb (get_or xs i 0) 256 ≡ b → get_or xs i 0 < 256
    go true e = ltb-true (get_or xs i 0) 256 e
    go false e = absurd (∥∥₁_elim h ⊥_prop (λ a. let f = (fit_at (f_int w8) 0 (record { fits = omega arith }) xs a i).fits in let g = ltb-false (get_or xs i 0) 256 e in omega arith))

module _ (w : World) where
  abbrev ◌⊢◌ : Pr w → Pr w → Type 1
  P ⊢ Q = ent w.𝓤 P Q

  abbrev ◌∗◌ : Pr w → Pr w → Pr w
  P ∗ Q = sep w.𝓤 P Q

  infix 26 ◌⊢◌
  infixr 35 ◌∗◌
  -- of two pairs, the first halves; the second halves
  front : (P Q R S : Pr w) → (P ∗ Q) ∗ (R ∗ S) ⊢ P ∗ R
  front P Q R S = mono∗ w.𝓤 {P = P ∗ Q} {P' = P} {Q = R ∗ S} {Q' = R} (fst∗ w.𝓤 P Q) (fst∗ w.𝓤 R S)

  back : (P Q R S : Pr w) → (P ∗ Q) ∗ (R ∗ S) ⊢ Q ∗ S
  back P Q R S = mono∗ w.𝓤 {P = P ∗ Q} {P' = Q} {Q = R ∗ S} {Q' = S} (snd∗ w.𝓤 P Q) (snd∗ w.𝓤 R S)

  -- a token of a lifetime, and what a slice of octets at it owns
  abbrev token : Lft → Share → Pr w
  token κ q = w.𝓛.A.lft κ q

  abbrev slice : Lft → Bor (List ℕ) → List Val → Pr w
  slice κ x vs = sem w.𝓛 ((Slice erased κ octet).own_val x vs)

  -- where a memory satisfies both, the loan is opened, and each place of the slice holds a value of u8
  slice_known : (κ : Lft) (q : Share) (x : Bor (List ℕ)) (vs : List Val) (σ : Memory) → Satisfies w.𝓤 w.𝓛.H w.𝓜 σ (token κ q ∗ slice κ x vs) → ∥ AllWt (f_int w8) x.now ∥₁
  slice_known κ q x vs σ s =
      let owned : Pr w = sem w.𝓛 ((ShrSlice erased κ octet).own_val x) in
      let all : Type 0 = AllWt (f_int w8) x.now in
      let opened : Pr w = guard w.𝓤 all (owned ∗ token κ q) in
      let enters : slice κ x vs ⊢ owned = via w.𝓤 _ ((shr_laws w.𝓛 1 octet erased 0 tt).own_in (κ, tt) x vs) (guard→ w.𝓤 _ owned) in
      let opens : token κ q ∗ slice κ x vs ⊢ w.𝓛.H.⇛ opened =
      via w.𝓤 (slice κ x vs ∗ token κ q) (comm∗ w.𝓤 (token κ q) (slice κ x vs))
      (via w.𝓤 (owned ∗ token κ q) (mono_l w.𝓤 (token κ q) enters) (shs_known w.𝓛 (f_int w8) κ q x.ref_ptr.0 x.ref_ptr.1 x.now)) in
      sat_fact w.𝓤 w.𝓛.H w.𝓜 σ opened all (via w.𝓤 opened (snd∗ w.𝓤 (w.𝓜.mem σ) opened) (guard→fact w.𝓤 all (owned ∗ token κ q)))
      (sat_upd w.𝓤 w.𝓛.H w.𝓜 σ σ (token κ q ∗ slice κ x vs) opened (via w.𝓤 (w.𝓜.mem σ ∗ w.𝓛.H.⇛ opened) (mono_r w.𝓤 (w.𝓜.mem σ) opens) (w.𝓜.⇛_run σ opened)) s)

-- the parameters after the first two
abbrev pub later : {n : ℕ} → List (Slot n) → List (Slot n)
later [] = []
later (a ∷ []) = []
later (a ∷ b ∷ ss) = ss

-- Of a function whose first two parameters are `&[u8]`, at lifetimes of their own: arguments that can be owned show octets there.
module _ (n : ℕ) (bounds : List (Outlives (suc (suc n)))) (others : List (Slot (suc (suc n)))) (result : Slot (suc (suc n))) where
  abbrev pub slices : Signature
  slices = record { lifetimes = suc (suc n); outlives = bounds; params = shr_slice 0 tt (λ _. octet) ∷ shr_slice 1 tt (λ _. octet) ∷ others; result = result }

  module _ (κs : Lfts (suc (suc n))) (a : Args slices κs) (owned : Ownable slices κs a) where
    pub slices_octets : Small a.0.now × Small a.1.0.now
    unfolding Satisfies
    slices_octets = (
      octets a.0.now (∥∥₁_elim can ∥∥₁_prop (λ t.
          slice_known w κs.0 t.1.0 a.0 t.2.0 t.0 (sat_weaken w.𝓤 w.𝓛.H w.𝓜 t.0 (first t.1 t.2) t.3))),
      octets a.1.0.now (∥∥₁_elim can ∥∥₁_prop (λ t.
          slice_known w κs.1.0 t.1.1.0 a.1.0 t.2.1.0 t.0 (sat_weaken w.𝓤 w.𝓛.H w.𝓜 t.0 (second t.1 t.2) t.3))),
    )
      where
        w : World
        w = owned.0

        can : Can w slices κs a
        can = owned.1

        -- the tokens after the first, and what is owned after the first slice
        tokens : Shares (suc (suc n)) → Pr w
        tokens qs = toks w.𝓛 (suc n) κs.1 qs.1

        others_own : Vals slices κs → Pr w
        others_own vss = sem w.𝓛 (owns (types_at (shr_slice 1 tt (λ _. octet) ∷ others) κs) a.1 vss.1)

        -- a token and a slice, out of what a call has on entry
        first : (qs : Shares (suc (suc n))) (vss : Vals slices κs)
            → ent w.𝓤 (on_entry w.𝓛 slices κs qs a vss) (sep w.𝓤 (token w κs.0 qs.0) (slice w κs.0 a.0 vss.0))
        first qs vss = front w (token w κs.0 qs.0) (tokens qs) (slice w κs.0 a.0 vss.0) (others_own vss)

        second : (qs : Shares (suc (suc n))) (vss : Vals slices κs)
            → ent w.𝓤 (on_entry w.𝓛 slices κs qs a vss) (sep w.𝓤 (token w κs.1.0 qs.1.0) (slice w κs.1.0 a.1.0 vss.1.0))
        second qs vss =
            via w.𝓤 (sep w.𝓤 (tokens qs) (others_own vss)) (back w (token w κs.0 qs.0) (tokens qs) (slice w κs.0 a.0 vss.0) (others_own vss))
            (front w (token w κs.1.0 qs.1.0) (toks w.𝓛 n κs.1.1 qs.1.1) (slice w κs.1.0 a.1.0 vss.1.0)
            (sem w.𝓛 (owns (types_at others κs) a.1.1 vss.1.1)))

-- Whoever has all that the parameters' types own of the arguments, as each caller has, may take it for known in front of a step of the machine.
pub callers_have : (S : Signature) (κs : Lfts S.lifetimes) (a : Args S κs) (w : World) (qs : Shares S.lifetimes) (vss : Vals S κs) (P T : Pr w) → Step w.𝓤 w.𝓛.H w.𝓜 T
    → ent w.𝓤 P (on_entry w.𝓛 S κs qs a vss) → (Ownable S κs a → ent w.𝓤 P T) → ent w.𝓤 P T
callers_have S κs a w qs vss P T step has k = learns_can_own w.𝓛 w.𝓜 S κs a qs vss P T step has (λ can. k (w, can))
