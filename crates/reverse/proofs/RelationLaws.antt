-- The walk is the rewriting relation (01, Reverse names): where it ends, when it is refused, and that no two rules tie.
use Prim.Native.Nat.{ℕ, zero, suc, ◌≤◌, ◌<◌}
use mathlib.Core.Path.{◌≡◌, refl, ap, ◌∙◌, sym}
use mathlib.Core.Bool.{Bool, true, false}
use mathlib.Core.List.{List, [], ◌∷◌, ◌++◌}
use mathlib.Core.Logic.{◌⊎◌, inl, inr, ⊎_elim}
use lib.Dec.{ltb}
use lib.ListN.{length, take, drop}
use lib.Seq.{take_at, drop_at}
use native.Mathlib.Omega.{arith}
use borrow.Author.Tests.{ltb-true, ltb-false}
use Rattle.names.specs.Standard.{Unit, keys}
use Rattle.chains.specs.Lists.{In}
use Rattle.rewriting.specs.Rewrite.{Applies, below_of, rewrite_of}
use Rattle.reverse.specs.Walk.{Rule, Due, none, due, better, due_from, due_of}
use Rattle.reverse.specs.Relation.{Settled, Rewrites}
use Rattle.rewriting.proofs.ApplyLaws.{applies_length, applies_below, below_applies, below_none}

-- rules with one owner, in any spelling, are one rule: two DNAMEs never share an owner (01, The plan table)
abbrev pub OneTarget : List Rule → Type 0
OneTarget rules = (r s : Rule) → In r rules → In s rules → keys r.owner ≡ keys s.owner → r ≡ s

-- what is below two rules' owners is the same where the owners have as many units, and so is the rest of the name
same_parts : (b c u v : List Unit) → b ++ u ≡ c ++ v → length b ≡ length c → (b ≡ c) × (u ≡ v)
same_parts b c u v e l = (
  sym (take_at b u (length b) refl) ∙ ap (take (length b)) e ∙ take_at c v (length b) (sym l),
  sym (drop_at b u (length b) refl) ∙ ap (drop (length b)) e ∙ drop_at c v (length b) (sym l),
)

-- Theorem: two rules that apply and have as many units in their owners have the same owner, and the same units below it
pub no_tie : (o p name b c : List Unit) → Applies o name b → Applies p name c → length o ≡ length p → (keys o ≡ keys p) × (b ≡ c)
no_tie o p name b c f g e =
    let m = applies_length o name b f in
    let n = applies_length p name c g in
    let q = same_parts b c f.rest g.rest (sym f.whole ∙ g.whole) (omega arith) in
    (sym f.alike ∙ ap keys q.1 ∙ g.alike, q.0)

-- a rewrite is at least as good as one that keeps b units, 0 for a rule that does not apply
abbrev AsGood : Due → ℕ → Type 0
AsGood none b = b ≡ 0
AsGood (due k t) b = (b ≡ 0) ⊎ (k ≤ b)

better_this : (best : Due) (b : ℕ) (t : List Unit) → AsGood (better best b t) b
unfolding better
better_this none zero t = refl
better_this (due j u) zero t = inl refl
better_this none (suc b) t = inr (omega arith)
better_this (due j u) (suc b) t = go (ltb (suc b) j) refl
  where
    go : (x : Bool) → ltb (suc b) j ≡ x → AsGood (better (due j u) (suc b) t) (suc b)
    go true e = rw (better, e) (inr (omega arith))
    go false e = let h = ltb-false (suc b) j e in rw (better, e) (inr h)

better_kept : (best : Due) (b c : ℕ) (t : List Unit) → AsGood best c → AsGood (better best b t) c
unfolding better
better_kept best zero c t g = g
better_kept none (suc b) c t g = inl g
better_kept (due j u) (suc b) c t g = go (ltb (suc b) j) refl
  where
    go : (x : Bool) → ltb (suc b) j ≡ x → AsGood (better (due j u) (suc b) t) c
    go true e = let h = ltb-true (suc b) j e in rw (better, e) (⊎_elim (λ z. inl z) (λ k. inr (omega arith)) g)
    go false e = rw (better, e) g

due_kept : (best : Due) (rules : List Rule) (name : List Unit) (c : ℕ) → AsGood best c → AsGood (due_from best rules name) c
unfolding due_from
due_kept best [] name c g = g
due_kept best (r ∷ rules) name c g = due_kept (better best (below_of r.owner name) r.target) rules name c (better_kept best (below_of r.owner name) c r.target g)

due_all : (best : Due) (rules : List Rule) (name : List Unit) (s : Rule) → In s rules → AsGood (due_from best rules name) (below_of s.owner name)
unfolding due_from
due_all best [] name s i = absurd i
due_all best (r ∷ rules) name s (inl e) =
    let b = below_of r.owner name in
    rw e (due_kept (better best b r.target) rules name b (better_this best b r.target))
due_all best (r ∷ rules) name s (inr i) = due_all (better best (below_of r.owner name) r.target) rules name s i

-- where a rewrite that is due comes from
record Comes (d : Due) (rules : List Rule) (name : List Unit) : Type 0 where
  rule : Rule
  listed : In rule rules
  some : 0 < below_of rule.owner name
  is : d ≡ due (below_of rule.owner name) rule.target

better_comes : (best : Due) (b : ℕ) (t : List Unit) → (better best b t ≡ best) ⊎ ((0 < b) × (better best b t ≡ due b t))
unfolding better
better_comes best zero t = inl refl
better_comes none (suc b) t = inr (omega arith, refl)
better_comes (due j u) (suc b) t = go (ltb (suc b) j) refl
  where
    go : (x : Bool) → ltb (suc b) j ≡ x → (better (due j u) (suc b) t ≡ due j u) ⊎ ((0 < suc b) × (better (due j u) (suc b) t ≡ due (suc b) t))
    go true e = inr (omega arith, rw (better, e))
    go false e = inl (rw (better, e))

due_comes : (best : Due) (rules : List Rule) (name : List Unit) → (due_from best rules name ≡ best) ⊎ Comes (due_from best rules name) rules name
unfolding due_from
due_comes best [] name = inl refl
due_comes best (r ∷ rules) name = go (due_from (better best (below_of r.owner name) r.target) rules name) (due_comes (better best (below_of r.owner name) r.target) rules name)
  where
    go : (d : Due) → (d ≡ better best (below_of r.owner name) r.target) ⊎ Comes d rules name → (d ≡ best) ⊎ Comes d (r ∷ rules) name
    go d (inl e) = ⊎_elim (λ q. inl (e ∙ q)) (λ q. inr (record { rule = r; listed = inl refl; some = q.0; is = e ∙ q.1 })) (better_comes best (below_of r.owner name) r.target)
    go d (inr c) = inr (record { rule = c.rule; listed = inr c.listed; some = c.some; is = c.is })

clash : {A : Type 0} (k : ℕ) (t : List Unit) → none ≡ due k t → A
clash k t e = let z : ◌≡◌ {A = ℕ} 0 1 = cc in let y : ⊥ = omega arith in absurd y

-- no rewrite is due exactly where no rule applies
pub due_none : (rules : List Rule) (name : List Unit) → due_of rules name ≡ none → Settled rules name
unfolding due_of
due_none rules name e r i below a =
    below_none r.owner name below (rw e at (due_all none rules name r i)) a

-- a rewrite that is due is one of the relation
pub due_some : (rules : List Rule) (name : List Unit) (k : ℕ) (t : List Unit) → due_of rules name ≡ due k t → Rewrites rules name (rewrite_of k name t)
unfolding due_of rewrite_of
due_some rules name k t e = ⊎_elim (λ q. clash k t (sym q ∙ e)) go (due_comes none rules name)
  where
    go : Comes (due_from none rules name) rules name → Rewrites rules name (take k name ++ t)
    go c =
        let o = c.rule.owner in
        let q : due (below_of o name) c.rule.target ≡ due k t = sym c.is ∙ e in
        let n : k ≡ below_of o name = cc in
        let u : t ≡ c.rule.target = cc in
        let a = below_applies o name c.some in
        let l = applies_below o name (take (below_of o name) name) a in
        let w = applies_length o name (take (below_of o name) name) a in
        record {
          rule = c.rule;
          listed = c.listed;
          below = take (below_of o name) name;
          applies = a;
          most = λ r i under b.
              let m = applies_below r.owner name under b in
              let g : (below_of r.owner name ≡ 0) ⊎ (k ≤ below_of r.owner name) = rw e at (due_all none rules name r i) in
              let v = applies_length r.owner name under b in
              ⊎_elim (λ z. absurd (below_none r.owner name under z b)) (λ h. omega arith) g;
          result = rw (n, u);
        }

-- the relation is a function where no two rules share an owner
pub one_rewrite : (rules : List Rule) → OneTarget rules → (name m n : List Unit) → Rewrites rules name m → Rewrites rules name n → m ≡ n
one_rewrite rules one name m n f g =
    let p = f.most g.rule g.listed g.below g.applies in
    let q = g.most f.rule f.listed f.below f.applies in
    let o = no_tie f.rule.owner g.rule.owner name f.below g.below f.applies g.applies (omega arith) in
    let r : f.rule ≡ g.rule = one f.rule g.rule f.listed g.listed o.0 in
    f.result ∙ ap (λ (us : List Unit). us ++ f.rule.target) o.1 ∙ ap (λ (s : Rule). g.below ++ s.target) r ∙ sym g.result

-- what the relation says of the rewrite that is due
pub settled_none : (rules : List Rule) (name : List Unit) → Settled rules name → due_of rules name ≡ none
settled_none rules name s = go (due_of rules name) refl
  where
    go : (d : Due) → due_of rules name ≡ d → due_of rules name ≡ none
    go none e = e
    go (due k t) e = let r = due_some rules name k t e in absurd (s r.rule r.listed r.below r.applies)

pub record Chosen (rules : List Rule) (name next : List Unit) : Type 0 where
  pub keeps : ℕ
  pub target : List Unit
  pub chosen : due_of rules name ≡ due keeps target
  pub gives : rewrite_of keeps name target ≡ next

pub rewrites_due : (rules : List Rule) → OneTarget rules → (name next : List Unit) → Rewrites rules name next → Chosen rules name next
rewrites_due rules one name next r = go (due_of rules name) refl
  where
    go : (d : Due) → due_of rules name ≡ d → Chosen rules name next
    go none e = absurd (due_none rules name e r.rule r.listed r.below r.applies)
    go (due k t) e = record { keeps = k; target = t; chosen = e; gives = one_rewrite rules one name (rewrite_of k name t) next (due_some rules name k t e) r }
