-- The loop over the records: what is numbered so far, and a turn.
use Prim.Native.Nat.{ℕ, ◌+◌, ◌-◌, ◌*◌, ◌≤◌, ◌<◌}
use mathlib.Core.Path.{◌≡◌, refl, ap, sym, ◌∙◌}
use mathlib.Core.List.{List}
use native.Mathlib.Omega.{arith}
use lib.ListN.{length, get_or, set, length-set}
use Rattle.plan.specs.Layout.{count_of, owner_at}
use Rattle.numbering.specs.Numbers.{number_in, meeting, meeting_target, names_to, names_of, own_number, target_in, target_number, filled}
use Rattle.numbering.specs.Buckets.{held, Before}
use Rattle.numbering.specs.Meeting.{names_in, Meets}
use Rattle.numbering.specs.declared.inside.Names.{Names}
use Rattle.numbering.proofs.NamesLaws.{names_none, names_more, names_all, own_met, own_stays, target_met, filled_none, filled_more, filled_at}
use Rattle.numbering.proofs.HeldLaws.{held_none}

-- the records of the table t before i are numbered
pub record Going (t own₀ target₀ own target : List ℕ) (n : Names) (i : ℕ) : Type 0 where
  pub here : n.table.now ≡ t
  pub names : names_in n ≡ names_to t i
  pub less : n.count ≤ 2 * i
  pub owners : own ≡ filled (own_number t) i own₀
  pub targets : target ≡ filled (target_number t) i target₀
  pub own_kept : length own ≡ length own₀
  pub target_kept : length target ≡ length target₀

pub going_none : (own target : List ℕ) (n : Names) → n.count ≡ 0 → Going n.table.now own target own target n 0
going_none own target n e = record {
  here = refl;
  names = ap (held n.table.now n.places) e ∙ held_none n.table.now n.places ∙ sym (names_none n.table.now);
  less = omega arith;
  owners = sym (filled_none (own_number n.table.now) own);
  targets = sym (filled_none (target_number n.table.now) target);
  own_kept = refl;
  target_kept = refl;
}

pub going_all : {t own₀ target₀ own target : List ℕ} {n : Names} {i : ℕ} → Going t own₀ target₀ own target n i → i ≡ count_of t →
    (names_in n ≡ names_of t) × (own ≡ filled (own_number t) (count_of t) own₀) × (target ≡ filled (target_number t) (count_of t) target₀)
going_all {t = t} {own₀ = own₀} {target₀ = target₀} {i = i} g e =
    (g.names ∙ names_all t i e, g.owners ∙ ap (λ (n : ℕ). filled (own_number t) n own₀) e, g.targets ∙ ap (λ (n : ℕ). filled (target_number t) n target₀) e)

module _ {t own₀ target₀ own target : List ℕ} {n : Names} {i : ℕ} (g : Going t own₀ target₀ own target n i) (h : i < count_of t) where
  -- the number of the owner before record i is noted
  pub going_before : count_of t ≤ length own₀ → Before n.table.now own (names_in n) i
  going_before l = record {
    noted = omega (arith, g.own_kept);
    number = λ p.
        ap (λ (o : List ℕ). get_or o (i - 1) 0) g.owners ∙ filled_at (own_number t) own₀ i (i - 1) (omega arith) (omega arith)
        ∙ sym (number_is ∙ (own_stays t (i - 1) (omega arith) i (omega arith)).0);
    listed = λ p. omega (arith, number_is, ap length g.names, (own_stays t (i - 1) (omega arith) i (omega arith)).1);
  }
    where
      number_is : number_in (names_in n) (owner_at n.table.now (i - 1)) ≡ number_in (names_to t i) (owner_at t (i - 1))
      number_is k = number_in (g.names k) (owner_at (g.here k) (i - 1))

  -- the owner of record i is met, and then its target
  pub going_more : {n' n'' : Names} {o p : ℕ} →
      Meets n n' (number_in (names_in n) (owner_at n.table.now i)) (meeting (names_in n) (owner_at n.table.now i)) o →
      Meets n' n'' (target_in (names_in n') n'.table.now i) (meeting_target n'.table.now i (names_in n')) p →
      Going t own₀ target₀ (set own i o) (set target i p) n'' (i + 1)
  going_more {n'} {n''} {o} {p} a b =
      let here' : n'.table.now ≡ t = rw a.table g.here in
      let e : names_in n' ≡ meeting (names_to t i) (owner_at t i) = a.names_are ∙ λ k. meeting (g.names k) (owner_at (g.here k) i) in
      let q : o ≡ own_number t i = a.numbered ∙ (λ k. number_in (g.names k) (owner_at (g.here k) i)) ∙ own_met t i h in
      let r : p ≡ target_number t i = b.numbered ∙ (λ k. target_in (e k) (here' k) i) ∙ target_met t i h in record {
        here = rw b.table here';
        names = b.names_are ∙ (λ k. meeting_target (here' k) i (e k)) ∙ sym (names_more t i);
        less = let u = a.most in let v = b.most in let w = g.less in omega arith;
        owners = rw (filled_more (own_number t) own₀ i) (λ k. set (g.owners k) i (q k));
        targets = rw (filled_more (target_number t) target₀ i) (λ k. set (g.targets k) i (r k));
        own_kept = length-set own i o ∙ g.own_kept;
        target_kept = length-set target i p ∙ g.target_kept;
      }
