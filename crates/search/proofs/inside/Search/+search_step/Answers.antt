-- `search::inside::Search::over` and `step` meet their contracts: unused records fall with each step, and the loop's invariant is that what is passed has been searched.
use Prim.Native.Nat.{ℕ, ◌<◌, ◌-◌, ◌≤◌, ◌+◌}
use mathlib.Core.Path.{◌≡◌, refl, sym, ap, subst, ◌∙◌}
use mathlib.Core.Bool.{true}
use native.Mathlib.Omega.{arith}
use lib.ListN.{length, get_or}
use Rattle.chains.specs.Listing.{free}
use Rattle.rows.specs.Rows.{keep_in}
use Rattle.rows.specs.Halves.{whole}
use Rattle.rows.specs.Held.{kept}
use Rattle.rows.proofs.HalvesLaws.{address_length}
use Rattle.rows.proofs.RowsLaws.{keep_full}
use Rattle.search.specs.declared.inside.Records.{Records as Given}
use Rattle.search.specs.declared.inside.Search.{Search}
use Rattle.search.specs.Search.{records_of, target_of, length_of}
use Rattle.search.specs.Memory.{Memory, memory, memory_of, unused_of, Borrows, search_of, step_of, Fit, Ready, Leaves}
use Rattle.search.proofs.StepLaws.{without, onward, done_finished, target_name, fewer, fit_without, nothing, done_unfinished}
use Rattle.search.proofs.GoingLaws.{memory_eq, Sought, sought, Going, going_start, going_ready, going_step, going_skip, going_over, going_end, same_unused}
use Rattle.search.proofs.inside.Search.+search_step.Goals.{over-Start, over-then-records-i, over-else-records-i, step-Joined-first-n, step-then-first-n, step-else-first-n}
use Rattle.search.proofs.inside.Search.+search_step.Goals as goal

-- ---- over: what it is asked for
abbrev asked : (t : ℕ) → over-Start t → Sought
asked t c =
    let s = c.args.self.now in
    let p = c.args.chain in
    sought (records_of s.records) c.args.x p.bound (whole p.address) p.ttl (memory_of s)

pub over-loop-i-init : goal.over-loop-i-init
over-loop-i-init t c =
    let p = c.requires in
    ((refl, refl, (refl, refl)), going_start (asked t (goal.at.over-loop-i-init t c).Start) p.fit c.args.first p.first_of_x.0 p.first_of_x.1)

pub over-step-requires : goal.over-step-requires
over-step-requires t c =
    let q = asked t (goal.at.over-step-requires t c).Start in
    let a = c.args in
    let l = c.loop-i in
    let i = l.invariant in
    let e : unused_of (records_of l.self.records) (memory_of l.self) ≡ unused_of (records_of a.self.now.records) (memory_of a.self.now) =
    ap (λ (v : Given). unused_of (records_of v) (memory_of l.self)) i.0.0 ∙ same_unused q c.requires.fit i.1 c.loop-i-test.true in (
      omega (arith, c.decreases, ap free e),
      subst (λ (v : Given). Ready (records_of v) (memory_of l.self) a.chain.bound l.i) (sym i.0.0)
          (going_ready q c.requires.fit i.1 c.loop-i-test.true (address_length a.chain.address.high a.chain.address.low) c.if-records-i.true (omega (arith, c.if-self-ne0.true))),
    )

pub over-loop-i-preserved : goal.over-loop-i-preserved
over-loop-i-preserved t c =
    let q = asked t (goal.at.over-loop-i-preserved t c).Start in
    let a = c.args in
    let l = c.loop-i in
    let v = l.invariant in
    let j = c.after-i.result in
    let P : Search → Type 0 = λ s. Borrows a.self.now s × Going q (memory_of s) j in
    elim c.if-records-i.branch [
      | over-then-records-i w ↦
          let d = subst (λ (r : Given). Leaves (memory_of l.self) (memory_of w.step.new.self) (step_of (records_of r) l.i a.chain.bound (whole a.chain.address) a.chain.ttl (memory_of l.self))) v.0.0 w.step.ensures.done in
          let n = w.step.ensures.lent in
          subst P (sym w.self-is) (
            (n.0 ∙ v.0.0, n.1 ∙ v.0.1, (n.2.0 ∙ v.0.2.0, n.2.1 ∙ v.0.2.1)),
            going_step q c.requires.fit v.1 c.loop-i-test.true (memory_of w.step.new.self) j w.if-records-i.true d
                (c.after-i.ensures ∙ ap (λ (s : Search). get_or s.lists.now.next l.i 0) w.self-is),
          )
      | over-else-records-i w ↦
          subst P (sym w.self-is) (
            v.0,
            going_skip q c.requires.fit v.1 c.loop-i-test.true j w.if-records-i.false
                (c.after-i.ensures ∙ ap (λ (s : Search). get_or s.lists.now.next l.i 0) w.self-is),
          )
    ]

pub over-returns-else-self-ne0-clause-done : goal.over-returns-else-self-ne0-clause-done
over-returns-else-self-ne0-clause-done t c =
    let q = asked t (goal.at.over-returns-else-self-ne0-clause-done t c).Start in
    going_over q c.requires.fit c.loop-i.invariant.1 c.loop-i-test.true c.if-self-ne0.false

pub over-returns-after-loop-i-clause-done : goal.over-returns-after-loop-i-clause-done
over-returns-after-loop-i-clause-done t c =
    going_end (asked t (goal.at.over-returns-after-loop-i-clause-done t c).Start) c.requires.fit c.loop-i.invariant.1 c.loop-i-test.false

-- ---- step
pub step-returns-then-not-is_full-clause-done : goal.step-returns-then-not-is_full-clause-done
step-returns-then-not-is_full-clause-done t c =
    let a = c.args in
    let l = c.with-found.ensures in
    done_finished c.requires (whole a.chain.address) a.chain.ttl _ c.if-fields-eq0.true
    (c.keep.ensures.after ∙ λ z. keep_in (l.address z) (l.ttl z) (kept a.self.now.rows.now))

pub step-returns-else-not-is_full-clause-done : goal.step-returns-else-not-is_full-clause-done
step-returns-else-not-is_full-clause-done t c =
    let a = c.args in
    let f : (kept a.self.now.rows.now).full ≡ true = sym c.if-not-is_full.ensures in
    done_finished c.requires (whole a.chain.address) a.chain.ttl _ c.if-fields-eq0.true (keep_full _ _ (kept a.self.now.rows.now) f)

pub step-over-requires : goal.step-over-requires
step-over-requires t c =
    let s = c.args.self.now in
    let r = records_of s.records in
    let m = memory_of s in
    let i = c.args.i in
    let o : Ready r m c.args.chain.bound i = c.requires in
    let u = c.unlink in
    let h : 0 < length_of r i = omega (arith, c.if-fields-eq0.false) in
    let e : memory u.new.self.next u.new.self.prev (kept s.rows.now) (s.left - 1) ≡ without m i = memory_eq u.ensures.next u.ensures.prev refl refl in (
      omega (arith, c.decreases, fewer o, ap (λ (w : Memory). free (unused_of r w)) e),
      (
        subst (λ (w : Memory). Fit r w c.with.result.bound) (sym e) (subst (Fit r (without m i)) (sym c.with.ensures.bound) (fit_without o h)),
        (omega (arith, c.wide-target.ensures, target_name o h), c.after-first.ensures),
      ),
    )

-- where both branches meet: it was searched from there on, or there was nothing to search
been : (t : ℕ) (c : step-Joined-first-n t)
    → let a = c.args in
    let m = memory_of a.self.now in
    Leaves (without m a.i) (memory_of c.if-first-n.self) (onward (records_of a.self.now.records) m a.chain.bound a.i (whole a.chain.address) a.chain.ttl)
been t c =
    let s = c.args.self.now in
    let r = records_of s.records in
    let m = memory_of s in
    let i = c.args.i in
    let p = c.args.chain in
    let o : Ready r m p.bound i = c.requires in
    let u = c.unlink in
    let b = without m i in
    let h : 0 < length_of r i = omega (arith, c.if-fields-eq0.false) in
    let e : memory u.new.self.next u.new.self.prev (kept s.rows.now) (s.left - 1) ≡ b = memory_eq u.ensures.next u.ensures.prev refl refl in
    elim c.if-first-n.branch [
      | step-then-first-n w ↦
          let l = w.with in
          subst (λ (v : Search). Leaves b (memory_of v) (onward r m p.bound i (whole p.address) p.ttl)) (sym w.self-is)
          (subst (Leaves b (memory_of w.over.new.self)) (λ z. search_of r (c.wide-target.ensures z) (l.ensures.bound z) (l.ensures.address z) (l.ensures.ttl z) b)
          (subst (λ (v : Memory). Leaves v (memory_of w.over.new.self) (search_of r c.wide-target.result l.result.bound (whole l.result.address) l.result.ttl v)) e w.over.ensures.done))
      | step-else-first-n w ↦
          let f : length r.owners ≤ get_or b.next (length r.owners + target_of r i) 0 =
          subst (λ (k : ℕ). length r.owners ≤ k) (c.after-first.ensures ∙ λ z. get_or (u.ensures.next z) (length r.owners + c.wide-target.ensures z) 0) w.if-first-n.false in
          subst (λ (v : Search). Leaves b (memory_of v) (onward r m p.bound i (whole p.address) p.ttl)) (sym w.self-is)
          (subst (λ (v : Memory). Leaves b v (onward r m p.bound i (whole p.address) p.ttl)) (sym e) (nothing o (whole p.address) p.ttl h f))
    ]

pub step-returns-after-first-n-clause-done : goal.step-returns-after-first-n-clause-done
step-returns-after-first-n-clause-done t c =
    let here = (goal.at.step-returns-after-first-n-clause-done t c).Joined-first-n in
    let s = c.args.self.now in
    let r = records_of s.records in
    let p = c.args.chain in
    let h : 0 < length_of r c.args.i = omega (arith, c.if-fields-eq0.false) in
    done_unfinished c.requires (whole p.address) p.ttl (memory_of c.if-first-n.self) (been t here) h _ _ c.relink.ensures.next c.relink.ensures.prev
