-- `search::inside::find` meets its contract: the search begins with every record in its list, and what it leaves is the answer.
use Prim.Native.Nat.{ℕ, suc, ◌+◌, ◌-◌, ◌*◌, ◌/◌, ◌<◌}
use mathlib.Core.Path.{◌≡◌, ap, sym, subst, ◌∙◌}
use mathlib.Core.Bool.{true}
use native.Mathlib.Omega.{arith}
use lib.ListN.{length}
use borrow.Author.Rules.{rules}
use Rattle.octets.specs.Octets.{blank}
use Rattle.octets.specs.Answers.{refusal, answering}
use Rattle.octets.proofs.AnswerLaws.{not_nought, refused_answer, refused_out}
use Rattle.chains.specs.Graph.{Graph, max_ttl}
use Rattle.chains.specs.Sound.{Sound}
use Rattle.rows.specs.Halves.{address_of}
use Rattle.rows.specs.Held.{kept}
use Rattle.search.specs.Search.{Records, records_of, graph_of, State, searched}
use Rattle.search.specs.Memory.{Memory, memory, memory_of, state_of, search_of, Fit, Leaves}
use Rattle.search.specs.Answers.{number_of, answer_of, output_of, lives_of}
use Rattle.search.proofs.AnswerLaws.{start, first, numbered_sound, fit_first, state_first, found_over, found_full, found_answer, found_output, found_lives, found_few, found_left}
use Rattle.search.proofs.inside.find.Goals.{After-new-rows, After-over}
use Rattle.search.proofs.inside.find.Goals as goal

-- where the search is back: the records, and the number that is due
abbrev given : After-over → Records
given c = records_of c.args.records

abbrev graph : After-over → Graph ℕ
graph c = graph_of (given c)

abbrev room : After-over → ℕ
room c = length c.args.out.now / 16

abbrev number : After-over → ℕ
number c = number_of (graph c) c.args.x c.args.limit (room c)

sound : (c : After-over) → Sound (graph c)
sound c = numbered_sound (given c) c.requires.numbered.0

-- the memory that the search begins with
abbrev begun : (c : After-new-rows) → Memory
begun c =
    let p = c.requires in
    let a = c.args in
    let l = c.link in
    first (records_of a.records) p.numbered.0 l.new.self.next l.new.self.prev a.out.now a.lives.now a.limit l.ensures p.out_len.0 p.out_len.1 p.out_len.2 p.out_len.3

begins : (c : After-new-rows) → memory c.link.new.self.next c.link.new.self.prev (kept c.new-rows.result) (c.from-most.result + 1) ≡ begun c
begins c = λ i. memory c.link.new.self.next c.link.new.self.prev (c.new-rows.ensures.value i) (c.from-most.ensures i + 1)

-- and the state that it leaves
abbrev left : After-over → State
left c = state_of (memory_of c.over.new.self)

ran : (c : After-over) → left c ≡ searched (graph c) (blank (length c.args.records.owners.now)) c.args.x 128 (blank 16) max_ttl (c.args.limit + 1, start (room c))
ran c =
    let p = c.requires in
    let a = c.args in
    let l = c.link in
    state_first (given c) p.numbered.0 l.new.self.next l.new.self.prev a.out.now a.lives.now a.limit l.ensures p.out_len.0 p.out_len.1 p.out_len.2 p.out_len.3 a.x (memory_of c.over.new.self)
    (subst (λ (m : Memory). Leaves m (memory_of c.over.new.self) (search_of (given c) a.x 128 (address_of 0 0) max_ttl m))
    (λ i. memory l.new.self.next l.new.self.prev (c.new-rows.ensures.value i) (c.from-most.ensures i + 1)) c.over.ensures.done)

pub over-requires : goal.over-requires
over-requires c =
    let p = c.requires in
    let a = c.args in
    let l = c.link in
    let here = (goal.at.over-requires c).After-new-rows in
    record {
      fit = subst (λ (m : Memory). Fit (records_of a.records) m 128) (sym (begins here))
          (fit_first (records_of a.records) p.numbered.0 l.new.self.next l.new.self.prev a.out.now a.lives.now a.limit l.ensures p.out_len.0 p.out_len.1 p.out_len.2 p.out_len.3);
      first_of_x = (p.numbered.1, c.after-first.ensures);
    }

-- the number that is due: 6 where no chain is left to count, 7 where there was no room
due_over : (c : After-over) → c.over.new.self.left ≡ 0 → number c ≡ 6
due_over c z = found_over (graph c) (sound c) c.args.x c.args.limit (room c) _ (ran c) z

due_full : (c : After-over) → 0 < c.over.new.self.left → c.over.new.self.rows.now.full ≡ true → number c ≡ 7
due_full c w f = found_full (graph c) (sound c) c.args.x c.args.limit (room c) _ (ran c) w f

-- a refusal, with zeros in both lists
record Refused (c : After-over) (k : ℕ) : Type 0 where
  value : refusal (suc k) ≡ answer_of (graph c) c.args.x (number c)
  out : blank (length c.args.out.now) ≡ output_of (graph c) c.args.x (number c) (length c.args.out.now)
  lives : blank (length c.args.lives.now) ≡ lives_of (graph c) c.args.x (number c) (room c)

refused : (c : After-over) (k : ℕ) → number c ≡ suc k → Refused c k
refused c k e =
    let y : length c.args.lives.now ≡ room c = omega (arith, c.requires.out_len.2) in
    record {
      value = refused_answer (suc k) _ (sym e) (not_nought k) _ _;
      out = refused_out (suc k) _ (sym e) (not_nought k) _ (length c.args.out.now);
      lives = ap blank y ∙ refused_out (suc k) _ (sym e) (not_nought k) _ (room c);
    }

pub returns-then-left-eq0-clause-value : goal.returns-then-left-eq0-clause-value
returns-then-left-eq0-clause-value c =
    let here = (goal.at.returns-then-left-eq0-clause-value c).After-over in
    c.refuse.ensures.0 ∙ (refused here 5 (due_over here c.if-left-eq0.true)).value

pub returns-then-left-eq0-clause-out_after : goal.returns-then-left-eq0-clause-out_after
returns-then-left-eq0-clause-out_after c =
    let here = (goal.at.returns-then-left-eq0-clause-out_after c).After-over in
    let e = (refused here 5 (due_over here c.if-left-eq0.true)).out in
    search rules

pub returns-then-left-eq0-clause-lives_after : goal.returns-then-left-eq0-clause-lives_after
returns-then-left-eq0-clause-lives_after c =
    let here = (goal.at.returns-then-left-eq0-clause-lives_after c).After-over in
    let e = (refused here 5 (due_over here c.if-left-eq0.true)).lives in
    search rules

pub returns-then-full-clause-value : goal.returns-then-full-clause-value
returns-then-full-clause-value c =
    let here = (goal.at.returns-then-full-clause-value c).After-over in
    c.refuse-then-full.ensures.0 ∙ (refused here 6 (due_full here (omega (arith, c.if-left-eq0.false)) (sym c.if-full.ensures))).value

pub returns-then-full-clause-out_after : goal.returns-then-full-clause-out_after
returns-then-full-clause-out_after c =
    let here = (goal.at.returns-then-full-clause-out_after c).After-over in
    let e = (refused here 6 (due_full here (omega (arith, c.if-left-eq0.false)) (sym c.if-full.ensures))).out in
    search rules

pub returns-then-full-clause-lives_after : goal.returns-then-full-clause-lives_after
returns-then-full-clause-lives_after c =
    let here = (goal.at.returns-then-full-clause-lives_after c).After-over in
    let e = (refused here 6 (due_full here (omega (arith, c.if-left-eq0.false)) (sym c.if-full.ensures))).lives in
    search rules

pub overflow_cast-result : goal.overflow_cast-result
overflow_cast-result c =
    let here = (goal.at.overflow_cast-result c).After-over in
    omega (arith, c.count-count.ensures, found_few (graph here) (sound here) c.args.x c.args.limit (room here) _ (ran here) (omega (arith, c.if-left-eq0.false)) (sym c.if-full.ensures))

pub overflow_sub-result : goal.overflow_sub-result
overflow_sub-result c =
    let here = (goal.at.overflow_sub-result c).After-over in
    omega (arith, c.from-most.ensures, found_left (graph here) (sound here) c.args.x c.args.limit (room here) _ (ran here) (omega (arith, c.if-left-eq0.false)))

-- neither: chains are left to count, and there was room
pub returns-clause-value : goal.returns-clause-value
returns-clause-value c =
    let here = (goal.at.returns-clause-value c).After-over in
    (λ i. answering (c.count-count.ensures i) (c.from-most.ensures i + 1 - c.over.new.self.left))
    ∙ found_answer (graph here) (sound here) c.args.x c.args.limit (room here) _ (ran here) (omega (arith, c.if-left-eq0.false)) (sym c.if-full.ensures)

pub returns-clause-out_after : goal.returns-clause-out_after
returns-clause-out_after c =
    let here = (goal.at.returns-clause-out_after c).After-over in
    let q : room here * 16 ≡ length c.args.out.now = omega (arith, c.requires.out_len.0) in
    let e = found_output (graph here) (sound here) c.args.x c.args.limit (room here) _ (ran here) (omega (arith, c.if-left-eq0.false)) (sym c.if-full.ensures) ∙ ap (output_of (graph here) c.args.x _) q in
    search rules

pub returns-clause-lives_after : goal.returns-clause-lives_after
returns-clause-lives_after c =
    let here = (goal.at.returns-clause-lives_after c).After-over in
    let e = found_lives (graph here) (sound here) c.args.x c.args.limit (room here) _ (ran here) (omega (arith, c.if-left-eq0.false)) (sym c.if-full.ensures) in
    search rules
