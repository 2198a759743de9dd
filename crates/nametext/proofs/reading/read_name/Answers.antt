-- `nametext::reading::read_name` meets its contract.
use Prim.Native.Nat.{◌+◌, ◌≤◌}
use mathlib.Core.Path.{◌≡◌, ap, sym, ◌∙◌}
use lib.ListN.{length, drop}
use native.Mathlib.Omega.{arith}
use borrow.Author.Rules.{rules}
use Rattle.std.specs.Prelude.{Ok, Err}
use Rattle.names.specs.declared.Name.{Name}
use Rattle.text.specs.Digits.{leading}
use Rattle.nametext.specs.Characters.{may_name}
use Rattle.nametext.proofs.NumberLaws.{told_name, told_refused}
use Rattle.nametext.proofs.NamedLaws.{named_at, name_beyond, next_after}
use Rattle.nametext.proofs.reading.read_name.Goals.{After-pass-next}
use Rattle.nametext.proofs.reading.read_name.Goals as goal

next : (c : After-pass-next) → c.pass-next.result ≡ c.args.from + leading may_name (drop c.args.from c.args.s.now)
next c = c.pass-next.ensures may_name (λ x l b p. search rules)

pub returns-then-s-from : goal.returns-then-s-from
returns-then-s-from c = let a = c.args in name_beyond a.s.now a.from c.pass-next.result (next (goal.at.returns-then-s-from c).After-pass-next) (omega arith)

pub slice_bounds-text-count : goal.slice_bounds-text-count
slice_bounds-text-count c = omega (arith, next (goal.at.slice_bounds-text-count c).After-pass-next)

pub slice_bounds-text-start : goal.slice_bounds-text-start
slice_bounds-text-start c =
    let h : c.args.from ≤ c.pass-next.result = omega (arith, next (goal.at.slice_bounds-text-start c).After-pass-next) in
    search rules

pub slice_bounds-text-end : goal.slice_bounds-text-end
slice_bounds-text-end c =
    let a = c.args in
    let h : c.pass-next.result ≤ length c.args.s.now = (next_after a.s.now a.from c.pass-next.result (next (goal.at.slice_bounds-text-end c).After-pass-next) (omega arith)).1 in
    search rules

pub name_in-requires : goal.name_in-requires
name_in-requires c = sym c.in-Ok.ensures

pub returns-in-Ok : goal.returns-in-Ok
returns-in-Ok c =
    let a = c.args in
    named_at a.s.now a.from c.pass-next.result (next (goal.at.returns-in-Ok c).After-pass-next) (Ok c.name_in.result) (ap (λ (n : Name). Ok n) c.name_in.ensures ∙ sym (told_name _ (sym c.in-Ok.ensures)))

pub returns-in-Err : goal.returns-in-Err
returns-in-Err c =
    let a = c.args in
    named_at a.s.now a.from c.pass-next.result (next (goal.at.returns-in-Err c).After-pass-next) (Err c.in-Err.refusal) (sym (told_refused _ c.in-Err.refusal (sym c.in-Err.ensures)))
