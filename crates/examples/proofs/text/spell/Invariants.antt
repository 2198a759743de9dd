-- `examples::text::spell` writes within the output.
use Rattle.std.proofs.Common.{◌≤◌, length}
use Rattle.examples.proofs.text.spell.Given as goal

abbrev pub invariant-loop-part : goal.invariant-loop-part
invariant-loop-part l = (goal.iterator-loop-part).can_next l.part-iterator × (goal.iterator-loop-part).is_finite l.part-iterator × (l.used ≤ length l.out)
