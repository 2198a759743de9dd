-- `search::links::Lists::link` meets its contract. The loop's invariant: the records before i are in their lists.
use Prim.Native.Nat.{ℕ}
use mathlib.Core.List.{List}
use Rattle.search.specs.Links.{max_nodes}
use Rattle.search.proofs.BuildLaws.{Chained}
use Rattle.search.proofs.links.Lists.link.Given as goal

abbrev pub invariant-loop-i : goal.invariant-loop-i
invariant-loop-i l = (u : List ℕ) × Chained l.owners u l.self.next l.self.prev max_nodes l.i
