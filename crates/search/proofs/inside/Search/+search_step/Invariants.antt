-- `search::inside::Search::over` and `step`: unused records fall with each step, and the loop's invariant is that what is passed has been searched.
use Prim.Native.Nat.{◌+◌, ◌-◌, ◌*◌}
use lib.ListN.{length}
use Rattle.chains.specs.Listing.{free}
use Rattle.rows.specs.Halves.{whole}
use Rattle.search.specs.Search.{records_of}
use Rattle.search.specs.Memory.{memory_of, unused_of, Borrows}
use Rattle.search.proofs.GoingLaws.{sought, Going}
use Rattle.search.proofs.inside.Search.+search_step.Given as goal

abbrev pub decreases-over : goal.decreases-over
decreases-over l = let s = l.self.now in 2 * free (unused_of (records_of s.records) (memory_of s)) + 1

abbrev pub decreases-step : goal.decreases-step
decreases-step l = let s = l.self.now in 2 * free (unused_of (records_of s.records) (memory_of s))

abbrev pub invariant-over-loop-i : goal.invariant-over-loop-i
invariant-over-loop-i l =
    let s = l.initial.self in
    Borrows s l.self × Going (sought (records_of s.records) l.x l.chain.bound (whole l.chain.address) l.chain.ttl (memory_of s)) (memory_of l.self) l.i

abbrev pub decreases-over-loop-i : goal.decreases-over-loop-i
decreases-over-loop-i l = length l.records.owners.now - l.i
