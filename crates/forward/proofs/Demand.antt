-- Demand 2 for lookup.
use Prim.Native.Nat.{ℕ, ◌-◌, ◌*◌, ◌/◌, ◌%◌}
use mathlib.Core.Path.{◌≡◌, sym, ap, ◌∙◌}
use mathlib.Core.Bool.{true}
use mathlib.Core.List.{List}
use lib.ListN.{length, length-map}
use native.Mathlib.Omega.{arith}
use borrow.Author.Tests.{lt-ltb, le-ltb}
use Rattle.octets.specs.Octets.{Small, flat}
use Rattle.octets.specs.Answers.{answer_by, out_by}
use Rattle.octets.proofs.FlatLaws.{flat_length}
use Rattle.labels.specs.Scan.{well_formed}
use Rattle.chains.specs.Listing.{chains_of, work_of}
use Rattle.chains.specs.Addresses.{addresses_of}
use Rattle.chains.specs.Lifetimes.{lifetime_of}
use Rattle.chains.proofs.Listed.{listed_once}
use Rattle.chains.proofs.AddressesLaws.{spells_listed, addresses_ascending, addresses_each}
use Rattle.chains.proofs.LifetimeLaws.{lifetime_least}
use Rattle.plan.specs.Check.{InOrder}
use Rattle.plan.specs.Graph.{graph_of}
use Rattle.numbering.proofs.OrderLaws.{sound_graph}
use Rattle.plan.proofs.EntryLaws.{entry_done}
use Rattle.search.specs.Answers.{number_of}
use Rattle.forward.specs.Lookup.{lookup_number, lookup_answer, lookup_out, lookup_ttls}
use Rattle.forward.specs.Demand.{Demanded}
use Rattle.forward.proofs.LookupLaws.{lookup_on, fitting}

-- Theorem: on input that earns none of 1 to 5 `Demanded` holds, for every limit, an output of whole addresses and a list with one place for each
pub lookup_demand : (t name : List ℕ) (limit room : ℕ) → InOrder t → Small t → well_formed name ≡ true
    → Demanded t name limit room (lookup_answer t name limit (room * 16) room) (lookup_out t name limit (room * 16) room) (lookup_ttls t name limit (room * 16) room)
unfolding work_of number_of answer_by out_by
lookup_demand t name limit room o s w =
    let g = graph_of t in
    let sound = sound_graph t o s in
    let z : room * 16 % 16 ≡ 0 = omega arith in
    let n : room ≡ room * 16 / 16 = omega arith in
    let on : lookup_number t name limit (room * 16) room ≡ number_of g name limit room =
    lookup_on t name limit (room * 16) room (entry_done t name o w) (fitting (room * 16) room z n) ∙ ap (number_of g name limit) (sym n) in
    record {
      addresses = addresses_of g name;
      ascending = addresses_ascending g name;
      exactly = spells_listed g name sound;
      lifetime = lifetime_of g name;
      least = lifetime_least g sound name;
      chains = chains_of g name;
      once = (listed_once g name sound).0;
      every = (listed_once g name sound).1;
      over = λ h.
          let e : lookup_number t name limit (room * 16) room ≡ 6 = on ∙ rw (lt-ltb limit (length (chains_of g name)) h) in
          (rw e, rw e, rw e);
      full = λ h k.
          let e : lookup_number t name limit (room * 16) room ≡ 7 = on ∙ rw (le-ltb limit (length (chains_of g name)) h, lt-ltb room (length (addresses_of g name)) k) in
          (rw e, rw e, rw e);
      done = λ h k.
          let e : lookup_number t name limit (room * 16) room ≡ 0 = on ∙ rw (le-ltb limit (length (chains_of g name)) h, le-ltb room (length (addresses_of g name)) k) in
          let f = flat_length 16 (addresses_of g name) (addresses_each g name) in
          let q : room * 16 - length (flat (addresses_of g name)) ≡ (room - length (addresses_of g name)) * 16 = omega (arith, f) in
          let m = length-map (addresses_of g name) (lifetime_of g name) in
          (rw e, rw (e, q), rw (e, m));
    }
