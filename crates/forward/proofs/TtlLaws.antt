-- Tables that differ in TTLs alone have the same chains, and so the same numbers, figures and addresses.
use Prim.Native.Nat.{ℕ, ◌/◌}
use mathlib.Core.Path.{◌≡◌, ap, ◌∙◌}
use mathlib.Core.Bool.{◌&&◌}
use mathlib.Core.List.{List}
use lib.Dec.{eqb}
use Rattle.names.specs.Standard.{same_name}
use Rattle.chains.specs.Listing.{work_of}
use Rattle.chains.specs.Addresses.{addresses_of}
use Rattle.chains.specs.Renaming.{Alike, Renamed}
use Rattle.chains.proofs.RenamingLaws.{work_renamed, addresses_renamed}
use Rattle.plan.specs.Layout.{a6, name_in, record_at, target_at, is_type}
use Rattle.plan.specs.Check.{InOrder, entry_number}
use Rattle.plan.specs.Graph.{owns_a6, graph_of}
use Rattle.plan.proofs.RecordLaws.{type_front, prefix_front, address_front, owner_front, target_front}
use Rattle.forward.specs.Lookup.{lookup_number, lookup_answer, lookup_out}
use Rattle.forward.specs.Demand.{ApartInTtls}
use Rattle.forward.proofs.LookupLaws.{number_like, answer_like, output_like}

module _ (t u : List ℕ) (apart : ApartInTtls t u) where
  -- every name owns the same records
  alike : (x : List ℕ) → Alike (graph_of t) (graph_of u) x x
  unfolding owns_a6 is_type
  alike x i h =
      let e = apart.fields i h in
      let k = type_front (record_at t i) (record_at u i) e in
      let o = owner_front (record_at t i) (record_at u i) e in
      λ j. eqb (k j) a6 && same_name (name_in (o j)) x

  renamed : Renamed (graph_of t) (graph_of u)
  renamed = record {
    sizes = apart.counts;
    lengths = λ i h. prefix_front (record_at t i) (record_at u i) (apart.fields i h);
    addresses = λ i h. address_front (record_at t i) (record_at u i) (apart.fields i h);
    targets = λ i h z.
        let e : target_at t i ≡ target_at u i = ap name_in (target_front (record_at t i) (record_at u i) (apart.fields i h)) in
        λ j l. alike (target_at t i) j l ∙ ap (owns_a6 u j) e;
  }

  module _ (x : List ℕ) where
    pub work_apart : work_of (graph_of t) x ≡ work_of (graph_of u) x
    work_apart = work_renamed (graph_of t) (graph_of u) renamed x x (alike x)

    pub addresses_apart : addresses_of (graph_of t) x ≡ addresses_of (graph_of u) x
    addresses_apart = addresses_renamed (graph_of t) (graph_of u) renamed x x (alike x)

  -- the theorem: where both are in order, lookup gives the same number, figures and addresses
  module _ (o : InOrder t) (p : InOrder u) (name : List ℕ) (limit size room : ℕ) where
    -- Theorem: tables in order that differ in TTLs alone give the same number
    pub number_apart : lookup_number t name limit size room ≡ lookup_number u name limit size room
    unfolding lookup_number entry_number
    number_apart = rw (o, p, number_like (graph_of t) (graph_of u) name name (work_apart name) (addresses_apart name) limit (size / 16))

    -- Theorem: they give the same figures
    pub answer_apart : lookup_answer t name limit size room ≡ lookup_answer u name limit size room
    unfolding lookup_answer
    answer_apart = rw number_apart (answer_like (graph_of t) (graph_of u) name name (work_apart name) (addresses_apart name) (lookup_number u name limit size room))

    -- Theorem: they give the same addresses
    pub out_apart : lookup_out t name limit size room ≡ lookup_out u name limit size room
    unfolding lookup_out
    out_apart = rw number_apart (output_like (graph_of t) (graph_of u) name name (work_apart name) (addresses_apart name) (lookup_number u name limit size room) size)
