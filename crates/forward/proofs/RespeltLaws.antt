-- Lookups do not see spelling: tables that differ in it alone, asked for one name in any spelling, give the same number, figures, addresses and TTLs.
use Prim.Native.Nat.{ℕ, ◌/◌}
use mathlib.Core.Path.{◌≡◌}
use mathlib.Core.Bool.{◌&&◌}
use mathlib.Core.List.{List}
use mathlib.Core.Logic.{◌↔◌}
use lib.Dec.{eqb}
use Rattle.octets.specs.Octets.{same}
use Rattle.labels.specs.Scan.{well_formed}
use Rattle.names.specs.Standard.{Same, same_name}
use Rattle.chains.specs.Chain.{Spells}
use Rattle.chains.specs.Listing.{work_of}
use Rattle.chains.specs.Addresses.{addresses_of}
use Rattle.chains.specs.Lifetimes.{lifetime_of}
use Rattle.chains.specs.Renaming.{Alike, Renamed}
use Rattle.chains.proofs.RenamingLaws.{work_renamed, addresses_renamed, spells_renamed}
use Rattle.chains.proofs.LifetimeLaws.{lifetime_renamed}
use Rattle.plan.specs.Layout.{a6, target_at, is_type}
use Rattle.plan.specs.Respelt.{Respelt}
use Rattle.plan.specs.Check.{InOrder, entry_number}
use Rattle.plan.specs.Graph.{owns_a6, graph_of}
use Rattle.forward.specs.Lookup.{lookup_number, lookup_answer, lookup_out, lookup_ttls}
use Rattle.forward.proofs.LookupLaws.{number_like, answer_like, output_like, lives_like}

module _ (t u : List ℕ) (r : Respelt t u) where
  -- a name in one spelling owns the same records as in another
  alike : (x y : List ℕ) → Same x y → Alike (graph_of t) (graph_of u) x y
  unfolding owns_a6 is_type same_name
  alike x y e i h =
      let k = r.types i h in
      let o = r.owners i h in
      λ j. eqb (k j) a6 && same (o j) (e j)

  renamed : Renamed (graph_of t) (graph_of u)
  renamed = record {
    sizes = r.counts;
    lengths = r.prefixes;
    addresses = r.addresses;
    targets = λ i h z. alike (target_at t i) (target_at u i) (r.targets i h);
  }

  module _ (x y : List ℕ) (e : Same x y) where
    work_respelt : work_of (graph_of t) x ≡ work_of (graph_of u) y
    work_respelt = work_renamed (graph_of t) (graph_of u) renamed x y (alike x y e)

    addresses_respelt : addresses_of (graph_of t) x ≡ addresses_of (graph_of u) y
    addresses_respelt = addresses_renamed (graph_of t) (graph_of u) renamed x y (alike x y e)

    lifetime_respelt : (a : List ℕ) → lifetime_of (graph_of t) x a ≡ lifetime_of (graph_of u) y a
    lifetime_respelt a = lifetime_renamed (graph_of t) (graph_of u) renamed r.ttls x y (alike x y e) a

    -- Theorem: a name has the same addresses in any spelling
    pub spells_respelt : (a : List ℕ) → Spells (graph_of t) x a ↔ Spells (graph_of u) y a
    spells_respelt a = spells_renamed (graph_of t) (graph_of u) renamed x y (alike x y e) a

    module _ (o : InOrder t) (p : InOrder u) (w : well_formed x ≡ well_formed y) (limit size room : ℕ) where
      -- Theorem: tables in order that differ in spelling alone give the same number
      pub number_respelt : lookup_number t x limit size room ≡ lookup_number u y limit size room
      unfolding lookup_number entry_number
      number_respelt = rw (o, p, w, number_like (graph_of t) (graph_of u) x y work_respelt addresses_respelt limit (size / 16))

      -- Theorem: they give the same figures
      pub answer_respelt : lookup_answer t x limit size room ≡ lookup_answer u y limit size room
      answer_respelt = rw number_respelt (answer_like (graph_of t) (graph_of u) x y work_respelt addresses_respelt (lookup_number u y limit size room))

      -- Theorem: they give the same addresses
      pub out_respelt : lookup_out t x limit size room ≡ lookup_out u y limit size room
      out_respelt = rw number_respelt (output_like (graph_of t) (graph_of u) x y work_respelt addresses_respelt (lookup_number u y limit size room) size)

      -- Theorem: they give the same TTLs
      pub ttls_respelt : lookup_ttls t x limit size room ≡ lookup_ttls u y limit size room
      ttls_respelt = rw number_respelt (lives_like (graph_of t) (graph_of u) x y work_respelt addresses_respelt lifetime_respelt (lookup_number u y limit size room) room)
