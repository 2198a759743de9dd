-- The graph over numbers is the graph over names, renamed: names have one number exactly when they are the same.
use Prim.Native.Nat.{ℕ, ◌<◌}
use mathlib.Core.Path.{◌≡◌, refl, ap}
use mathlib.Core.Logic.{◌↔◌}
use mathlib.Core.Bool.{Bool, ◌&&◌}
use mathlib.Core.List.{List}
use native.Mathlib.Omega.{arith}
use lib.Dec.{eqb}
use borrow.Author.Tests.{eq-eqb, eqb-true}
use Rattle.names.specs.Standard.{same_name}
use Rattle.plan.specs.Layout.{is_a6, count_of, record_at, owner_at}
use Rattle.plan.proofs.SlotLaws.{bool_iff}
use Rattle.plan.proofs.FaultLaws.{targetless_on}
use Rattle.chains.specs.Chain.{Spells}
use Rattle.chains.specs.Listing.{chains_of, work_of}
use Rattle.chains.specs.Addresses.{addresses_of}
use Rattle.chains.specs.Lifetimes.{lifetime_of}
use Rattle.chains.specs.Renaming.{Alike, Renamed}
use Rattle.chains.proofs.RenamingLaws.{renamed_by, renaming}
use Rattle.chains.proofs.LifetimeLaws.{lifetime_renamed}
use Rattle.numbering.specs.Numbers.{number_in, names_of, own_number, target_number}
use Rattle.plan.specs.Graph.{owns_a6, graph_of}
use Rattle.numbering.specs.Graph.{owns_numbered, numbered}
use Rattle.numbering.proofs.NumberLaws.{number_same, number_apart}
use Rattle.numbering.proofs.NamesLaws.{own_listed, target_some}

-- a record's owner is the same name as x exactly when they have one number
pub same_number : (t : List ℕ) (i : ℕ) (x : List ℕ) → i < count_of t → same_name (owner_at t i) x ≡ eqb (own_number t i) (number_in (names_of t) x)
unfolding own_number
same_number t i x h =
    bool_iff (same_name (owner_at t i) x) (eqb (own_number t i) (number_in (names_of t) x))
    (λ e. eq-eqb (own_number t i) (number_in (names_of t) x) (number_same (names_of t) (owner_at t i) x e))
    (λ e. number_apart (names_of t) (owner_at t i) x (own_listed t i h) (eqb-true (own_number t i) (number_in (names_of t) x) e))

pub alike : (t x : List ℕ) → Alike (graph_of t) (numbered t) x (number_in (names_of t) x)
unfolding owns_a6 owns_numbered
alike t x i h = ap (λ (b : Bool). is_a6 (record_at t i) && b) (same_number t i x h)

pub renamed : (t : List ℕ) → Renamed (graph_of t) (numbered t)
unfolding target_number
renamed t =
    renamed_by (graph_of t) (numbered t) (number_in (names_of t)) refl (λ i h. refl) (λ i h. refl) (alike t)
    (λ i h z. (target_some (names_of t) t i (targetless_on (record_at t i) (λ e. omega arith))).1)

-- Theorem: a search may look for the number of a name in place of the name: chains, work and addresses are the same
pub lookup_renamed : (t x : List ℕ) →
    (chains_of (graph_of t) x ≡ chains_of (numbered t) (number_in (names_of t) x))
    × (work_of (graph_of t) x ≡ work_of (numbered t) (number_in (names_of t) x))
    × (addresses_of (graph_of t) x ≡ addresses_of (numbered t) (number_in (names_of t) x))
    × ((a : List ℕ) → Spells (graph_of t) x a ↔ Spells (numbered t) (number_in (names_of t) x) a)
lookup_renamed t x = renaming (graph_of t) (numbered t) (renamed t) x (number_in (names_of t) x) (alike t x)

pub lifetime_number : (t x a : List ℕ) → lifetime_of (graph_of t) x a ≡ lifetime_of (numbered t) (number_in (names_of t) x) a
lifetime_number t x a = lifetime_renamed (graph_of t) (numbered t) (renamed t) (λ i h. refl) x (number_in (names_of t) x) (alike t x) a
