-- What a table in order gives: places that hold names, and a graph with sound addresses.
use Prim.Native.Nat.{ℕ, ◌+◌, ◌*◌, ◌≤◌, ◌<◌}
use mathlib.Core.Path.{◌≡◌, refl}
use mathlib.Core.Bool.{Bool, true, false}
use mathlib.Core.List.{List}
use native.Mathlib.Omega.{arith}
use lib.ListN.{length}
use Rattle.octets.specs.Octets.{Small}
use Rattle.plan.specs.Layout.{count_of, record_at}
use Rattle.plan.specs.Check.{targetless, InOrder}
use Rattle.plan.proofs.LayoutLaws.{record_length, record_small}
use Rattle.plan.proofs.OrderLaws.{order_count, order_good}
use Rattle.plan.proofs.RecordLaws.{address_length, address_small}
use Rattle.chains.specs.Sound.{Sound}
use Rattle.plan.specs.Graph.{graph_of}
use Rattle.numbering.specs.Numbers.{names_of, target_in, target_number}
use Rattle.numbering.specs.Buckets.{max_names, Named}
use Rattle.numbering.proofs.NamesLaws.{names_few, target_listed}
use Rattle.numbering.proofs.HeldLaws.{slot_owner, slot_target}

module _ (t : List ℕ) (o : InOrder t) where
  pub names_fit : length (names_of t) ≤ max_names
  names_fit = let m = order_count t o in let n = names_few t in omega arith

  -- a target's number, and what stands for none, has 16 bits
  pub target_short : (i : ℕ) → i < count_of t → target_number t i < 65536
  unfolding target_number target_in
  target_short i h = go (targetless (record_at t i)) refl
    where
      go : (b : Bool) → targetless (record_at t i) ≡ b → target_number t i < 65536
      go true e = rw (target_in, e) (omega arith)
      go false e = omega (arith, target_listed t i h e, names_fit)

  -- the places of a record's names
  pub owner_named : (i : ℕ) → i < count_of t → Named t (2 * i)
  owner_named i h = record {
    inside = omega arith;
    small = let m = order_count t o in omega arith;
    holds = rw (slot_owner t i) (order_good t o i h).owner;
  }

  pub target_named : (i : ℕ) → i < count_of t → targetless (record_at t i) ≡ false → Named t (2 * i + 1)
  target_named i h e = record {
    inside = omega arith;
    small = let m = order_count t o in omega arith;
    holds = rw (slot_target t i) ((order_good t o i h).target e);
  }

  -- both graphs have addresses of sixteen octets, prefix lengths up to 128 and TTLs up to the greatest
  pub sound_graph : Small t → Sound (graph_of t)
  sound_graph s = record {
    sixteen = λ i h. address_length (record_at t i) (record_length t i h);
    small = λ i h. address_small (record_at t i) (record_small t i s);
    short = λ i h. (order_good t o i h).prefix;
    lived = λ i h. (order_good t o i h).lived;
  }
