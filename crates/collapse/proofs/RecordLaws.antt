-- The fields of the record that two records make, and that it keeps the layout.
use Prim.Native.Nat.{ℕ, ◌^◌, ◌≤◌, ◌<◌, min}
use mathlib.Core.Path.{◌≡◌, ◌∙◌}
use mathlib.Core.Logic.{inl}
use mathlib.Core.List.{List}
use native.Mathlib.Omega.{arith}
use lib.ListN.{length}
use Rattle.address.specs.Address.{join_of}
use Rattle.address.proofs.AddressLaws.{join_length}
use Rattle.address.proofs.ClearLaws.{clear_join}
use Rattle.plan.specs.Layout.{record_size, address_size, a6, type_of, prefix_of, address_of, owner_slot, target_slot, ttl_of, record_of, is_type}
use Rattle.plan.specs.Check.{targetless}
use Rattle.plan.specs.Good.{Good}
use Rattle.plan.proofs.RecordLaws.{address_length, owner_length, target_length, type_made, prefix_made, zero_made, record_made, address_made, owner_made, target_made, ttl_made}
use Rattle.collapse.specs.Fold.{joined_of}
use Rattle.collapse.specs.Rule.{Joins}

-- the bits of the record that r and q make, and its TTL
abbrev pub bits : List ℕ → List ℕ → List ℕ
bits r q = join_of (address_of q) (address_of r) (prefix_of r)

abbrev pub least : List ℕ → List ℕ → ℕ
least r q = min (ttl_of r) (ttl_of q)

-- the record written from fields of r and q
pub joined_is : (r q address owner target : List ℕ) (prefix ttl : ℕ) → prefix ≡ prefix_of q → address ≡ bits r q → owner ≡ owner_slot r → target ≡ target_slot q → ttl ≡ least r q
    → record_of a6 prefix address owner target ttl ≡ joined_of r q
unfolding joined_of
joined_is r q address owner target prefix ttl e f g h k = rw (e, f, g, h, k)

-- what r and q make
module _ (r q : List ℕ) (wr : length r ≡ record_size) (wq : length q ≡ record_size) where
  address_joined : length (bits r q) ≡ address_size
  address_joined = join_length _ _ (prefix_of r) (address_length q wq) (address_length r wr)

  pub joined_length_lem : length (joined_of r q) ≡ record_size
  unfolding joined_of
  joined_length_lem = record_made a6 (prefix_of q) (bits r q) (owner_slot r) (target_slot q) (least r q) address_joined (owner_length r wr) (target_length q wq)

  -- its fields are as the rule says; the TTL is, if four octets hold it
  pub kind_joined : type_of (joined_of r q) ≡ a6
  unfolding joined_of
  kind_joined = type_made a6 (prefix_of q) (bits r q) (owner_slot r) (target_slot q) (least r q)

  pub owner_joined : owner_slot (joined_of r q) ≡ owner_slot r
  unfolding joined_of
  owner_joined = owner_made a6 (prefix_of q) (bits r q) (owner_slot r) (target_slot q) (least r q) address_joined (owner_length r wr) (target_length q wq)

  pub prefix_joined : prefix_of (joined_of r q) ≡ prefix_of q
  unfolding joined_of
  prefix_joined = prefix_made a6 (prefix_of q) (bits r q) (owner_slot r) (target_slot q) (least r q)

  pub target_joined : target_slot (joined_of r q) ≡ target_slot q
  unfolding joined_of
  target_joined = target_made a6 (prefix_of q) (bits r q) (owner_slot r) (target_slot q) (least r q) address_joined (owner_length r wr) (target_length q wq)

  pub bits_joined : address_of (joined_of r q) ≡ bits r q
  unfolding joined_of
  bits_joined = address_made a6 (prefix_of q) (bits r q) (owner_slot r) (target_slot q) (least r q) address_joined (owner_length r wr) (target_length q wq)

  pub joins : least r q < 2 ^ 32 → Joins r q (joined_of r q)
  unfolding joined_of
  joins h = record {
    kind = kind_joined;
    owner = owner_joined;
    prefix = prefix_joined;
    target = target_joined;
    bits = bits_joined;
    ttl = ttl_made a6 (prefix_of q) (bits r q) (owner_slot r) (target_slot q) (least r q) address_joined (owner_length r wr) (target_length q wq) h;
    nought = zero_made a6 (prefix_of q) (bits r q) (owner_slot r) (target_slot q) (least r q);
    whole = joined_length_lem;
  }

  same_end : type_of q ≡ a6 → targetless q ≡ targetless (joined_of r q)
  unfolding targetless is_type
  same_end k = rw (k, kind_joined, prefix_joined)

  -- it keeps the layout, since it is as long as q and its first bits are those of q
  pub joined_good : Good r → Good q → type_of q ≡ a6 → prefix_of q ≤ prefix_of r → Good (joined_of r q)
  joined_good gr gq k h =
      let j = joins (omega (arith, gr.lived)) in
      let o = j.owner in
      let t = j.target in
      record {
        kind = inl j.kind;
        prefix = rw j.prefix gq.prefix;
        nought = j.nought;
        clear = rw (j.prefix, j.bits) (clear_join (address_of q) (address_of r) (prefix_of q) (prefix_of r) (address_length q wq) (address_length r wr) gq.clear h);
        owner = rw o gr.owner;
        bare = λ d. let z : ⊥ = omega (arith, j.kind) in absurd z;
        target = λ e. rw t (gq.target (same_end k ∙ e));
        none = λ e. t ∙ gq.none (same_end k ∙ e);
        lived = omega (arith, j.ttl, gr.lived);
      }
