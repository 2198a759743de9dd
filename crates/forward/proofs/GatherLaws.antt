-- Laws of the records that a search reads: one turn of each loop that fills them.
use Prim.Native.Nat.{ℕ, ◌+◌, ◌<◌}
use mathlib.Core.Path.{◌≡◌, ap, ◌∙◌, sym}
use mathlib.Core.Bool.{Bool, true, false}
use mathlib.Core.List.{List}
use lib.ListN.{length, get_or, set}
use lib.Seq.{get_or-set_same, get_or-set_other, set-get_or}
use native.Mathlib.Omega.{arith}
use native.Mathlib.Decide.{dec_lt}
use Rattle.chains.specs.Lists.{pick}
use Rattle.plan.specs.Layout.{is_a6, record_at, prefix_at, address_at, ttl_at}
use Rattle.numbering.specs.Numbers.{filled}
use Rattle.numbering.proofs.NamesLaws.{filled_more, filled_after}
use Rattle.rows.specs.Halves.{whole}
use Rattle.search.specs.declared.inside.Fields.{Fields}
use Rattle.search.specs.Search.{no_fields}
use Rattle.forward.specs.Gather.{no_owner, search_owner, Fielded}

-- one more owner: none for a DNAME, and that of an A6 record stays
module _ (t l : List ℕ) (i : ℕ) where
  pub owners_none : is_a6 (record_at t i) ≡ false → set (filled (search_owner t l) i l) i no_owner ≡ filled (search_owner t l) (i + 1) l
  owners_none e = ap (set (filled (search_owner t l) i l) i) (sym (ap (λ (b : Bool). pick b (get_or l i 0) no_owner) e)) ∙ sym (filled_more (search_owner t l) l i)

  pub owners_same : is_a6 (record_at t i) ≡ true → filled (search_owner t l) i l ≡ filled (search_owner t l) (i + 1) l
  owners_same e =
      sym (set-get_or (filled (search_owner t l) i l) i 0)
      ∙ ap (set (filled (search_owner t l) i l) i) (filled_after (search_owner t l) l i i (omega arith) ∙ sym (ap (λ (b : Bool). pick b (get_or l i 0) no_owner) e))
      ∙ sym (filled_more (search_owner t l) l i)

-- the fields of one more record
pub fielded_more : (t targets : List ℕ) (fields : List Fields) (i : ℕ) (v : Fields) → i < length fields
    → v.target ≡ get_or targets i 0 → v.length ≡ prefix_at t i → v.ttl ≡ ttl_at t i → whole v.address ≡ address_at t i
    → Fielded t targets fields i → Fielded t targets (set fields i v) (i + 1)
fielded_more t targets fields i v few a b c d r = record {
  target = λ j h. go (λ k w. w.target ≡ get_or targets k 0) a r.target j h (dec_lt j i);
  length = λ j h. go (λ k w. w.length ≡ prefix_at t k) b r.length j h (dec_lt j i);
  ttl = λ j h. go (λ k w. w.ttl ≡ ttl_at t k) c r.ttl j h (dec_lt j i);
  address = λ j h. go (λ k w. whole w.address ≡ address_at t k) d r.address j h (dec_lt j i);
}
  where
    go : (P : ℕ → Fields → Type 0) → P i v → ((k : ℕ) → k < i → P k (get_or fields k no_fields)) → (j : ℕ) → j < i + 1 → Dec (j < i) → P j (get_or (set fields i v) j no_fields)
    go P here below j h (yes l) = rw (get_or-set_other fields i j v no_fields (λ z. omega arith)) (below j l)
    go P here below j h (no l) = let z : j ≡ i = omega (arith, l) in rw (z, get_or-set_same fields i v no_fields few) here
