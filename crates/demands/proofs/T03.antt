-- T-03, letters of either case: when names are the same, and that nothing but written names sees their spelling, of the definitions that the running
-- functions meet (Demand1).
use Prim.Native.Nat.{ℕ}
use mathlib.Core.Path.{◌≡◌, refl}
use mathlib.Core.Bool.{Bool, true, false}
use mathlib.Core.List.{List}
use mathlib.Core.Logic.{◌↔◌}
use lib.Dec.{ltb}
use lib.ListN.{length}
use native.Mathlib.Omega.{arith}
use Rattle.octets.specs.Octets.{Small}
use Rattle.octets.specs.Answers.{earns}
use Rattle.labels.specs.Scan.{well_formed}
use Rattle.names.specs.Standard.{Unit, standard_of, lower, key_unit, Same, same_name, in_standard_form}
use Rattle.names.specs.Matching.{MatchOctet, Pairwise, MatchUnit, MatchName}
use Rattle.names.proofs.StandardLaws.{same_name_same, same_same_name}
use Rattle.names.proofs.RoundLaws.{same_reflexive, same_symmetric, same_transitive, same_standard}
use Rattle.names.proofs.KeyLaws as keyed
use Rattle.names.proofs.MatchingLaws.{octets_match, units_match, names_match}
use Rattle.chains.specs.Chain.{Spells}
use Rattle.plan.specs.Layout.{address_size, count_of}
use Rattle.plan.specs.Check.{first_fault, first_repeat, Shared, missized, check_of, InOrder}
use Rattle.plan.specs.Graph.{graph_of}
use Rattle.plan.specs.Respelt.{Respelt}
use Rattle.plan.proofs.OrderLaws.{repeat_shared}
use Rattle.rewriting.specs.Rewrite.{Applies}
use Rattle.forward.specs.Lookup.{lookup_number, lookup_answer, lookup_out, lookup_ttls}
use Rattle.forward.proofs.RespeltLaws as forward
use Rattle.reverse.specs.Answers.{end_of, end_name, reverse_answer}
use Rattle.reverse.proofs.RespeltLaws as reverse
use Rattle.collapse.specs.Collapse.{collapse_answer, collapse_out}
use Rattle.collapse.specs.Demand3.{Call, in_hand}
use Rattle.collapse.proofs.CollapseLaws.{answer_same, out_same}
use Rattle.collapse.proofs.Demanded.{demand3}

-- ---- when names are the same
-- octets of ordinary labels count alike where they are equal or one letter in two cases, and in no other pair
pub letters : (x y : ℕ) → (lower x ≡ lower y) ↔ MatchOctet x y
letters = octets_match

-- well-formed names are the same exactly when their units match, one by one
pub same_match : (m n : List ℕ) → Small m → Small n → well_formed m ≡ true → well_formed n ≡ true → Same m n ↔ MatchName m n
same_match = names_match

-- to be the same is an equivalence, and `same_name` decides it
pub same_again : (m : List ℕ) → Same m m
same_again = same_reflexive

pub same_back : (m n : List ℕ) → Same m n → Same n m
same_back = same_symmetric

pub same_over : (l m n : List ℕ) → Same l m → Same m n → Same l n
same_over = same_transitive

pub same_decided : (m n : List ℕ) → (same_name m n ≡ true) ↔ Same m n
same_decided m n = (same_name_same m n, same_same_name m n)

-- a name is the same as its standard form, and a unit's key has itself as its key
pub same_form : (m : List ℕ) → Small m → well_formed m ≡ true → Same (standard_of m) m
same_form = same_standard

pub key_again : (u : Unit) → key_unit (key_unit u) ≡ key_unit u
key_again = keyed.key_twice

-- what 01 called equal, names with one standard form, is the same; names in standard form of two lengths are not
pub nothing_lost : (m n : List ℕ) → well_formed m ≡ true → well_formed n ≡ true → standard_of m ≡ standard_of n → Same m n
nothing_lost = keyed.standard_same

pub one_length : (m n : List ℕ) → in_standard_form m ≡ true → in_standard_form n ≡ true → Same m n → length m ≡ length n
one_length = keyed.same_lengths

-- ---- what follows
-- 3 by the new equality: a table that earns neither 1 nor 2 earns it exactly when two DNAMEs have the same owner, in any spelling
pub shared_owner : (t : List ℕ) → (check_of t ≡ 1 → ⊥) → (check_of t ≡ 2 → ⊥) → (check_of t ≡ 3) ↔ Shared t
unfolding check_of
shared_owner t g h =
    let e = third_test (missized t) (ltb (first_fault t) (count_of t)) (ltb (first_repeat t) (count_of t)) g h in
    let r = repeat_shared t in
    (λ k. r.0 (e.0 k), λ k. e.1 (r.1 k))
  where
    third_test : (a b c : Bool) → (earns a 1 (earns b 2 (earns c 3 0)) ≡ 1 → ⊥) → (earns a 1 (earns b 2 (earns c 3 0)) ≡ 2 → ⊥) → (earns a 1 (earns b 2 (earns c 3 0)) ≡ 3) ↔ (c ≡ true)
    third_test true b c g h = absurd (g refl)
    third_test false true c g h = absurd (h refl)
    third_test false false true g h = (λ k. refl, λ k. refl)
    third_test false false false g h = (λ k. absurd (omega (arith, k)), λ k. (let z : ◌≡◌ {A = ℕ} 0 1 = cc in absurd (omega arith)))

-- a DNAME applies where the rest of the name matches its owner, unit by unit
pub applies_match : (owner name below : List Unit) → (a : Applies owner name below) → Pairwise MatchUnit a.rest owner
applies_match owner name below a = (units_match a.rest owner).0 a.alike

-- Tables in order that differ in spelling alone, asked for a name in two spellings: a lookup gives the same number, figures, addresses and TTLs. With one
-- table it is said of two spellings of the given name.
module _ (t u : List ℕ) (r : Respelt t u) (o : InOrder t) (p : InOrder u) (x y : List ℕ) (e : Same x y) (w : well_formed x ≡ well_formed y) (limit size room : ℕ) where
  pub lookup_respelt : (lookup_number t x limit size room ≡ lookup_number u y limit size room)
      × (lookup_answer t x limit size room ≡ lookup_answer u y limit size room)
      × (lookup_out t x limit size room ≡ lookup_out u y limit size room)
      × (lookup_ttls t x limit size room ≡ lookup_ttls u y limit size room)
  lookup_respelt = (
    forward.number_respelt t u r x y e o p w limit size room,
    forward.answer_respelt t u r x y e o p w limit size room,
    forward.out_respelt t u r x y e o p w limit size room,
    forward.ttls_respelt t u r x y e o p w limit size room,
  )

-- a table differs from itself in nothing
pub respelt_none : (t : List ℕ) → Respelt t t
respelt_none t = record {
  counts = refl;
  types = λ i h. refl;
  prefixes = λ i h. refl;
  addresses = λ i h. refl;
  owners = λ i h. refl;
  targets = λ i h. refl;
  ttls = λ i h. refl;
}

-- A reverse lookup by either of such tables gives the same number, name length and rewrites, and the names that are written are the same.
pub reverse_respelt : (t u : List ℕ) → Respelt t u → InOrder t → InOrder u → Small t → Small u → (address : List ℕ) → Small address → length address ≡ address_size → (limit room : ℕ)
    → (reverse_answer t address limit room ≡ reverse_answer u address limit room) × Same (end_name (end_of t address limit room)) (end_name (end_of u address limit room))
reverse_respelt t u r o p s v address a l limit room =
    (reverse.answer_respelt t u r o p s v address limit room, reverse.names_respelt t u r o p s v address limit room a l)

-- a collapse of a name in either of two spellings gives the same answer and writes the same octets
pub collapse_respelt : (t x y : List ℕ) (size : ℕ) → Same x y → well_formed x ≡ well_formed y → (collapse_answer t x size ≡ collapse_answer t y size) × (collapse_out t x size ≡ collapse_out t y size)
collapse_respelt t x y size e w = (answer_same t x y size e w, out_same t x y size e w)

-- Demand 3 with the new equality: after any list of collapses every name, in every spelling, has the addresses that it had in any spelling in the first table
pub kept_respelt : (t : List ℕ) → InOrder t → (calls : List Call) → (x y : List ℕ) → Same x y → (address : List ℕ)
    → Spells (graph_of (in_hand t calls)) x address ↔ Spells (graph_of t) y address
kept_respelt t o calls x y e address =
    let k = (demand3 t o calls).spelt x address in
    let s = forward.spells_respelt t t (respelt_none t) x y e address in
    (λ h. s.0 (k.0 h), λ h. k.1 (s.1 h))
