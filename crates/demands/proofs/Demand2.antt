-- Demand 2: lookup, reverse, and A6 data there and back, of the definitions that the running functions meet (Demand1).
use Prim.Native.Nat.{ℕ, ◌-◌, ◌*◌, ◌≤◌, ◌<◌}
use mathlib.Core.Path.{◌≡◌, refl, ap, ◌∙◌, sym}
use mathlib.Core.Logic.{◌↔◌, ◌⊎◌, inl, inr, ⊎_elim}
use mathlib.Core.Bool.{Bool, true, false}
use mathlib.Core.List.{List, [], ◌++◌}
use lib.Dec.{ltb}
use lib.ListN.{length, take}
use native.Mathlib.Omega.{arith}
use borrow.Author.Tests.{ltb-true, ltb-false}
use contract.Lifetimes.{Lfts}
use denote.Ref.{Bor}
use denote.MutBor.{MutBor}
use Rattle.octets.specs.Octets.{blank, Small}
use Rattle.octets.specs.Answers.{answering}
use Rattle.octets.proofs.AnswerLaws.{by_number}
use Rattle.octets.specs.declared.Answer.{Answer}
use Rattle.octets.specs.declared.Done.{Done}
use Rattle.plan.specs.declared.Refused.{Refused}
use Rattle.plan.specs.declared.Reply.{Reply}
use Rattle.plan.specs.Faults.{replied}
use Rattle.std.specs.Prelude.{Result, Ok}
use Rattle.labels.specs.Scan.{well_formed}
use Rattle.chains.specs.Lists.{In}
use Rattle.chains.specs.Lifetimes.{Source, Lifetime}
use Rattle.plan.specs.Layout.{address_size, name_room, ttl_at}
use Rattle.plan.specs.Check.{InOrder}
use Rattle.plan.specs.Graph.{graph_of}
use Rattle.forward.specs.Lookup.{lookup_number, lookup_answer, lookup_out, lookup_ttls}
use Rattle.forward.specs.Demand.{Demanded, ApartInTtls}
use Rattle.forward.proofs.Demand.{lookup_demand}
use Rattle.forward.specs.contracts.lookup.{signature as lookup-signature}
use Rattle.forward.proofs.lookup.Reads as forward
use Rattle.forward.proofs.TtlLaws.{number_apart, answer_apart, out_apart}
use Rattle.names.specs.Standard.{Unit}
use Rattle.reverse.specs.Walk.{start_of}
use Rattle.reverse.specs.Relation.{Settles, Exhausts, Outgrows}
use Rattle.reverse.specs.Answers.{rules_of, reverse_answer, reverse_out}
use Rattle.reverse.specs.Demand.{ReverseIs}
use Rattle.reverse.proofs.Demand.{reverse_is}
use Rattle.reverse.proofs.lookup.Reads as reversed
use Rattle.a6.specs.Data.{Shaped}
use Rattle.a6.specs.Read.{read_of}
use Rattle.a6.specs.Write.{write_number, write_answer, write_out}
use Rattle.a6.specs.Standard.{standard_data}
use Rattle.a6.specs.declared.Value.{Value}
use Rattle.a6.proofs.Layouts.{write_read, read_write}
use Rattle.a6.proofs.RoundTrip.{a6_layout}
use Rattle.demands.specs.Demand2.{Ownable}
use Rattle.demands.proofs.Owned.{later, slices_octets}

-- ---- lookup
-- On input that earns none of 1 to 5: the addresses are those that some complete finite chain of the name spells, ascending and once each; the
-- lifetime of each is the least TTL among the records of those chains that use no position twice; the work is the number of chains that use no
-- position twice; the answer is 6, 7, or both figures, the addresses and their lifetimes.
pub lookup : (t name : List ℕ) (limit room : ℕ) → InOrder t → Small t → well_formed name ≡ true
    → Demanded t name limit room (lookup_answer t name limit (room * 16) room) (lookup_out t name limit (room * 16) room) (lookup_ttls t name limit (room * 16) room)
lookup t name limit room o s w = lookup_demand t name limit room o s w

module _ {t name : List ℕ} {limit room : ℕ} {r : Answer} {out ttls : List ℕ} (d : Demanded t name limit room r out ttls) where
  -- the work and the count of addresses
  abbrev pub work : ℕ
  work = length d.chains

  abbrev pub count : ℕ
  count = length d.addresses

  -- one of three holds
  abbrev Ways : Type 0
  Ways = ((limit < work) × (r.number ≡ 6)) ⊎ ((((work ≤ limit) × (room < count)) × (r.number ≡ 7)) ⊎ (((work ≤ limit) × (count ≤ room)) × (r.number ≡ 0)))

  ways : Ways
  ways = go (ltb limit work) refl (ltb room count) refl
    where
      told : {v : Answer} → r ≡ v → r.number ≡ v.number
      told e = ap (λ (a : Answer). a.number) e

      go : (a : Bool) → ltb limit work ≡ a → (b : Bool) → ltb room count ≡ b → Ways
      go true e b f = let h = ltb-true limit work e in inl (h, told (d.over h).0)
      go false e true f =
          let h = ltb-false limit work e in
          let k = ltb-true room count f in
          inr (inl ((h, k), told (d.full h k).0))
      go false e false f =
          let h = ltb-false limit work e in
          let k = ltb-false room count f in
          inr (inr ((h, k), told (d.done h k).0))

  -- 6 is given exactly when the work is more than the limit
  pub lookup_six : (r.number ≡ 6) ↔ (limit < work)
  lookup_six = (there ways, λ h. ap (λ (a : Answer). a.number) (d.over h).0)
    where
      there : Ways → (r.number ≡ 6) → (limit < work)
      there (inl a) e = a.0
      there (inr (inl a)) e = let z : ⊥ = omega (arith, a.1) in absurd z
      there (inr (inr a)) e = let z : ⊥ = omega (arith, a.1) in absurd z

  -- 7 is given exactly when the work is within the limit and there are more addresses than room
  pub lookup_seven : (r.number ≡ 7) ↔ ((work ≤ limit) × (room < count))
  lookup_seven = (there ways, λ h. ap (λ (a : Answer). a.number) (d.full h.0 h.1).0)
    where
      there : Ways → (r.number ≡ 7) → ((work ≤ limit) × (room < count))
      there (inl a) e = let z : ⊥ = omega (arith, a.1) in absurd z
      there (inr (inl a)) e = a.0
      there (inr (inr a)) e = let z : ⊥ = omega (arith, a.1) in absurd z

  -- 0 is given exactly when the work is within the limit and there is room for the addresses
  pub lookup_done : (r.number ≡ 0) ↔ ((work ≤ limit) × (count ≤ room))
  lookup_done = (there ways, λ h. ap (λ (a : Answer). a.number) (d.done h.0 h.1).0)
    where
      there : Ways → (r.number ≡ 0) → ((work ≤ limit) × (count ≤ room))
      there (inl a) e = let z : ⊥ = omega (arith, a.1) in absurd z
      there (inr (inl a)) e = let z : ⊥ = omega (arith, a.1) in absurd z
      there (inr (inr a)) e = a.0

  -- no address outlives a record of a complete chain that uses no position twice and spells it
  pub outlives_none : (a : List ℕ) → In a d.addresses → (i : ℕ) → Source (graph_of t) name a i → d.lifetime a ≤ ttl_at t i
  outlives_none a m = (d.least a m).least

  -- and no other number is the least TTL of those records
  pub lifetime_only : (a : List ℕ) → In a d.addresses → (k : ℕ) → Lifetime (graph_of t) name a k → k ≡ d.lifetime a
  lifetime_only a m k l =
      let e = d.least a m in
      omega (arith, l.has, e.has, l.least e.source e.is, e.least l.source l.is)

-- A call of the running `lookup` with input that earns none of 1 to 5, by what its caller learns: its answer and its two lists, as it leaves them,
-- are as the demand says.
module _ (κs : Lfts 4) (table name : Bor (List ℕ)) (out end ttls ends : MutBor (List ℕ)) (limit : ℕ) (r : Result Done Refused)
    (learnt : forward.Learnt κs (table, (name, (limit, (out, (ttls, tt))))) r (table, (name, (limit, (end, (ends, tt))))))
    (o : InOrder table.now) (w : well_formed name.now ≡ true) (e : length out.now ≡ length ttls.now * 16) where
  -- of a table of octets: a caller's proof has this of each slice of octets that it lends
  pub lookup_learnt : Small table.now → Demanded table.now name.now limit (length ttls.now) (replied r).answer end.now ends.now
  lookup_learnt s =
      let room = length ttls.now in
      let h : (replied r).answer ≡ lookup_answer table.now name.now limit (room * 16) room = ap (λ (v : Reply). v.answer) learnt.0 ∙ rw e in
      let k : end.now ≡ lookup_out table.now name.now limit (room * 16) room = learnt.1.0 ∙ rw e in
      let l : ends.now ≡ lookup_ttls table.now name.now limit (room * 16) room = learnt.1.1 ∙ rw e in
      rw (h, k, l) (lookup table.now name.now limit room o s w)

  -- and of any call: the types of its arguments give that the table shows octets (`slices_octets`, proofs/Owned.antt)
  pub lookup_running : Ownable lookup-signature κs (table, (name, (limit, (out, (ttls, tt))))) → Demanded table.now name.now limit (length ttls.now) (replied r).answer end.now ends.now
  lookup_running owned = lookup_learnt (slices_octets 2 [] (later lookup-signature.params) lookup-signature.result κs (table, (name, (limit, (out, (ttls, tt))))) owned).0

-- TTLs change nothing else: tables in order that differ in TTLs alone give the same number, figures and addresses for every call
pub ttls_forgotten : (t u : List ℕ) → InOrder t → InOrder u → ApartInTtls t u → (name : List ℕ) (limit size room : ℕ)
    → (lookup_number t name limit size room ≡ lookup_number u name limit size room)
    × (lookup_answer t name limit size room ≡ lookup_answer u name limit size room)
    × (lookup_out t name limit size room ≡ lookup_out u name limit size room)
ttls_forgotten t u o p apart name limit size room =
    (number_apart t u apart o p name limit size room, answer_apart t u apart o p name limit size room, out_apart t u apart o p name limit size room)

-- ---- reverse
-- the name at which the rewriting ends, or 6 or 8 exactly when they are due; an output of 255 octets, the only size that does not earn 5
pub reverse : (t address : List ℕ) (limit : ℕ) → InOrder t → length address ≡ address_size
    → ReverseIs t address limit (reverse_answer t address limit name_room) (reverse_out t address limit name_room)
reverse t address limit o l = reverse_is t address limit o l

module _ {t address : List ℕ} {limit : ℕ} {r : Answer} {out : List ℕ} (d : ReverseIs t address limit r out) where
  abbrev Ends : Type 0
  Ends = (last : List Unit) × (n : ℕ) × Settles limit (rules_of t) (start_of address) last n

  ended : Ends → r.number ≡ 0
  ended e = ap (λ (a : Answer). a.number) (d.done e.0 e.1 e.2).0

  exhausted : Exhausts limit (rules_of t) (start_of address) → r.number ≡ 6
  exhausted e = ap (λ (a : Answer). a.number) (d.six e).0

  outgrown : Outgrows limit (rules_of t) (start_of address) → r.number ≡ 8
  outgrown e = ap (λ (a : Answer). a.number) (d.eight e).0

  -- 0 is given exactly when the rewriting settles within the limit
  pub reverse_done : (r.number ≡ 0) ↔ Ends
  reverse_done = (λ h. ⊎_elim (λ e. e) (⊎_elim (λ e. absurd (omega (arith, exhausted e))) (λ e. absurd (omega (arith, outgrown e)))) d.ways, ended)

  -- 6 is given exactly when a rewrite is due with none left
  pub reverse_six : (r.number ≡ 6) ↔ Exhausts limit (rules_of t) (start_of address)
  reverse_six = (λ h. ⊎_elim (λ e. absurd (omega (arith, ended e))) (⊎_elim (λ e. e) (λ e. absurd (omega (arith, outgrown e)))) d.ways, exhausted)

  -- 8 is given exactly when one is due whose result is too large
  pub reverse_eight : (r.number ≡ 8) ↔ Outgrows limit (rules_of t) (start_of address)
  reverse_eight = (λ h. ⊎_elim (λ e. absurd (omega (arith, ended e))) (⊎_elim (λ e. absurd (omega (arith, exhausted e))) (λ e. e)) d.ways, outgrown)

-- A call of the running `lookup` of reverse names with input that earns none of 1 to 5, by what its caller learns: its answer and its output, as it
-- leaves it, are as the demand says. Nothing of the octets of a slice is needed.
pub reverse_running : (κs : Lfts 3) (table address : Bor (List ℕ)) (out end : MutBor (List ℕ)) (limit : ℕ) (r : Result Done Refused)
    → reversed.Learnt κs (table, (address, (limit, (out, tt)))) r (table, (address, (limit, (end, tt))))
    → InOrder table.now → length address.now ≡ address_size → length out.now ≡ name_room
    → ReverseIs table.now address.now limit (replied r).answer end.now
reverse_running κs table address out end limit r learnt o l e =
    let h : (replied r).answer ≡ reverse_answer table.now address.now limit name_room = ap (λ (v : Reply). v.answer) learnt.0 ∙ rw e in
    let k : end.now ≡ reverse_out table.now address.now limit name_room = learnt.1 ∙ rw e in
    rw (h, k) (reverse table.now address.now limit o l)

-- ---- A6 data
-- what was read and is written back is the standard form of the data, with zeros after it
pub write_back : (octets : List ℕ) (v : Value) (room : ℕ) → Small octets → read_of octets ≡ Ok v → length (standard_data octets) ≤ room
    → (write_answer v room ≡ answering (length (standard_data octets)) 0)
    × (write_out v room ≡ standard_data octets ++ blank (room - length (standard_data octets)))
write_back = write_read a6_layout

-- what was written and is read back is the value; `Shaped` is what the type of a value gives
pub read_back : (v : Value) (room : ℕ) → Shaped v → (write_answer v room).number ≡ 0 → read_of (take (write_answer v room).count (write_out v room)) ≡ Ok v
read_back v room s e = read_write a6_layout v room s (sym (by_number (write_number v room) _ _) ∙ e)
