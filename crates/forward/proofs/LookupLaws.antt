-- Lookup by names is the search by numbers: the arrays that the search reads are the table's records, renamed.
use Prim.Native.Nat.{ℕ, ◌/◌, ◌%◌, ◌≤◌, ◌<◌}
use mathlib.Core.Path.{◌≡◌, refl, ap, ◌∙◌, sym}
use mathlib.Core.Bool.{Bool, true, false, ◌&&◌}
use mathlib.Core.List.{List}
use lib.Dec.{eqb}
use lib.ListN.{length, get_or, take}
use lib.Seq.{length-take-le, get_or-take}
use native.Mathlib.Omega.{arith}
use borrow.Author.Tests.{ne_eqb, eq-eqb, eqb-true}
use Rattle.octets.specs.Octets.{Small}
use Rattle.octets.specs.declared.Answer.{Answer}
use Rattle.octets.specs.Octets.{blank}
use Rattle.octets.specs.Answers.{refusal}
use Rattle.octets.proofs.AnswerLaws.{else_kept, else_later, refused_answer, refused_out}
use Rattle.octets.proofs.BoolLaws.{clash}
use Rattle.labels.specs.Scan.{well_formed}
use Rattle.names.specs.Standard.{standard_of}
use Rattle.chains.specs.Lists.{pick}
use Rattle.chains.specs.Graph.{Graph}
use Rattle.chains.specs.Listing.{work_of}
use Rattle.chains.specs.Addresses.{addresses_of}
use Rattle.chains.specs.Lifetimes.{lifetime_of}
use Rattle.chains.specs.Renaming.{Alike, Renamed}
use Rattle.chains.proofs.RenamingLaws.{renaming}
use Rattle.chains.proofs.LifetimeLaws.{lifetime_renamed}
use Rattle.plan.specs.Layout.{is_a6, count_of, record_at, prefix_at, address_at, ttl_at}
use Rattle.plan.specs.Check.{entry_number, InOrder}
use Rattle.plan.proofs.EntryLaws.{entry_zero}
use Rattle.plan.proofs.OrderLaws.{order_count, order_good}
use Rattle.plan.proofs.FaultLaws.{targetless_on}
use Rattle.numbering.specs.Numbers.{number_in, names_of, own_number, target_number}
use Rattle.plan.specs.Graph.{graph_of}
use Rattle.numbering.specs.Graph.{owns_numbered, numbered}
use Rattle.numbering.proofs.NumberLaws.{number_most}
use Rattle.numbering.proofs.NamesLaws.{own_listed, target_listed, number_standard}
use Rattle.numbering.proofs.OrderLaws.{names_fit}
use Rattle.numbering.proofs.GraphLaws.{lookup_renamed, lifetime_number}
use Rattle.forward.specs.Gather.{no_owner, Fielded}
use Rattle.rows.specs.Halves.{whole}
use Rattle.search.specs.declared.inside.Fields.{Fields}
use Rattle.search.specs.Search.{Records, records, no_fields, fields_at, target_of, length_of, ttl_of, address_at as address_at'}
use Rattle.search.specs.Search as search'
use Rattle.search.specs.Links.{max_names, Numbered}
use Rattle.search.specs.Answers.{number_of, answer_of, output_of, lives_of}
use Rattle.forward.specs.Lookup.{misfit, lookup_number, lookup_answer, lookup_out, lookup_ttls}

-- the answer looks at the work and the addresses alone, and the lifetimes besides
module _ {N M : Type 0} (g : Graph N) (h : Graph M) (x : N) (y : M) (w : work_of g x ≡ work_of h y) (a : addresses_of g x ≡ addresses_of h y) where
  pub number_like : (limit room : ℕ) → number_of g x limit room ≡ number_of h y limit room
  unfolding number_of
  number_like limit room = rw (w, a)

  pub answer_like : (k : ℕ) → answer_of g x k ≡ answer_of h y k
  answer_like k = rw (w, a)

  pub output_like : (k size : ℕ) → output_of g x k size ≡ output_of h y k size
  output_like k size = rw a

  pub lives_like : ((v : List ℕ) → lifetime_of g x v ≡ lifetime_of h y v) → (k room : ℕ) → lives_of g x k room ≡ lives_of h y k room
  lives_like l k room = let f : lifetime_of g x ≡ lifetime_of h y = λ i v. l v i in rw (f, a)

-- what the owners and the fields are once they are filled
pub record Filled (t owners : List ℕ) (fields : List Fields) : Type 0 where
  pub owner : (i : ℕ) → i < count_of t → get_or owners i 0 ≡ pick (is_a6 (record_at t i)) (own_number t i) no_owner
  pub target : (i : ℕ) → i < count_of t → (get_or fields i no_fields).target ≡ target_number t i
  pub rest : (targets : List ℕ) × Fielded t targets fields (count_of t)
  pub owners_long : count_of t ≤ length owners
  pub fields_long : count_of t ≤ length fields

module _ (t owners : List ℕ) (fields : List Fields) (o : InOrder t) (f : Filled t owners fields) where
  abbrev read : Records
  read = records (take (count_of t) owners) (take (count_of t) fields)

  read_size : length (take (count_of t) owners) ≡ count_of t
  read_size = length-take-le (count_of t) owners f.owners_long

  read_owner : (i : ℕ) → i < count_of t → get_or (take (count_of t) owners) i 0 ≡ pick (is_a6 (record_at t i)) (own_number t i) no_owner
  read_owner i h = get_or-take (count_of t) owners i 0 h ∙ f.owner i h

  own_small : (i : ℕ) → i < count_of t → get_or (take (count_of t) owners) i 0 < max_names
  own_small i h = rw (read_owner i h) (go (is_a6 (record_at t i)))
    where
      go : (b : Bool) → pick b (own_number t i) no_owner < max_names
      go true = let l = own_listed t i h in let m = names_fit t o in omega arith
      go false = omega arith

  target_small : (i : ℕ) → i < count_of t → 0 < prefix_at t i → target_number t i ≤ 2048
  target_small i h p =
      let l = target_listed t i h (targetless_on (record_at t i) (λ e. omega arith)) in
      let m = names_fit t o in omega arith

  -- the fields of a record
  module _ (i : ℕ) (h : i < count_of t) where
    abbrev own : Fielded t f.rest.0 fields (count_of t)
    own = f.rest.1

    here : fields_at read i ≡ get_or fields i no_fields
    here = get_or-take (count_of t) fields i no_fields h

    read_target : target_of read i ≡ target_number t i
    read_target = ap (λ (v : Fields). v.target) here ∙ f.target i h

    read_length : length_of read i ≡ prefix_at t i
    read_length = ap (λ (v : Fields). v.length) here ∙ own.length i h

    read_ttl : ttl_of read i ≡ ttl_at t i
    read_ttl = ap (λ (v : Fields). v.ttl) here ∙ own.ttl i h

    read_address : address_at' read i ≡ address_at t i
    read_address = ap (λ (v : Fields). whole v.address) here ∙ own.address i h

  -- the search may run over them
  pub read_numbered : Numbered read
  read_numbered = record {
    owned = record { few = rw read_size (order_count t o); owner = λ j h. own_small j (rw read_size at h) };
    level = let e = length-take-le (count_of t) fields f.fields_long ∙ sym read_size in omega (arith, e);
    target = λ j h p.
        let k : j < count_of t = rw read_size at h in
        let q : 0 < prefix_at t j = rw (read_length j k) at p in
        rw (read_target j k) (let l = target_small j k q in omega arith);
    short = λ j h. let k : j < count_of t = rw read_size at h in rw (read_length j k) (order_good t o j k).prefix;
    lived = λ j h. let k : j < count_of t = rw read_size at h in rw (read_ttl j k) (order_good t o j k).lived;
  }

  -- a number that a name can have owns the same records
  read_alike : (k : ℕ) → k ≤ 2048 → Alike (numbered t) (search'.graph_of read) k k
  unfolding owns_numbered
  read_alike k l i h = rw (read_owner i h) (go (is_a6 (record_at t i)))
    where
      go : (b : Bool) → (b && eqb (own_number t i) k) ≡ eqb (pick b (own_number t i) no_owner) k
      go true = refl
      go false = sym (ne_eqb no_owner k (λ e. omega arith))

  read_renamed : Renamed (numbered t) (search'.graph_of read)
  read_renamed = record {
    sizes = sym read_size;
    lengths = λ i h. sym (read_length i h);
    addresses = λ i h. sym (read_address i h);
    targets = λ i h p. rw (read_target i h) (read_alike (target_number t i) (target_small i h p));
  }

  module _ (x : List ℕ) where
    number_small : number_in (names_of t) x ≤ 2048
    number_small = let l = number_most (names_of t) x in let m = names_fit t o in omega arith

    pub number_below : number_in (names_of t) x < max_names
    number_below = let l = number_small in omega arith

    pub work_read : work_of (graph_of t) x ≡ work_of (search'.graph_of read) (number_in (names_of t) x)
    work_read = (lookup_renamed t x).1 ∙ (renaming (numbered t) (search'.graph_of read) read_renamed (number_in (names_of t) x) (number_in (names_of t) x) (read_alike (number_in (names_of t) x) number_small)).1

    pub addresses_read : addresses_of (graph_of t) x ≡ addresses_of (search'.graph_of read) (number_in (names_of t) x)
    addresses_read = (lookup_renamed t x).2 ∙ (renaming (numbered t) (search'.graph_of read) read_renamed (number_in (names_of t) x) (number_in (names_of t) x) (read_alike (number_in (names_of t) x) number_small)).2

    pub lifetime_read : (a : List ℕ) → lifetime_of (graph_of t) x a ≡ lifetime_of (search'.graph_of read) (number_in (names_of t) x) a
    lifetime_read a =
        lifetime_number t x a
        ∙ lifetime_renamed (numbered t) (search'.graph_of read) read_renamed (λ i h. sym (read_ttl i h)) (number_in (names_of t) x) (number_in (names_of t) x) (read_alike (number_in (names_of t) x) number_small) a

-- a name and its standard form have the same work, addresses and lifetimes
module _ (t x : List ℕ) (s : Small x) (w : well_formed x ≡ true) where
  pub work_standard : work_of (graph_of t) (standard_of x) ≡ work_of (graph_of t) x
  work_standard = (lookup_renamed t (standard_of x)).1 ∙ ap (work_of (numbered t)) (number_standard (names_of t) x s w) ∙ sym (lookup_renamed t x).1

  pub addresses_standard : addresses_of (graph_of t) (standard_of x) ≡ addresses_of (graph_of t) x
  addresses_standard = (lookup_renamed t (standard_of x)).2 ∙ ap (addresses_of (numbered t)) (number_standard (names_of t) x s w) ∙ sym (lookup_renamed t x).2

  pub lifetime_standard : (a : List ℕ) → lifetime_of (graph_of t) (standard_of x) a ≡ lifetime_of (graph_of t) x a
  lifetime_standard a =
      lifetime_number t (standard_of x) a ∙ ap (λ (k : ℕ). lifetime_of (numbered t) k a) (number_standard (names_of t) x s w) ∙ sym (lifetime_number t x a)

-- each number in turn
module _ (t name : List ℕ) (limit size room : ℕ) where
  pub lookup_entry : (entry_number t name ≡ 0 → ⊥) → lookup_number t name limit size room ≡ entry_number t name
  unfolding lookup_number
  lookup_entry h = else_kept (entry_number t name) _ h

  module _ (o : entry_number t name ≡ 0) where
    pub lookup_misfit : misfit size room ≡ true → lookup_number t name limit size room ≡ 5
    unfolding lookup_number
    lookup_misfit m = else_later (entry_number t name) _ o ∙ rw m

    pub lookup_on : misfit size room ≡ false → lookup_number t name limit size room ≡ number_of (graph_of t) name limit (size / 16)
    unfolding lookup_number
    lookup_on m = else_later (entry_number t name) _ o ∙ rw m

  -- a refusal, with zeros in both lists
  pub record Refuses (n : ℕ) : Type 0 where
    pub answer : refusal n ≡ lookup_answer t name limit size room
    pub out : blank size ≡ lookup_out t name limit size room
    pub ttls : blank room ≡ lookup_ttls t name limit size room

  pub refuses : (n : ℕ) → n ≡ lookup_number t name limit size room → (n ≡ 0 → ⊥) → Refuses n
  refuses n e h = record {
    answer = refused_answer n _ e h _ _;
    out = refused_out n _ e h _ size;
    ttls = refused_out n _ e h _ room;
  }

  -- the search of the standard form answers for the name
  module _ (o : entry_number t name ≡ 0) (s : Small name) (m : misfit size room ≡ false) (n : room ≡ size / 16) where
    abbrev number : ℕ
    number = number_of (graph_of t) (standard_of name) limit (size / 16)

    formed : well_formed name ≡ true
    formed = (entry_zero t name o).1

    number_is : number ≡ lookup_number t name limit size room
    number_is = number_like (graph_of t) (graph_of t) (standard_of name) name (work_standard t name s formed) (addresses_standard t name s formed) limit (size / 16) ∙ sym (lookup_on o m)

    pub lookup_answered : answer_of (graph_of t) (standard_of name) number ≡ lookup_answer t name limit size room
    lookup_answered = answer_like (graph_of t) (graph_of t) (standard_of name) name (work_standard t name s formed) (addresses_standard t name s formed) number ∙ ap (answer_of (graph_of t) name) number_is

    pub lookup_written : output_of (graph_of t) (standard_of name) number size ≡ lookup_out t name limit size room
    lookup_written =
        output_like (graph_of t) (graph_of t) (standard_of name) name (work_standard t name s formed) (addresses_standard t name s formed) number size
        ∙ ap (λ (k : ℕ). output_of (graph_of t) name k size) number_is

    pub lookup_lasting : lives_of (graph_of t) (standard_of name) number (size / 16) ≡ lookup_ttls t name limit size room
    lookup_lasting =
        lives_like (graph_of t) (graph_of t) (standard_of name) name (work_standard t name s formed) (addresses_standard t name s formed) (lifetime_standard t name s formed) number (size / 16)
        ∙ λ i. lives_of (graph_of t) name (number_is i) (sym n i)

    -- what the search of the name in standard form leaves
    pub record Looked (answer : Answer) (out ttls : List ℕ) : Type 0 where
      pub reply : answer ≡ lookup_answer t name limit size room
      pub written : out ≡ lookup_out t name limit size room
      pub lasting : ttls ≡ lookup_ttls t name limit size room

    pub looked : (part : List ℕ) (k : ℕ) (answer : Answer) (out ttls : List ℕ) → part ≡ standard_of name → k ≡ size
        → answer ≡ answer_of (graph_of t) part (number_of (graph_of t) part limit (k / 16))
        → out ≡ output_of (graph_of t) part (number_of (graph_of t) part limit (k / 16)) k
        → ttls ≡ lives_of (graph_of t) part (number_of (graph_of t) part limit (k / 16)) (k / 16)
        → Looked answer out ttls
    looked part k answer out ttls p e x y z = record {
      reply = rw (p, e) at x ∙ lookup_answered;
      written = rw (p, e) at y ∙ lookup_written;
      lasting = rw (p, e) at z ∙ lookup_lasting;
    }

-- an output and a list that fit
pub misfit_not : (size room : ℕ) → misfit size room ≡ false → (size % 16 ≡ 0) × (room ≡ size / 16)
misfit_not size room h = go (eqb (size % 16) 0) (eqb room (size / 16)) refl refl
  where
    go : (a b : Bool) → eqb (size % 16) 0 ≡ a → eqb room (size / 16) ≡ b → (size % 16 ≡ 0) × (room ≡ size / 16)
    go true true e f = (eqb-true (size % 16) 0 e, eqb-true room (size / 16) f)
    go true false e f = absurd (clash refl (rw (e, f) at h))
    go false b e f = absurd (clash refl (rw e at h))

pub fitting : (size room : ℕ) → size % 16 ≡ 0 → room ≡ size / 16 → misfit size room ≡ false
fitting size room h n = rw (eq-eqb (size % 16) 0 h, eq-eqb room (size / 16) n)
