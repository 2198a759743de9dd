-- What a search does: it visits the chains of a name in their order, counts them, and keeps what the complete ones spell (01, Chains), with
-- the least TTL of their records (T-01). The code's own: nothing that a reader must believe.
use Rattle.std.specs.Prelude.{ℕ, ◌-◌, ◌/◌, List, [], ◌∷◌, eqb, length, get_or, set}
use Rattle.chains.specs.Lists.{pick}
use Rattle.chains.specs.Graph.{Graph}
use Rattle.chains.specs.Chain.{last_length}
use Rattle.chains.specs.Listing.{free, extend, paths, chains_from}
use Rattle.chains.specs.Spelling.{spell}
use Rattle.chains.specs.Lifetimes.{least_ttl}
use Rattle.rows.specs.Halves.{whole}
use Rattle.search.specs.declared.inside.Fields.{Fields}
use Rattle.search.specs.declared.inside.Records.{Records as Given}
use Rattle.rows.specs.Rows.{Kept, keep_in}
use Rattle.octets.specs.declared.Answer.{Answer}
use Rattle.search.specs.Answers.{number_of, answer_of, output_of, lives_of}

-- how many records there may be
abbrev pub max_records : ℕ
max_records = 1024

-- the records, with numbers for names: the owner of each, and its fields
pub record Records : Type 0 where
  pub owners : List ℕ
  pub fields : List Fields

abbrev pub records : List ℕ → List Fields → Records
records owners fields = record { owners = owners; fields = fields }

-- as the code has them
abbrev pub records_of : Given → Records
records_of r = records r.owners.now r.fields.now

abbrev pub no_fields : Fields
no_fields = record { address = record { high = 0; low = 0 }; ttl = 0; target = 0; length = 0 }

-- of the record at i
abbrev pub fields_at : Records → ℕ → Fields
fields_at r i = get_or r.fields i no_fields

abbrev pub target_of : Records → ℕ → ℕ
target_of r i = (fields_at r i).target

abbrev pub length_of : Records → ℕ → ℕ
length_of r i = (fields_at r i).length

abbrev pub ttl_of : Records → ℕ → ℕ
ttl_of r i = (fields_at r i).ttl

abbrev pub address_at : Records → ℕ → List ℕ
address_at r i = whole (fields_at r i).address

-- as a graph
abbrev pub graph_of : Records → Graph ℕ
graph_of r = record {
  size = length r.owners;
  owns = λ i x. eqb (get_or r.owners i 0) x;
  target = target_of r;
  len = length_of r;
  addr = address_at r;
  ttl = ttl_of r;
}

-- how many chains may still be counted, and what is kept
abbrev pub State : Type 0
State = ℕ × Kept

module _ {N : Type 0} (g : Graph N) where
  -- a chain is counted while one more may be, and what it spells is kept where it is complete; b bits are open before it, a has the others, and
  -- c is the least TTL so far
  unfoldable pub visit : ℕ → List ℕ → ℕ → State → List ℕ → State
  visit b a c s p = pick (eqb s.0 0) s (s.0 - 1, pick (eqb (last_length g b p) 0) (keep_in (spell g b a p) (least_ttl g c p) s.1) s.1)

  unfoldable pub run : ℕ → List ℕ → ℕ → State → List (List ℕ) → State
  run b a c s [] = s
  run b a c s (p ∷ ps) = run b a c (visit b a c s p) ps

  -- over the chains of x whose records u does not mark
  unfoldable pub searched : List ℕ → N → ℕ → List ℕ → ℕ → State → State
  searched u x b a c s = run b a c s (chains_from g u x b)

  -- over those that begin with the record i
  unfoldable pub stepped : List ℕ → ℕ → ℕ → List ℕ → ℕ → State → State
  stepped u i b a c s = run b a c s (extend g i (paths g (free u) (set u i 1) (g.target i) (g.len i)))

-- what `find` answers and writes, by the limit and the size of the output
module _ {N : Type 0} (g : Graph N) (x : N) where
  abbrev pub found_of : ℕ → ℕ → Answer
  found_of limit size = answer_of g x (number_of g x limit (size / 16))

  abbrev pub written_of : ℕ → ℕ → List ℕ
  written_of limit size = output_of g x (number_of g x limit (size / 16)) size

  abbrev pub lasting_of : ℕ → ℕ → List ℕ
  lasting_of limit size = lives_of g x (number_of g x limit (size / 16)) (size / 16)
