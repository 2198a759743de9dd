-- How data ends, in every layout that has the same values: the prefix name, present exactly when L > 0, and nothing after it (01, A6 data; T-02).
use Rattle.std.specs.Prelude.{ℕ, zero, suc, true, false, List, ltb, eqb, length, take, Result, Ok, Err}
use Rattle.octets.specs.Octets.{blank}
use Rattle.octets.specs.Answers.{earns, or_else}
use Rattle.octets.specs.Refusals.{told, number_of}
use Rattle.octets.specs.declared.Refusal.{Refusal}
use Rattle.labels.specs.Scan.{scan_of}
use Rattle.labels.specs.Answers.{scanned, found, used_by}
use Rattle.labels.specs.declared.Scanned.{Scanned}
use Rattle.names.specs.Name.{held_of}
use Rattle.names.specs.declared.Name.{Name}
use Rattle.address.specs.Address.{join_of}
use Rattle.a6.specs.declared.Value.{Value}

-- what is found of the prefix name where `rest` is all that is left of the data: none is due at L = 0, and it takes no octets; else `rest` is scanned
unfoldable pub name_found : ℕ → List ℕ → Result Scanned Refusal
name_found l rest = elim (eqb l 0) [ true ↦ found 0 true | false ↦ scanned (scan_of rest) ]

-- 01's order, left to right: the name's own number; octets left over
unfoldable pub name_number : ℕ → List ℕ → ℕ
name_number l rest = or_else (number_of (name_found l rest)) (earns (ltb (used_by (name_found l rest)) (length rest)) 13 0)

-- the octets of the prefix name; none at L = 0
abbrev pub name_octets : ℕ → List ℕ → List ℕ
name_octets l rest = take (used_by (name_found l rest)) rest

-- the prefix name in standard form, by value; no octets hold no name
abbrev pub name_in : ℕ → List ℕ → Name
name_in l rest = held_of (name_octets l rest)

-- the value of a prefix length L, of sixteen octets, whose bits from L on count and no others, and of the rest
unfoldable pub value_from : ℕ → List ℕ → List ℕ → Value
value_from l sixteen rest = record { prefix = l; address = join_of (blank 16) sixteen l; name = name_in l rest }

-- by the number: the value, or the refusal
unfoldable pub reading_for : ℕ → Value → Result Value Refusal
reading_for zero v = Ok v
reading_for (suc j) v = Err (told (suc j))
