-- Which record, and which of its fields (T-04): the fault of a table, and an answer with it beside.
use Rattle.std.specs.Prelude.{ℕ, ◌<◌, ◌≡◌, true, false, List, Option, Some, None, Result, Ok, Err, eqb}
use Rattle.octets.specs.declared.Answer.{Answer}
use Rattle.octets.specs.declared.Done.{Done}
use Rattle.octets.specs.declared.Refusal.{Refusal}
use Rattle.octets.specs.Answers.{answering, refusal}
use Rattle.octets.specs.Refusals.{code_of}
use Rattle.plan.specs.Layout.{count_of, record_at}
use Rattle.plan.specs.Check.{field_count, owner_field, field_good, fault_of, first_fault, Twins, first_repeat, check_of}
use Rattle.plan.specs.declared.Fault.{Fault}
use Rattle.plan.specs.declared.Field.{Field}
use Rattle.plan.specs.declared.Field.TheVariants.{Kind, Prefix, Zero, Address, Owner, Target, Ttl}
use Rattle.plan.specs.declared.Refused.{Refused}
use Rattle.plan.specs.declared.Reply.{Reply}

-- the number of a field; the number of fields for none
abbrev pub field_number : Option Field → ℕ
field_number None = field_count
field_number (Some Kind) = 0
field_number (Some Prefix) = 1
field_number (Some Zero) = 2
field_number (Some Address) = 3
field_number (Some Owner) = 4
field_number (Some Target) = 5
field_number (Some Ttl) = 6

-- the place of the first field at fault in the first record at fault; of the owner of the first DNAME that has an earlier one's; and no place
abbrev pub fault_place : List ℕ → Fault
fault_place t = record { index = first_fault t; field = fault_of (record_at t (first_fault t)) }

abbrev pub repeat_place : List ℕ → Fault
repeat_place t = record { index = first_repeat t; field = owner_field }

abbrev pub no_place : Fault
no_place = record { index = 0; field = 0 }

-- the fault of a table, by the number that it earns
unfoldable pub fault_in : List ℕ → Fault
fault_in t = elim (eqb (check_of t) 2) [ true ↦ fault_place t | false ↦ elim (eqb (check_of t) 3) [ true ↦ repeat_place t | false ↦ no_place ] ]

-- what an operation on a table replies: its answer, and the fault of the table beside it
abbrev pub replying : List ℕ → Answer → Reply
replying t a = record { answer = a; fault = fault_in t }

-- a refusal for another reason than a fault of the table
abbrev pub placeless : Refusal → Refused
placeless r = record { refusal = r; fault = no_place }

-- what comes of an operation on a table, as a reply
abbrev pub replied : Result Done Refused → Reply
replied (Ok d) = record { answer = answering d.count d.work; fault = no_place }
replied (Err e) = record { answer = refusal (code_of e.refusal); fault = e.fault }

-- what comes of a check of a table, as a reply: it has no figures
abbrev pub judged : {A : Type 0} → Result A Refused → Reply
judged (Ok x) = record { answer = answering 0 0; fault = no_place }
judged (Err e) = record { answer = refusal (code_of e.refusal); fault = e.fault }

-- 2's place as a statement: this field of this record is at fault, and before it there is none, neither in the record nor in an earlier one
pub record FaultAt (t : List ℕ) (index field : ℕ) : Type 0 where
  pub there : index < count_of t
  pub known : field < field_count
  pub fault : field_good (record_at t index) field ≡ false
  pub fields : (f : ℕ) → f < field → field_good (record_at t index) f ≡ true
  pub records : (i f : ℕ) → i < index → f < field_count → field_good (record_at t i) f ≡ true

-- 3's place as a statement: the DNAME at the index has the owner of an earlier one, and at no smaller index is there such a DNAME
pub record RepeatAt (t : List ℕ) (index : ℕ) : Type 0 where
  pub there : index < count_of t
  pub earlier : ℕ
  pub twins : Twins t earlier index
  pub none : (i j : ℕ) → j < index → Twins t i j → ⊥

-- what may be relied on where an operation on a table answers the number k with the fault f beside it
pub record Placed (t : List ℕ) (k : ℕ) (f : Fault) : Type 0 where
  pub two : k ≡ 2 → FaultAt t f.index f.field
  pub three : k ≡ 3 → RepeatAt t f.index × (f.field ≡ owner_field)
  pub other : (k ≡ 2 → ⊥) → (k ≡ 3 → ⊥) → f ≡ no_place
