-- Demand 1: each public function asks nothing of its caller and promises just what its definition says, for every input; what refuses leaves its
-- output and its figures zero, but index and field after 2 and 3 (T-04). In a contract κs are the lifetimes of a call, `x.now` is what the reference x
-- shows, and `end` and `figured` are the lent output and figures as the call leaves them.
use Prim.Native.Nat.{ℕ, zero, suc, ◌+◌, ◌≤◌, ◌<◌, min}
use mathlib.Core.Path.{◌≡◌, refl, ap, ◌∙◌, sym}
use mathlib.Core.Logic.{◌↔◌}
use mathlib.Core.Bool.{Bool, true, false}
use mathlib.Core.List.{List, [], not-mem-nil}
use lib.Dec.{ltb, eqb}
use lib.ListN.{length, take, drop}
use borrow.Author.Tests.{eqb-true, eqb-false, ltb-true, ltb-false}
use contract.Lifetimes.{Lfts}
use denote.Builtin.{u8, u32}
use denote.Param.Laws.{Laws, IsCopy}
use denote.Ref.{Bor}
use mir.Syntax.{Dict}
use Rattle.std.specs.declared.clone.Clone.{Ghosts}
use Rattle.octets.specs.contracts.U8Zero.TheImpl as zeros-u8
use Rattle.octets.specs.contracts.U32Zero.TheImpl as zeros-u32
use denote.MutBor.{MutBor}
use Rattle.octets.specs.Octets.{blank, same, flat}
use Rattle.octets.specs.Zeros.{is_blank}
use Rattle.octets.specs.Numbers.{octets_of}
use Rattle.octets.specs.Answers.{refusal, answer_by, out_by}
use Rattle.octets.proofs.AnswerLaws.{refused_out, by_number}
use Rattle.octets.proofs.SmallLaws.{get_or_blank}
use Rattle.octets.proofs.equal.Reads as equal
use Rattle.octets.specs.declared.Answer.{Answer}
use Rattle.octets.specs.declared.Done.{Done}
use Rattle.octets.specs.declared.Refusal.{Refusal}
use Rattle.octets.specs.declared.Refusal.TheVariants.{Prefix, Short, LeftOver}
use Rattle.octets.specs.Refusals.{code_of, told, answered}
use Rattle.octets.specs.Refusals as refusals
use Rattle.octets.proofs.RefusalLaws.{Known, known_zero, known_code, known_earned, known_else, known_result}
use Rattle.std.specs.Prelude.{Option, None, Result, Ok, Err, is_some}
use Rattle.octets.proofs.refused.Reads as refused
use Rattle.octets.proofs.clear.Reads as clear
use Rattle.octets.proofs.wide.Reads as wide
use Rattle.octets.proofs.zeros.is_blank.Reads as is_blank
use Rattle.octets.proofs.numbers.quarter_octets.Reads as quarter_octets
use Rattle.octets.proofs.numbers.lesser.Reads as lesser
use Rattle.octets.proofs.numbers.wide.Reads as numbers-wide
use Rattle.address.specs.Address.{join_of, clear_to}
use Rattle.address.specs.Order.{order_of}
use Rattle.std.specs.declared.cmp.Ordering.{Ordering}
use Rattle.address.proofs.join.Reads as join
use Rattle.address.proofs.compare.Reads as compare
use Rattle.address.proofs.is_clear.Reads as is_clear
use Rattle.labels.specs.Scan as scans
use Rattle.labels.specs.Scan.{scan_of, well_formed}
use Rattle.names.specs.Standard.{standard_of, in_standard_form}
use Rattle.names.specs.Name.{name_of, held, held_of}
use Rattle.labels.specs.Answers.{scanned, used_by, standard_by}
use Rattle.labels.proofs.NumberLaws.{scan_number}
use Rattle.names.specs.Answers.{standard_number, standard_answer, standard_out}
use Rattle.labels.specs.declared.Scanned.{Scanned}
use Rattle.names.specs.declared.Name.{Name}
use Rattle.names.proofs.standard_form.Reads as standard_form
use Rattle.labels.proofs.scan.Reads as scan
use Rattle.names.proofs.is_standard.Reads as is_standard
use Rattle.names.proofs.hold.Reads as hold
use Rattle.names.proofs.Name.none.Reads as none
use Rattle.names.proofs.Name.as_slice.Reads as as_slice
use Rattle.text.specs.Digits.{digit_in}
use Rattle.text.specs.Decimal.{write_decimal, decimal_at}
use Rattle.text.specs.AddressText.{is_address, write_address}
use Rattle.text.specs.Reading.{whole_of, address_part, address_at}
use Rattle.text.specs.Answers.{text_answer, text_out}
use Rattle.text.specs.declared.numbers.Decimal.{Decimal}
use Rattle.text.specs.declared.reading.Found.{Found}
use Rattle.text.proofs.write_decimal.Reads as write-decimal
use Rattle.text.proofs.addresses.write_address.Reads as write-address
use Rattle.text.proofs.numbers.read_decimal.Reads as read_decimal
use Rattle.text.proofs.reading.read_address.Reads as read_address
use Rattle.text.proofs.reading.read_whole.Reads as read_whole
use Rattle.text.proofs.reading.digit_in.Reads as digit_in
use Rattle.nametext.specs.Reading.{text_number, name_part, name_told, name_at}
use Rattle.nametext.proofs.NumberLaws.{told_number}
use Rattle.nametext.specs.Answers.{write_name_answer, write_name_out}
use Rattle.nametext.specs.declared.reading.Named.{Named}
use Rattle.nametext.proofs.write_name.Reads as write-name
use Rattle.nametext.proofs.reading.read_name.Reads as read_name
use Rattle.a6.specs.Ending.{name_found, name_number, reading_for}
use Rattle.a6.specs.Read.{read_number, value_of, read_of}
use Rattle.a6.specs.Write.{data_of, write_number, write_answer, write_out}
use Rattle.a6.specs.declared.Value.{Value}
use Rattle.a6.proofs.read.Reads as read
use Rattle.a6.proofs.write.Reads as write
use Rattle.draft.specs.Read.{draft_number, draft_value, draft_reading}
use Rattle.draft.specs.Write.{draft_data, draft_write_number, draft_answer, draft_out}
use Rattle.draft.proofs.read.Reads as draft-read
use Rattle.draft.proofs.write.Reads as draft-write
use Rattle.plan.specs.Layout.{count_of}
use Rattle.plan.specs.Check.{check_of, check_answer, InOrder}
use Rattle.plan.specs.Faults.{fault_in, replying, replied, judged, Placed}
use Rattle.plan.specs.declared.Refused.{Refused}
use Rattle.plan.specs.Part.{IsPart, empty_part, owner_part}
use Rattle.plan.specs.Fields.{one_a6}
use Rattle.plan.specs.Graph.{graph_of}
use Rattle.plan.proofs.PartLaws.{part_refused, part_past}
use Rattle.plan.proofs.check.Reads as check
use Rattle.plan.proofs.owner.Reads as owner
use Rattle.plan.proofs.is_a6.Reads as is_a6
use Rattle.search.specs.Answers.{output_of, lives_of}
use Rattle.line.specs.Writing.{line_of}
use Rattle.line.specs.Reading.{record_in}
use Rattle.line.specs.Answers.{read_line_answer, read_line_number, read_line_out, write_line_answer, write_line_number, write_line_out}
use Rattle.line.proofs.write_line.Reads as write_line
use Rattle.line.proofs.read_line.Reads as read_line
use Rattle.forward.specs.Lookup.{lookup_number, lookup_answer, lookup_out, lookup_ttls}
use Rattle.forward.proofs.lookup.Reads as lookup
use Rattle.reverse.specs.Answers.{end_of, end_number, end_name, reverse_answer, reverse_out}
use Rattle.reverse.proofs.lookup.Reads as reverse
use Rattle.collapse.specs.Fold.{fold_of}
use Rattle.collapse.specs.Collapse.{number_of, collapse_answer, collapse_out}
use Rattle.collapse.proofs.collapse.Reads as collapse
use Rattle.a6plan.specs.Exports.{of_name, of_part, of_line, of_check, of_table, exported_number, exported_figures, placed_figures, fault_figures, reply_figures, part_answer, value_octets, value_in, exported_read_number, exported_write_number}
use Rattle.a6plan.proofs.ExportLaws.{exported_fit, placed_all, placed_none}
use Rattle.a6plan.proofs.a6plan_standard.Reads as a6plan-standard
use Rattle.a6plan.proofs.a6plan_read.Reads as a6plan-read
use Rattle.a6plan.proofs.a6plan_write.Reads as a6plan-write
use Rattle.a6plan.proofs.a6plan_read_1998.Reads as a6plan-read-1998
use Rattle.a6plan.proofs.a6plan_write_1998.Reads as a6plan-write-1998
use Rattle.a6plan.proofs.a6plan_check.Reads as a6plan-check
use Rattle.a6plan.proofs.a6plan_owner.Reads as a6plan-owner
use Rattle.a6plan.proofs.a6plan_lookup.Reads as a6plan-lookup
use Rattle.a6plan.proofs.a6plan_reverse.Reads as a6plan-reverse
use Rattle.a6plan.proofs.a6plan_collapse.Reads as a6plan-collapse
use Rattle.a6plan.proofs.a6plan_write_line.Reads as a6plan-write-line
use Rattle.a6plan.proofs.a6plan_read_line.Reads as a6plan-read-line
use Rattle.demands.specs.Demand1.{Promises, Cleared, Noughts}
use Rattle.demands.proofs.Places.{check_placed, lookup_placed, reverse_placed, collapse_placed}

-- the contract, computed, is the claim itself
plainly : {P : Type 0} → Unit {0} × (P ↔ P)
plainly = (tt, (λ h. h, λ h. h))

-- ---- octets
pub octets_refused : (κs : Lfts 0) (number : ℕ) (r : Answer) → Promises (refused.Asked κs) (refused.Learnt κs) (number, tt) r (number, tt) (r ≡ refusal number)
octets_refused κs number r = plainly

-- the contract of `octets::clear` at octets is its definition; nothing depends on `laws`, `copy`, `clone`, `d` and `e`, by which the element's type comes
pub octets_clear : (laws : Laws u8) (copy : IsCopy u8) (clone : Ghosts ℕ) (d e : Dict) (κs : Lfts 2) (out end : MutBor (List ℕ))
    → Promises (clear.Asked u8 laws copy zeros-u8.ghosts d clone e κs) (clear.Learnt u8 laws copy zeros-u8.ghosts d clone e κs) (out, tt) tt (end, tt) (end.now ≡ blank (length out.now))
octets_clear laws copy clone d e κs out end = (λ a m. absurd (not-mem-nil m), (λ h. h, λ h. h))

-- the contract of `octets::clear` at numbers of 32 bits is its definition
pub octets_numbers_clear : (laws : Laws u32) (copy : IsCopy u32) (clone : Ghosts ℕ) (d e : Dict) (κs : Lfts 2) (list end : MutBor (List ℕ))
    → Promises (clear.Asked u32 laws copy zeros-u32.ghosts d clone e κs) (clear.Learnt u32 laws copy zeros-u32.ghosts d clone e κs) (list, tt) tt (end, tt) (end.now ≡ blank (length list.now))
octets_numbers_clear laws copy clone d e κs list end = (λ a m. absurd (not-mem-nil m), (λ h. h, λ h. h))

pub octets_equal : (κs : Lfts 2) (a b : Bor (List ℕ)) (r : Bool) → Promises (equal.Asked κs) (equal.Learnt κs) (a, (b, tt)) r (a, (b, tt)) (r ≡ same a.now b.now)
octets_equal κs a b r = plainly

pub octets_wide : (κs : Lfts 0) (x r : ℕ) → Promises (wide.Asked κs) (wide.Learnt κs) (x, tt) r (x, tt) ((r ≡ x) × (r < 256))
octets_wide κs x r = plainly

pub octets_is_blank : (κs : Lfts 1) (s : Bor (List ℕ)) (from : ℕ) (r : Bool)
    → Promises (is_blank.Asked κs) (is_blank.Learnt κs) (s, (from, tt)) r (s, (from, tt)) (r ≡ is_blank (drop from s.now))
octets_is_blank κs s from r = plainly

pub octets_quarter_octets : (κs : Lfts 0) (v : ℕ) (r : List ℕ) → Promises (quarter_octets.Asked κs) (quarter_octets.Learnt κs) (v, tt) r (v, tt) (r ≡ octets_of 4 v)
octets_quarter_octets κs v r = plainly

pub octets_lesser : (κs : Lfts 0) (a b r : ℕ) → Promises (lesser.Asked κs) (lesser.Learnt κs) (a, (b, tt)) r (a, (b, tt)) (r ≡ min a b)
octets_lesser κs a b r = plainly

pub octets_numbers_wide : (κs : Lfts 0) (x r : ℕ) → Promises (numbers-wide.Asked κs) (numbers-wide.Learnt κs) (x, tt) r (x, tt) (r ≡ x)
octets_numbers_wide κs x r = plainly

-- ---- address
pub address_join : (κs : Lfts 0) (high low : List ℕ) (at : ℕ) (r : List ℕ)
    → Promises (join.Asked κs) (join.Learnt κs) (high, (low, (at, tt))) r (high, (low, (at, tt))) (r ≡ join_of high low at)
address_join κs high low at r = plainly

pub address_compare : (κs : Lfts 2) (a b : Bor (List ℕ)) (r : Ordering)
    → Promises (compare.Asked κs) (compare.Learnt κs) (a, (b, tt)) r (a, (b, tt)) (r ≡ order_of a.now b.now)
address_compare κs a b r = plainly

pub address_is_clear : (κs : Lfts 1) (a : Bor (List ℕ)) (n : ℕ) (r : Bool)
    → Promises (is_clear.Asked κs) (is_clear.Learnt κs) (a, (n, tt)) r (a, (n, tt)) (r ≡ clear_to n a.now)
address_is_clear κs a n r = plainly

-- ---- labels and names
pub labels_scan : (κs : Lfts 1) (s : Bor (List ℕ)) (r : Result Scanned Refusal) → Promises (scan.Asked κs) (scan.Learnt κs) (s, tt) r (s, tt) (r ≡ scanned (scan_of s.now))
labels_scan κs s r = plainly

pub names_standard_form : (κs : Lfts 2) (name : Bor (List ℕ)) (out end : MutBor (List ℕ)) (r : Result Done Refusal)
    → Promises (standard_form.Asked κs) (standard_form.Learnt κs) (name, (out, tt)) r (name, (end, tt))
    ((answered r ≡ standard_answer name.now (length out.now)) × (end.now ≡ standard_out name.now (length out.now)))
names_standard_form κs name out end r = plainly

pub names_is_standard : (κs : Lfts 1) (name : Bor (List ℕ)) (r : Bool)
    → Promises (is_standard.Asked κs) (is_standard.Learnt κs) (name, tt) r (name, tt) (r ≡ in_standard_form name.now)
names_is_standard κs name r = plainly

pub names_hold : (κs : Lfts 1) (name : Bor (List ℕ)) (r : Option Name) → Promises (hold.Asked κs) (hold.Learnt κs) (name, tt) r (name, tt) ((held r ≡ held_of name.now) × (is_some r ≡ well_formed name.now))
names_hold κs name r = plainly

pub names_none : (κs : Lfts 0) (r : Name) → Promises (none.Asked κs) (none.Learnt κs) tt r tt (r ≡ name_of [])
names_none κs r = plainly

pub names_as_slice : (κs : Lfts 1) (name : Bor Name) (r : Bor (List ℕ))
    → Promises (as_slice.Asked κs) (as_slice.Learnt κs) (name, tt) r (name, tt) (r.now ≡ take name.now.length name.now.octets)
names_as_slice κs name r = plainly

-- ---- text and nametext
pub text_write_decimal : (κs : Lfts 1) (n : ℕ) (out end : MutBor (List ℕ)) (r : Result Done Refusal)
    → Promises (write-decimal.Asked κs) (write-decimal.Learnt κs) (n, (out, tt)) r (n, (end, tt))
    ((answered r ≡ text_answer (write_decimal n) (length out.now)) × (end.now ≡ text_out (write_decimal n) (length out.now)))
text_write_decimal κs n out end r = plainly

pub text_read_decimal : (κs : Lfts 1) (s : Bor (List ℕ)) (from bound : ℕ) (r : Decimal)
    → Promises (read_decimal.Asked κs) (read_decimal.Learnt κs) (s, (from, (bound, tt))) r (s, (from, (bound, tt))) (r ≡ decimal_at s.now from bound)
text_read_decimal κs s from bound r = plainly

pub text_write_address : (κs : Lfts 1) (address : List ℕ) (out end : MutBor (List ℕ)) (r : Result Done Refusal)
    → Promises (write-address.Asked κs) (write-address.Learnt κs) (address, (out, tt)) r (address, (end, tt))
    ((answered r ≡ text_answer (write_address address) (length out.now)) × (end.now ≡ text_out (write_address address) (length out.now)))
text_write_address κs address out end r = plainly

pub text_read_address : (κs : Lfts 1) (s : Bor (List ℕ)) (from : ℕ) (r : Found)
    → Promises (read_address.Asked κs) (read_address.Learnt κs) (s, (from, tt)) r (s, (from, tt)) (r ≡ address_at s.now from)
text_read_address κs s from r = plainly

pub text_read_whole : (κs : Lfts 1) (text : Bor (List ℕ)) (r : Option (List ℕ))
    → Promises (read_whole.Asked κs) (read_whole.Learnt κs) (text, tt) r (text, tt) (r ≡ whole_of text.now)
text_read_whole κs text r = plainly

pub text_digit_in : (κs : Lfts 0) (c r : ℕ) → Promises (digit_in.Asked κs) (digit_in.Learnt κs) (c, tt) r (c, tt) ((r ≡ digit_in c) × (r ≤ 16))
text_digit_in κs c r = plainly

pub nametext_write_name : (κs : Lfts 2) (name : Bor (List ℕ)) (out end : MutBor (List ℕ)) (r : Result Done Refusal)
    → Promises (write-name.Asked κs) (write-name.Learnt κs) (name, (out, tt)) r (name, (end, tt))
    ((answered r ≡ write_name_answer name.now (length out.now)) × (end.now ≡ write_name_out name.now (length out.now)))
nametext_write_name κs name out end r = plainly

pub nametext_read_name : (κs : Lfts 1) (s : Bor (List ℕ)) (from : ℕ) (r : Named)
    → Promises (read_name.Asked κs) (read_name.Learnt κs) (s, (from, tt)) r (s, (from, tt)) (r ≡ name_at s.now from)
nametext_read_name κs s from r = plainly

-- ---- a6
pub a6_read : (κs : Lfts 1) (rdata : Bor (List ℕ)) (r : Result Value Refusal) → Promises (read.Asked κs) (read.Learnt κs) (rdata, tt) r (rdata, tt) (r ≡ read_of rdata.now)
a6_read κs rdata r = plainly

pub a6_write : (κs : Lfts 1) (value : Value) (out end : MutBor (List ℕ)) (r : Result Done Refusal)
    → Promises (write.Asked κs) (write.Learnt κs) (value, (out, tt)) r (value, (end, tt))
    ((answered r ≡ write_answer value (length out.now)) × (end.now ≡ write_out value (length out.now)))
a6_write κs value out end r = plainly

-- ---- draft
pub draft_draft_read : (κs : Lfts 1) (rdata : Bor (List ℕ)) (r : Result Value Refusal)
    → Promises (draft-read.Asked κs) (draft-read.Learnt κs) (rdata, tt) r (rdata, tt) (r ≡ draft_reading rdata.now)
draft_draft_read κs rdata r = plainly

pub draft_draft_write : (κs : Lfts 1) (value : Value) (out end : MutBor (List ℕ)) (r : Result Done Refusal)
    → Promises (draft-write.Asked κs) (draft-write.Learnt κs) (value, (out, tt)) r (value, (end, tt))
    ((answered r ≡ draft_answer value (length out.now)) × (end.now ≡ draft_out value (length out.now)))
draft_draft_write κs value out end r = plainly

-- ---- plan
pub plan_check : (κs : Lfts 1) (table : Bor (List ℕ)) (r : Result (Unit {0}) Refused)
    → Promises (check.Asked κs) (check.Learnt κs) (table, tt) r (table, tt) (judged r ≡ replying table.now (check_answer table.now))
plan_check κs table r = plainly

pub plan_owner : (κs : Lfts 1) (table r : Bor (List ℕ)) (index : ℕ)
    → Promises (owner.Asked κs) (owner.Learnt κs) (table, (index, tt)) r (table, (index, tt)) (IsPart table r (owner_part table.now index))
plan_owner κs table r index = plainly

pub plan_is_a6 : (κs : Lfts 1) (row : Bor (List ℕ)) (r : Bool) → Promises (is_a6.Asked κs) (is_a6.Learnt κs) (row, tt) r (row, tt) (r ≡ one_a6 row.now)
plan_is_a6 κs row r = plainly

-- ---- line
pub line_write_line : (κs : Lfts 2) (row : Bor (List ℕ)) (out end : MutBor (List ℕ)) (r : Result Done Refusal)
    → Promises (write_line.Asked κs) (write_line.Learnt κs) (row, (out, tt)) r (row, (end, tt))
    ((answered r ≡ write_line_answer row.now (length out.now)) × (end.now ≡ write_line_out row.now (length out.now)))
line_write_line κs row out end r = plainly

pub line_read_line : (κs : Lfts 2) (line : Bor (List ℕ)) (out end : MutBor (List ℕ)) (r : Result Done Refusal)
    → Promises (read_line.Asked κs) (read_line.Learnt κs) (line, (out, tt)) r (line, (end, tt))
    ((answered r ≡ read_line_answer line.now (length out.now)) × (end.now ≡ read_line_out line.now (length out.now)))
line_read_line κs line out end r = plainly

-- ---- forward, reverse and collapse
pub forward_lookup : (κs : Lfts 4) (table name : Bor (List ℕ)) (out end ttls left : MutBor (List ℕ)) (limit : ℕ) (r : Result Done Refused)
    → Promises (lookup.Asked κs) (lookup.Learnt κs) (table, (name, (limit, (out, (ttls, tt))))) r (table, (name, (limit, (end, (left, tt)))))
    ((replied r ≡ replying table.now (lookup_answer table.now name.now limit (length out.now) (length ttls.now)))
    × ((end.now ≡ lookup_out table.now name.now limit (length out.now) (length ttls.now))
    × (left.now ≡ lookup_ttls table.now name.now limit (length out.now) (length ttls.now))))
forward_lookup κs table name out end ttls left limit r = plainly

pub reverse_lookup : (κs : Lfts 3) (table address : Bor (List ℕ)) (out end : MutBor (List ℕ)) (limit : ℕ) (r : Result Done Refused)
    → Promises (reverse.Asked κs) (reverse.Learnt κs) (table, (address, (limit, (out, tt)))) r (table, (address, (limit, (end, tt))))
    ((replied r ≡ replying table.now (reverse_answer table.now address.now limit (length out.now))) × (end.now ≡ reverse_out table.now address.now limit (length out.now)))
reverse_lookup κs table address out end limit r = plainly

pub collapse_collapse : (κs : Lfts 3) (table name : Bor (List ℕ)) (out end : MutBor (List ℕ)) (r : Result Done Refused)
    → Promises (collapse.Asked κs) (collapse.Learnt κs) (table, (name, (out, tt))) r (table, (name, (end, tt)))
    ((replied r ≡ replying table.now (collapse_answer table.now name.now (length out.now))) × (end.now ≡ collapse_out table.now name.now (length out.now)))
collapse_collapse κs table name out end r = plainly

-- ---- the twelve exports: the number, the output and the figures
pub export_standard : (κs : Lfts 3) (name : Bor (List ℕ)) (out end figures figured : MutBor (List ℕ)) (r : ℕ)
    → Promises (a6plan-standard.Asked κs) (a6plan-standard.Learnt κs) (name, (out, (figures, tt))) r (name, (end, (figured, tt)))
    ((r ≡ exported_number of_name (length figures.now) (standard_number name.now (length out.now)))
    × ((end.now ≡ out_by r (standard_of name.now) (length out.now)) × (figured.now ≡ exported_figures r (standard_answer name.now (length out.now)) (length figures.now))))
export_standard κs name out end figures figured r = plainly

pub export_read : (κs : Lfts 2) (rdata : Bor (List ℕ)) (value end : MutBor (List ℕ)) (r : ℕ)
    → Promises (a6plan-read.Asked κs) (a6plan-read.Learnt κs) (rdata, (value, tt)) r (rdata, (end, tt))
    ((r ≡ exported_read_number (length value.now) (read_number rdata.now)) × (end.now ≡ out_by r (value_octets (value_of rdata.now)) (length value.now)))
export_read κs rdata value end r = plainly

pub export_write : (κs : Lfts 3) (value : Bor (List ℕ)) (out end figures figured : MutBor (List ℕ)) (r : ℕ)
    → Promises (a6plan-write.Asked κs) (a6plan-write.Learnt κs) (value, (out, (figures, tt))) r (value, (end, (figured, tt)))
    ((r ≡ exported_write_number (length value.now) (length figures.now) (write_number (value_in value.now) (length out.now)))
    × ((end.now ≡ out_by r (data_of (value_in value.now)) (length out.now))
    × (figured.now ≡ exported_figures r (write_answer (value_in value.now) (length out.now)) (length figures.now))))
export_write κs value out end figures figured r = plainly

pub export_read_1998 : (κs : Lfts 2) (rdata : Bor (List ℕ)) (value end : MutBor (List ℕ)) (r : ℕ)
    → Promises (a6plan-read-1998.Asked κs) (a6plan-read-1998.Learnt κs) (rdata, (value, tt)) r (rdata, (end, tt))
    ((r ≡ exported_read_number (length value.now) (draft_number rdata.now)) × (end.now ≡ out_by r (value_octets (draft_value rdata.now)) (length value.now)))
export_read_1998 κs rdata value end r = plainly

pub export_write_1998 : (κs : Lfts 3) (value : Bor (List ℕ)) (out end figures figured : MutBor (List ℕ)) (r : ℕ)
    → Promises (a6plan-write-1998.Asked κs) (a6plan-write-1998.Learnt κs) (value, (out, (figures, tt))) r (value, (end, (figured, tt)))
    ((r ≡ exported_write_number (length value.now) (length figures.now) (draft_write_number (value_in value.now) (length out.now)))
    × ((end.now ≡ out_by r (draft_data (value_in value.now)) (length out.now))
    × (figured.now ≡ exported_figures r (draft_answer (value_in value.now) (length out.now)) (length figures.now))))
export_write_1998 κs value out end figures figured r = plainly

pub export_check : (κs : Lfts 2) (table : Bor (List ℕ)) (figures figured : MutBor (List ℕ)) (r : ℕ)
    → Promises (a6plan-check.Asked κs) (a6plan-check.Learnt κs) (table, (figures, tt)) r (table, (figured, tt))
    ((r ≡ exported_number of_check (length figures.now) (check_of table.now)) × (figured.now ≡ placed_figures (fault_figures (fault_in table.now)) (length figures.now)))
export_check κs table figures figured r = plainly

pub export_owner : (κs : Lfts 2) (table : Bor (List ℕ)) (index : ℕ) (figures figured : MutBor (List ℕ)) (r : ℕ)
    → Promises (a6plan-owner.Asked κs) (a6plan-owner.Learnt κs) (table, (index, (figures, tt))) r (table, (index, (figured, tt)))
    ((r ≡ exported_number of_part (length figures.now) 0) × (figured.now ≡ exported_figures r (part_answer (owner_part table.now index)) (length figures.now)))
export_owner κs table index figures figured r = plainly

pub export_lookup : (κs : Lfts 5) (table name : Bor (List ℕ)) (limit : ℕ) (out end ttls left figures figured : MutBor (List ℕ)) (r : ℕ)
    → Promises (a6plan-lookup.Asked κs) (a6plan-lookup.Learnt κs) (table, (name, (limit, (out, (ttls, (figures, tt)))))) r (table, (name, (limit, (end, (left, (figured, tt))))))
    ((r ≡ exported_number of_table (length figures.now) (lookup_number table.now name.now limit (length out.now) (length ttls.now)))
    × ((end.now ≡ output_of (graph_of table.now) name.now r (length out.now))
    × ((left.now ≡ lives_of (graph_of table.now) name.now r (length ttls.now))
    × (figured.now ≡ placed_figures (reply_figures (replying table.now (lookup_answer table.now name.now limit (length out.now) (length ttls.now)))) (length figures.now)))))
export_lookup κs table name limit out end ttls left figures figured r = plainly

pub export_reverse : (κs : Lfts 4) (table address : Bor (List ℕ)) (limit : ℕ) (out end figures figured : MutBor (List ℕ)) (r : ℕ)
    → Promises (a6plan-reverse.Asked κs) (a6plan-reverse.Learnt κs) (table, (address, (limit, (out, (figures, tt))))) r (table, (address, (limit, (end, (figured, tt)))))
    ((r ≡ exported_number of_table (length figures.now) (end_number (end_of table.now address.now limit (length out.now))))
    × ((end.now ≡ out_by r (end_name (end_of table.now address.now limit (length out.now))) (length out.now))
    × (figured.now ≡ placed_figures (reply_figures (replying table.now (reverse_answer table.now address.now limit (length out.now)))) (length figures.now))))
export_reverse κs table address limit out end figures figured r = plainly

pub export_collapse : (κs : Lfts 4) (table name : Bor (List ℕ)) (out end figures figured : MutBor (List ℕ)) (r : ℕ)
    → Promises (a6plan-collapse.Asked κs) (a6plan-collapse.Learnt κs) (table, (name, (out, (figures, tt)))) r (table, (name, (end, (figured, tt))))
    ((r ≡ exported_number of_table (length figures.now) (number_of table.now name.now (length out.now)))
    × ((end.now ≡ out_by r (flat (fold_of name.now table.now)) (length out.now))
    × (figured.now ≡ placed_figures (reply_figures (replying table.now (collapse_answer table.now name.now (length out.now)))) (length figures.now))))
export_collapse κs table name out end figures figured r = plainly

pub export_write_line : (κs : Lfts 3) (row : Bor (List ℕ)) (out end figures figured : MutBor (List ℕ)) (r : ℕ)
    → Promises (a6plan-write-line.Asked κs) (a6plan-write-line.Learnt κs) (row, (out, (figures, tt))) r (row, (end, (figured, tt)))
    ((r ≡ exported_number of_line (length figures.now) (write_line_number row.now (length out.now)))
    × ((end.now ≡ out_by r (line_of row.now) (length out.now)) × (figured.now ≡ exported_figures r (write_line_answer row.now (length out.now)) (length figures.now))))
export_write_line κs row out end figures figured r = plainly

pub export_read_line : (κs : Lfts 3) (line : Bor (List ℕ)) (out end figures figured : MutBor (List ℕ)) (r : ℕ)
    → Promises (a6plan-read-line.Asked κs) (a6plan-read-line.Learnt κs) (line, (out, (figures, tt))) r (line, (end, (figured, tt)))
    ((r ≡ exported_number of_line (length figures.now) (read_line_number line.now (length out.now)))
    × ((end.now ≡ out_by r (record_in line.now) (length out.now)) × (figured.now ≡ exported_figures r (read_line_answer line.now (length out.now)) (length figures.now))))
export_read_line κs line out end figures figured r = plainly

-- ---- what refuses leaves nothing
-- by the number, of any operation: where it is not 0 both figures are 0 and the output is zero
by_number_clears : (k count work : ℕ) (result : List ℕ) (room : ℕ) → Cleared (answer_by k count work) (out_by k result room) room
unfolding answer_by out_by
by_number_clears zero count work result room h = absurd (h refl)
by_number_clears (suc k) count work result room h = (refl, refl, refl)

refused_counts : (k count work : ℕ) → (k ≡ 0 → ⊥) → ((answer_by k count work).count ≡ 0) × ((answer_by k count work).work ≡ 0)
refused_counts k count work h = let c = by_number_clears k count work [] 0 (λ e. h (sym (by_number k count work) ∙ e)) in (c.0, c.1)

-- a refused standard form has both figures 0 and its output zero
pub standard_clears : (name : List ℕ) (room : ℕ) → Cleared (standard_answer name room) (standard_out name room) room
standard_clears name room = by_number_clears _ _ _ _ room

-- a refused scan has used nothing
pub scan_clears : (xs : List ℕ) → (refusals.number_of (scanned (scan_of xs)) ≡ 0 → ⊥) → (used_by (scanned (scan_of xs)) ≡ 0) × (standard_by (scanned (scan_of xs)) ≡ false)
unfolding scanned
scan_clears xs = go (scan_of xs)
  where
    go : (r : scans.Reading) → (refusals.number_of (scanned r) ≡ 0 → ⊥) → (used_by (scanned r) ≡ 0) × (standard_by (scanned r) ≡ false)
    go (scans.refused n) h = (refl, refl)
    go (scans.done ls used) h = absurd (h refl)

-- and gives the refusal of its number, and nothing else
pub scan_told : (xs : List ℕ) (n : ℕ) → scan_of xs ≡ scans.refused n → (e : Refusal) × (scanned (scan_of xs) ≡ Err e) × (code_of e ≡ n)
unfolding scanned
scan_told xs n h = (told n, ap scanned h, sym (ap (λ (r : scans.Reading). refusals.number_of (scanned r)) h) ∙ scan_number xs n h)

-- a refused reading gives the refusal of its number, and no value
reading_clears : (k : ℕ) (v : Value) → Known k → (k ≡ 0 → ⊥) → (e : Refusal) × (reading_for k v ≡ Err e) × (code_of e ≡ k)
unfolding reading_for
reading_clears zero v known h = absurd (h refl)
reading_clears (suc k) v known h = (told (suc k), refl, known h)

name_known : (l : ℕ) (rest : List ℕ) → Known (name_number l rest)
unfolding name_number
name_known l rest = known_else _ _ (known_result (name_found l rest)) (known_earned _ 13 0 (known_code LeftOver) known_zero)

read_known : (octets : List ℕ) → Known (read_number octets)
unfolding read_number
read_known octets = known_earned _ 11 _ (known_code Short) (known_earned _ 10 _ (known_code Prefix) (known_earned _ 11 _ (known_code Short) (name_known _ _)))

draft_known : (octets : List ℕ) → Known (draft_number octets)
unfolding draft_number
draft_known octets = known_earned _ 11 _ (known_code Short) (known_earned _ 10 _ (known_code Prefix) (name_known _ _))

pub read_clears : (octets : List ℕ) → (read_number octets ≡ 0 → ⊥) → (e : Refusal) × (read_of octets ≡ Err e) × (code_of e ≡ read_number octets)
read_clears octets = reading_clears (read_number octets) (value_of octets) (read_known octets)

pub draft_read_clears : (octets : List ℕ) → (draft_number octets ≡ 0 → ⊥) → (e : Refusal) × (draft_reading octets ≡ Err e) × (code_of e ≡ draft_number octets)
draft_read_clears octets = reading_clears (draft_number octets) (draft_value octets) (draft_known octets)

-- a refused writing has both figures 0 and its output zero
pub draft_write_clears : (v : Value) (room : ℕ) → Cleared (draft_answer v room) (draft_out v room) room
draft_write_clears v room = by_number_clears _ _ _ _ room

pub write_clears : (v : Value) (room : ℕ) → Cleared (write_answer v room) (write_out v room) room
write_clears v room = by_number_clears _ _ _ _ room

-- a refused writing of text has both figures 0 and its output zero: of a decimal, an address and a name
pub write_decimal_clears : (n room : ℕ) → Cleared (text_answer (write_decimal n) room) (text_out (write_decimal n) room) room
write_decimal_clears n room = by_number_clears _ _ _ _ room

pub write_address_clears : (address : List ℕ) (room : ℕ) → Cleared (text_answer (write_address address) room) (text_out (write_address address) room) room
write_address_clears address room = by_number_clears _ _ _ _ room

pub write_name_clears : (name : List ℕ) (room : ℕ) → Cleared (write_name_answer name room) (write_name_out name room) room
write_name_clears name room = by_number_clears _ _ _ _ room

-- text that is no address gives none
pub read_whole_clears : (text : List ℕ) → is_address text ≡ false → whole_of text ≡ None
unfolding whole_of
read_whole_clears text e = rw (whole_of, e)

pub read_address_clears : (s : List ℕ) (from : ℕ) → is_address (address_part s from) ≡ false → (address_at s from).address ≡ None
unfolding address_at
read_address_clears s from = read_whole_clears (address_part s from)

-- a refused name gives the refusal of its number, and no name
pub read_name_clears : (s : List ℕ) (from : ℕ) → (text_number (name_part s from) ≡ 0 → ⊥) → (e : Refusal) × ((name_at s from).name ≡ Err e) × (code_of e ≡ text_number (name_part s from))
unfolding name_at
read_name_clears s from h = go (name_told (name_part s from)) refl
  where
    go : (r : Result Name Refusal) → name_told (name_part s from) ≡ r → (e : Refusal) × (name_told (name_part s from) ≡ Err e) × (code_of e ≡ text_number (name_part s from))
    go (Ok n) f = absurd (h (sym (told_number (name_part s from)) ∙ ap refusals.number_of f))
    go (Err e) f = (e, f, sym (ap refusals.number_of f) ∙ told_number (name_part s from))

-- a refused writing of a line, and a refused reading, has both figures 0 and its output zero
pub write_line_clears : (row : List ℕ) (room : ℕ) → Cleared (write_line_answer row room) (write_line_out row room) room
write_line_clears row room = by_number_clears _ _ _ _ room

pub read_line_clears : (line : List ℕ) (room : ℕ) → Cleared (read_line_answer line room) (read_line_out line room) room
read_line_clears line room = by_number_clears _ _ _ _ room

-- a refused lookup has both figures 0, its output zero and its list of TTLs zero
pub lookup_clears : (t name : List ℕ) (limit size room : ℕ)
    → Cleared (lookup_answer t name limit size room) (lookup_out t name limit size room) size × Cleared (lookup_answer t name limit size room) (lookup_ttls t name limit size room) room
lookup_clears t name limit size room = (by_number_clears _ _ _ _ size, by_number_clears _ _ _ _ room)

-- a refused reverse lookup has both figures 0 and its output zero
pub reverse_clears : (t address : List ℕ) (limit room : ℕ) → Cleared (reverse_answer t address limit room) (reverse_out t address limit room) room
reverse_clears t address limit room = by_number_clears _ _ _ _ room

-- a refused collapse has both figures 0 and its output zero
pub collapse_clears : (t x : List ℕ) (size : ℕ) → Cleared (collapse_answer t x size) (collapse_out t x size) size
collapse_clears t x size = by_number_clears _ _ _ _ size

-- the check has neither count nor work
pub check_clears : (t : List ℕ) → ((check_answer t).count ≡ 0) × ((check_answer t).work ≡ 0)
check_clears t = (refl, refl)

-- the owner of a table out of order, or past its last record, is the empty part
pub owner_clears : (t : List ℕ) (i : ℕ) → (InOrder t × (i < count_of t) → ⊥) → owner_part t i ≡ record { offset = 0; length = 0 }
owner_clears t i h = go (eqb (check_of t) 0) refl (ltb i (count_of t)) refl
  where
    go : (a : Bool) → eqb (check_of t) 0 ≡ a → (b : Bool) → ltb i (count_of t) ≡ b → owner_part t i ≡ empty_part
    go false e b f = part_refused t i (eqb-false (check_of t) 0 e)
    go true e false f = part_past t i (eqb-true (check_of t) 0 e) (ltb-false i (count_of t) f)
    go true e true f = absurd (h (eqb-true (check_of t) 0 e, ltb-true i (count_of t) f))

-- ---- and so at the C interface: where the number is not 0, every lent output is zero and so are the figures, but index and field after 2 and 3
zeros : (r : ℕ) (result : List ℕ) (room : ℕ) {end : List ℕ} → (r ≡ 0 → ⊥) → end ≡ out_by r result room → end ≡ blank room
zeros r result room h e = e ∙ sym (refused_out r r refl h result room)

-- of `a6plan_standard`
pub export_standard_clears : (κs : Lfts 3) (name : Bor (List ℕ)) (out end figures figured : MutBor (List ℕ)) (r : ℕ)
    → a6plan-standard.Learnt κs (name, (out, (figures, tt))) r (name, (end, (figured, tt))) → (r ≡ 0 → ⊥)
    → (end.now ≡ blank (length out.now)) × (figured.now ≡ blank (length figures.now))
export_standard_clears κs name out end figures figured r l h = (zeros r _ _ h l.1.0, zeros r _ _ h l.1.1)

-- of `a6plan_read`
pub export_read_clears : (κs : Lfts 2) (rdata : Bor (List ℕ)) (value end : MutBor (List ℕ)) (r : ℕ)
    → a6plan-read.Learnt κs (rdata, (value, tt)) r (rdata, (end, tt)) → (r ≡ 0 → ⊥) → end.now ≡ blank (length value.now)
export_read_clears κs rdata value end r l h = zeros r _ _ h l.1

-- of `a6plan_write`
pub export_write_clears : (κs : Lfts 3) (value : Bor (List ℕ)) (out end figures figured : MutBor (List ℕ)) (r : ℕ)
    → a6plan-write.Learnt κs (value, (out, (figures, tt))) r (value, (end, (figured, tt))) → (r ≡ 0 → ⊥)
    → (end.now ≡ blank (length out.now)) × (figured.now ≡ blank (length figures.now))
export_write_clears κs value out end figures figured r l h = (zeros r _ _ h l.1.0, zeros r _ _ h l.1.1)

-- of `a6plan_read_1998`
pub export_read_1998_clears : (κs : Lfts 2) (rdata : Bor (List ℕ)) (value end : MutBor (List ℕ)) (r : ℕ)
    → a6plan-read-1998.Learnt κs (rdata, (value, tt)) r (rdata, (end, tt)) → (r ≡ 0 → ⊥) → end.now ≡ blank (length value.now)
export_read_1998_clears κs rdata value end r l h = zeros r _ _ h l.1

-- of `a6plan_write_1998`
pub export_write_1998_clears : (κs : Lfts 3) (value : Bor (List ℕ)) (out end figures figured : MutBor (List ℕ)) (r : ℕ)
    → a6plan-write-1998.Learnt κs (value, (out, (figures, tt))) r (value, (end, (figured, tt))) → (r ≡ 0 → ⊥)
    → (end.now ≡ blank (length out.now)) × (figured.now ≡ blank (length figures.now))
export_write_1998_clears κs value out end figures figured r l h = (zeros r _ _ h l.1.0, zeros r _ _ h l.1.1)

-- of `a6plan_owner`
pub export_owner_clears : (κs : Lfts 2) (table : Bor (List ℕ)) (index : ℕ) (figures figured : MutBor (List ℕ)) (r : ℕ)
    → a6plan-owner.Learnt κs (table, (index, (figures, tt))) r (table, (index, (figured, tt))) → (r ≡ 0 → ⊥) → figured.now ≡ blank (length figures.now)
export_owner_clears κs table index figures figured r l h = zeros r _ _ h l.1

-- of `a6plan_write_line`
pub export_write_line_clears : (κs : Lfts 3) (row : Bor (List ℕ)) (out end figures figured : MutBor (List ℕ)) (r : ℕ)
    → a6plan-write-line.Learnt κs (row, (out, (figures, tt))) r (row, (end, (figured, tt))) → (r ≡ 0 → ⊥)
    → (end.now ≡ blank (length out.now)) × (figured.now ≡ blank (length figures.now))
export_write_line_clears κs row out end figures figured r l h = (zeros r _ _ h l.1.0, zeros r _ _ h l.1.1)

-- of `a6plan_read_line`
pub export_read_line_clears : (κs : Lfts 3) (line : Bor (List ℕ)) (out end figures figured : MutBor (List ℕ)) (r : ℕ)
    → a6plan-read-line.Learnt κs (line, (out, (figures, tt))) r (line, (end, (figured, tt))) → (r ≡ 0 → ⊥)
    → (end.now ≡ blank (length out.now)) × (figured.now ≡ blank (length figures.now))
export_read_line_clears κs line out end figures figured r l h = (zeros r _ _ h l.1.0, zeros r _ _ h l.1.1)

-- the figures of an operation on a table, by its number k and the one that comes back
module _ (t : List ℕ) (n k count work r : ℕ) (e : r ≡ exported_number of_table n k) {figures : List ℕ} (f : figures ≡ placed_figures (reply_figures (replying t (answer_by k count work))) n) where
  by_places : (at : ℕ) → (r ≡ k → figures ≡ reply_figures (replying t (answer_by k count work)) → Noughts at figures) → Noughts at figures
  by_places at g = go (eqb n 4) refl
    where
      go : (b : Bool) → eqb n 4 ≡ b → Noughts at figures
      go true h = let w = eqb-true n 4 h in g (e ∙ exported_fit of_table n k w) (f ∙ sym (placed_all _ n w))
      go false h = rw (f ∙ sym (placed_none _ n (eqb-false n 4 h))) (get_or_blank n at, get_or_blank n (at + 1))

  counts_none : (r ≡ 0 → ⊥) → Noughts 0 figures
  counts_none h = by_places 0 (λ p q. rw q (refused_counts k count work (λ z. h (p ∙ z))))

  place_none : Placed t k (fault_in t) → (r ≡ 2 → ⊥) → (r ≡ 3 → ⊥) → Noughts 2 figures
  place_none w g h = by_places 2 (λ p q. let z = w.other (λ x. g (p ∙ x)) (λ x. h (p ∙ x)) in rw (q, z) (refl, refl))

-- index and field of `a6plan_check` are zero where the number is neither 2 nor 3; it has no count and no work
pub export_check_unplaced : (κs : Lfts 2) (table : Bor (List ℕ)) (figures figured : MutBor (List ℕ)) (r : ℕ)
    → a6plan-check.Learnt κs (table, (figures, tt)) r (table, (figured, tt)) → (r ≡ 2 → ⊥) → (r ≡ 3 → ⊥) → Noughts 0 figured.now
export_check_unplaced κs table figures figured r l g h = go (eqb (length figures.now) 2) refl
  where
    go : (b : Bool) → eqb (length figures.now) 2 ≡ b → Noughts 0 figured.now
    go true e =
        let w = eqb-true (length figures.now) 2 e in
        let k = l.0 ∙ exported_fit of_check (length figures.now) (check_of table.now) w in
        let z = (check_placed table.now).other (λ x. g (k ∙ x)) (λ x. h (k ∙ x)) in
        rw (l.1 ∙ sym (placed_all _ _ w), z) (refl, refl)
    go false e = rw (l.1 ∙ sym (placed_none _ _ (eqb-false (length figures.now) 2 e))) (get_or_blank (length figures.now) 0, get_or_blank (length figures.now) 1)

-- `a6plan_lookup`
module _ (κs : Lfts 5) (table name : Bor (List ℕ)) (limit : ℕ) (out end ttls left figures figured : MutBor (List ℕ)) (r : ℕ)
    (l : a6plan-lookup.Learnt κs (table, (name, (limit, (out, (ttls, (figures, tt)))))) r (table, (name, (limit, (end, (left, (figured, tt))))))) where
  -- both lists of `a6plan_lookup`, count and work are zero where the number is not 0
  pub export_lookup_clears : (r ≡ 0 → ⊥) → (end.now ≡ blank (length out.now)) × (left.now ≡ blank (length ttls.now)) × Noughts 0 figured.now
  export_lookup_clears h = (zeros r _ _ h l.1.0, zeros r _ _ h l.1.1.0, counts_none table.now _ _ _ _ r l.0 l.1.1.1 h)

  -- index and field of `a6plan_lookup` are zero where it is neither 2 nor 3
  pub export_lookup_unplaced : (r ≡ 2 → ⊥) → (r ≡ 3 → ⊥) → Noughts 2 figured.now
  export_lookup_unplaced = place_none table.now _ _ _ _ r l.0 l.1.1.1 (lookup_placed table.now name.now limit (length out.now) (length ttls.now))

-- `a6plan_reverse`
module _ (κs : Lfts 4) (table address : Bor (List ℕ)) (limit : ℕ) (out end figures figured : MutBor (List ℕ)) (r : ℕ)
    (l : a6plan-reverse.Learnt κs (table, (address, (limit, (out, (figures, tt))))) r (table, (address, (limit, (end, (figured, tt)))))) where
  -- the output of `a6plan_reverse`, count and work are zero where the number is not 0
  pub export_reverse_clears : (r ≡ 0 → ⊥) → (end.now ≡ blank (length out.now)) × Noughts 0 figured.now
  export_reverse_clears h = (zeros r _ _ h l.1.0, counts_none table.now _ _ _ _ r l.0 l.1.1 h)

  -- index and field of `a6plan_reverse` are zero where it is neither 2 nor 3
  pub export_reverse_unplaced : (r ≡ 2 → ⊥) → (r ≡ 3 → ⊥) → Noughts 2 figured.now
  export_reverse_unplaced = place_none table.now _ _ _ _ r l.0 l.1.1 (reverse_placed table.now address.now limit (length out.now))

-- `a6plan_collapse`
module _ (κs : Lfts 4) (table name : Bor (List ℕ)) (out end figures figured : MutBor (List ℕ)) (r : ℕ)
    (l : a6plan-collapse.Learnt κs (table, (name, (out, (figures, tt)))) r (table, (name, (end, (figured, tt))))) where
  -- the output of `a6plan_collapse`, count and work are zero where the number is not 0
  pub export_collapse_clears : (r ≡ 0 → ⊥) → (end.now ≡ blank (length out.now)) × Noughts 0 figured.now
  export_collapse_clears h = (zeros r _ _ h l.1.0, counts_none table.now _ _ _ _ r l.0 l.1.1 h)

  -- index and field of `a6plan_collapse` are zero where it is neither 2 nor 3
  pub export_collapse_unplaced : (r ≡ 2 → ⊥) → (r ≡ 3 → ⊥) → Noughts 2 figured.now
  export_collapse_unplaced = place_none table.now _ _ _ _ r l.0 l.1.1 (collapse_placed table.now name.now (length out.now))
