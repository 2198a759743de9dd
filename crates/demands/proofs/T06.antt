-- T-06, zone lines: what is written is read again, as a line and in its pieces; the order of refusals; the text of an address. Said of the definitions
-- that the running functions meet (Demand1), and of calls one after the other.
use Prim.Native.Nat.{ℕ, ◌+◌, ◌-◌, ◌≤◌, min}
use mathlib.Core.Path.{◌≡◌, refl, ap, ◌∙◌, sym}
use mathlib.Core.Bool.{true, false, not}
use mathlib.Core.List.{List, [], ◌∷◌, ◌++◌}
use mathlib.Core.Logic.{◌↔◌}
use lib.Dec.{ltb}
use lib.ListN.{length, get_or, take}
use lib.Seq.{take-append_seam}
use native.Mathlib.Omega.{arith}
use contract.Lifetimes.{Lfts}
use denote.Ref.{Bor}
use denote.MutBor.{MutBor}
use borrow.Author.Tests.{not-false, le-ltb}
use Rattle.octets.specs.Octets.{blank, Small, among}
use Rattle.octets.specs.declared.Answer.{Answer}
use Rattle.std.specs.Prelude.{Some, Result, Ok}
use Rattle.octets.specs.declared.Done.{Done}
use Rattle.octets.specs.declared.Refusal.{Refusal}
use Rattle.octets.specs.Refusals.{answered}
use Rattle.octets.specs.Answers.{answering, answer_by, out_by}
use Rattle.octets.proofs.AnswerLaws.{earns_zero, earns_not, else_from, by_number}
use Rattle.plan.specs.Layout.{record_size, address_of}
use Rattle.plan.specs.Fields.{one_a6, fields_of}
use Rattle.plan.proofs.FieldLaws.{fields_sound, one_size}
use Rattle.names.specs.Standard.{in_standard_form}
use Rattle.names.specs.Name.{name_of}
use Rattle.text.specs.Digits.{leading}
use Rattle.text.specs.Decimal.{digit_count, write_decimal, decimal_at}
use Rattle.text.specs.AddressText.{address_count, write_address}
use Rattle.text.specs.Reading.{address_at}
use Rattle.text.specs.declared.numbers.Decimal.{Decimal}
use Rattle.text.specs.Rfc5952.{Rfc5952}
use Rattle.text.proofs.Rfc5952Laws.{written_5952}
use Rattle.text.proofs.Rfc5952Only.{only_5952}
use Rattle.text.proofs.DecimalLaws.{decimal_stands}
use Rattle.text.proofs.TextLaws as texts
use Rattle.nametext.specs.Characters.{may_name}
use Rattle.nametext.specs.Writing.{text_of}
use Rattle.nametext.specs.Reading.{name_at}
use Rattle.nametext.specs.declared.reading.Named.{Named}
use Rattle.nametext.proofs.FoundLaws as names
use Rattle.line.specs.Longest.{longest_line}
use Rattle.line.specs.Writing.{line_of}
use Rattle.line.specs.Reading.{words_in, numbers_in, line_number, record_in}
use Rattle.line.specs.Answers.{write_line_number, write_line_answer, write_line_out, read_line_number, read_line_answer, read_line_out}
use Rattle.line.proofs.LongestLaws as long
use Rattle.line.proofs.OrderLaws.{hides_20, hides_21, hides_22, line_20, line_21, line_22}
use Rattle.line.proofs.RoundLaws as round
use Rattle.line.proofs.ReadLaws as reread
use Rattle.line.proofs.write_line.Reads as write_line
use Rattle.line.proofs.read_line.Reads as read_line
use Rattle.a6plan.specs.Exports.{of_line, exported_figures}
use Rattle.a6plan.proofs.ExportLaws.{refuses_line, exported_fit, exported_zero}
use Rattle.a6plan.proofs.FifthLaws.{fifth_line}
use Rattle.a6plan.proofs.a6plan_write_line.Reads as a6plan-write-line
use Rattle.a6plan.proofs.a6plan_read_line.Reads as a6plan-read-line

-- ---- numbers, addresses and names in text
-- a number that was written into a line, before something that is no digit, is read from its place; one over the bound as one more than the bound
pub number_found : (before : List ℕ) (n bound : ℕ) (rest : List ℕ) → digit_count rest ≡ 0
    → ◌≡◌ {A = Decimal} (decimal_at (before ++ (write_decimal n ++ rest)) (length before) bound) (record { formed = true; value = min (bound + 1) n; next = length before + length (write_decimal n) })
number_found = decimal_stands

-- an address that was written into a line, before something that may not stand in one, is read from its place
pub address_found : (before a rest : List ℕ) → length a ≡ 16 → Small a → address_count rest ≡ 0
    → address_at (before ++ (write_address a ++ rest)) (length before) ≡ record { address = Some a; next = length before + length (write_address a) }
address_found = texts.address_found

-- a name in standard form that was written into a line, before something that may not stand in one, is read from its place
pub name_found_lem : (before name rest : List ℕ) → Small name → in_standard_form name ≡ true → leading may_name rest ≡ 0
    → ◌≡◌ {A = Named} (name_at (before ++ (text_of name ++ rest)) (length before)) (record { name = Ok (name_of name); next = length before + length (text_of name) })
name_found_lem = names.name_found_lem

-- the text of an address is one that RFC 5952 allows, and the only one
pub rfc_5952 : (a : List ℕ) → length a ≡ 16 → Small a → Rfc5952 a (write_address a) × ((text : List ℕ) → Rfc5952 a text → text ≡ write_address a)
rfc_5952 a l s = (written_5952 a l s, only_5952 a)

-- ---- a line
-- a line and an output that earn 0
number_read : (line : List ℕ) (room : ℕ) → line_number line ≡ 0 → record_size ≤ room → read_line_number line room ≡ 0
unfolding read_line_number
number_read line room e h = rw (e, le-ltb room record_size h)

-- what is answered then
read_done : (line row : List ℕ) (room : ℕ) → line_number line ≡ 0 → record_in line ≡ row → record_size ≤ room
    → (read_line_answer line room ≡ answering 1 0) × (read_line_out line room ≡ row ++ blank (room - length row))
unfolding answer_by out_by
read_done line row room e f h = rw (number_read line room e h) (refl, ap (λ (xs : List ℕ). xs ++ blank (room - length xs)) f)

-- ---- an A6 record in order
module _ (row : List ℕ) (s : Small row) (o : one_a6 row ≡ true) where
  -- the line of an A6 record in order, read with room for a record, gives number 0, one record, and that record with zeros after it
  pub read_written : (room : ℕ) → record_size ≤ room → (read_line_answer (line_of row) room ≡ answering 1 0) × (read_line_out (line_of row) room ≡ row ++ blank (room - record_size))
  read_written room h = let w = round.read_written row o s in rw (one_size row o) at (read_done (line_of row) row room w.0 w.1 h)

  -- the line of an A6 record in order has at most 2,066 octets
  pub longest : length (line_of row) ≤ longest_line
  longest = long.line_short row o s

  -- so an output of 2,066 octets has room for it
  pub room_enough : (room : ℕ) → longest_line ≤ room
      → (write_line_answer row room ≡ answering (length (line_of row)) 0) × (write_line_out row room ≡ line_of row ++ blank (room - length (line_of row)))
  unfolding write_line_number answer_by out_by
  room_enough room h = let l = longest in rw (write_line_number, o, le-ltb room (length (line_of row)) (omega arith)) (refl, refl)

  -- the text of the address in the line of an A6 record in order is one that RFC 5952 allows, and the only one
  pub line_5952 : Rfc5952 (address_of row) (write_address (address_of row)) × ((text : List ℕ) → Rfc5952 (address_of row) text → text ≡ write_address (address_of row))
  unfolding fields_of
  line_5952 = let f = fields_sound row o s in rfc_5952 (address_of row) f.size f.small

-- some A6 record in order has a line of 2,066 octets
pub longest_reached : (row : List ℕ) × (one_a6 row ≡ true) × Small row × (length (line_of row) ≡ longest_line)
longest_reached = long.longest_reached

-- ---- a line that is read
-- what is read of a line is one A6 record in order; the line of that, read with room for a record, gives the same record
pub read_again : (line : List ℕ) (room : ℕ) → line_number line ≡ 0 → record_size ≤ room
    → (one_a6 (record_in line) ≡ true)
    × (read_line_answer (line_of (record_in line)) room ≡ answering 1 0) × (read_line_out (line_of (record_in line)) room ≡ record_in line ++ blank (room - record_size))
read_again line room e h = let w = read_written (record_in line) (reread.read_small line e) (reread.read_one line e) room h in (reread.read_one line e, w.0, w.1)

-- ---- the order of refusals
module _ (line : List ℕ) (room : ℕ) where
  -- what the end of the line and each of its words earn
  abbrev pub earned : List ℕ
  earned = numbers_in line (words_in line)

  -- a number but 0 and 23 comes from the line
  from_line : (m : ℕ) → (m ≡ 0 → ⊥) → (m ≡ 23 → ⊥) → read_line_number line room ≡ m → line_number line ≡ m
  unfolding read_line_number
  from_line m g h = else_from m (line_number line) _ g (earns_not m (ltb room record_size) 23 0 (λ z. h (sym z)) (λ z. g (sym z)))

  -- 20 comes back exactly where it is earned somewhere: it hides 21, 22 and 23
  pub form_first : (read_line_number line room ≡ 20) ↔ (among 20 earned ≡ true)
  form_first = (λ e. line_20 line (from_line 20 (λ z. omega arith) (λ z. omega arith) e), λ h. (hides_20 line h).1 room)

  -- 21 comes back exactly where it is earned and no 20 is: it hides 22 and 23
  pub range_first : (read_line_number line room ≡ 21) ↔ ((among 20 earned ≡ false) × (among 21 earned ≡ true))
  range_first = (λ e. line_21 line (from_line 21 (λ z. omega arith) (λ z. omega arith) e), λ h. (hides_21 line h.0 h.1).1 room)

  -- 22 comes back exactly where it is earned and neither 20 nor 21 is: it hides 23
  pub size_first : (read_line_number line room ≡ 22) ↔ ((among 20 earned ≡ false) × (among 21 earned ≡ false) × (among 22 earned ≡ true))
  size_first = (λ e. line_22 line (from_line 22 (λ z. omega arith) (λ z. omega arith) e), λ h. (hides_22 line h.0 h.1 h.2).1 room)

-- ---- by the running functions
-- a record that is written: it was an A6 record in order, and as many octets of the output as are counted are its line
module _ (row : List ℕ) (room : ℕ) (e : write_line_number row room ≡ 0) where
  written_one : one_a6 row ≡ true
  unfolding write_line_number
  written_one = not-false (one_a6 row) (earns_zero (not (one_a6 row)) 1 _ e).0

  written_line : take (write_line_answer row room).count (write_line_out row room) ≡ line_of row
  unfolding answer_by out_by
  written_line = rw e (take-append_seam (line_of row) (blank (room - length (line_of row))))

-- Two calls, by what their caller learns: a record is written as a line, and the octets that were written are read with room for a record. `Small` is what
-- the type of octets gives.
module _ (row : Bor (List ℕ)) (out end : MutBor (List ℕ)) (r1 : Result Done Refusal) (κ1 : Lfts 2) (l1 : write_line.Learnt κ1 (row, (out, tt)) r1 (row, (end, tt))) (done1 : (answered r1).number ≡ 0) (small : Small row.now)
    (line : Bor (List ℕ)) (room left : MutBor (List ℕ)) (r2 : Result Done Refusal) (κ2 : Lfts 2) (l2 : read_line.Learnt κ2 (line, (room, tt)) r2 (line, (left, tt)))
    (between : line.now ≡ take (answered r1).count end.now) (sized : record_size ≤ length room.now) where
  written : write_line_number row.now (length out.now) ≡ 0
  written = sym (by_number (write_line_number row.now (length out.now)) _ _) ∙ ap (λ (a : Answer). a.number) (sym l1.0) ∙ done1

  crossed : line.now ≡ line_of row.now
  crossed = between ∙ (λ i. take (l1.0 i).count (l1.1 i)) ∙ written_line row.now (length out.now) written

  -- what `write_line` wrote, `read_line` reads: one record, the one that was written, with zeros after it
  pub written_running : (answered r2 ≡ answering 1 0) × (left.now ≡ row.now ++ blank (length room.now - record_size))
  written_running =
      let w = read_written row.now small (written_one row.now (length out.now) written) (length room.now) sized in
      (l2.0 ∙ ap (λ (xs : List ℕ). read_line_answer xs (length room.now)) crossed ∙ w.0, l2.1 ∙ ap (λ (xs : List ℕ). read_line_out xs (length room.now)) crossed ∙ w.1)

-- The same two calls of the exports, where the figures of the second are two.
module _ (row : Bor (List ℕ)) (out end figures figured : MutBor (List ℕ)) (r1 : ℕ) (κ1 : Lfts 3) (l1 : a6plan-write-line.Learnt κ1 (row, (out, (figures, tt))) r1 (row, (end, (figured, tt)))) (done1 : r1 ≡ 0)
    (small : Small row.now) (line : Bor (List ℕ)) (room left counts counted : MutBor (List ℕ)) (r2 : ℕ) (κ2 : Lfts 3) (l2 : a6plan-read-line.Learnt κ2 (line, (room, (counts, tt))) r2 (line, (left, (counted, tt))))
    (between : line.now ≡ take (get_or figured.now 0 0) end.now) (sized : record_size ≤ length room.now) (two : length counts.now ≡ 2) where
  exported : write_line_number row.now (length out.now) ≡ 0
  exported = (exported_zero of_line refuses_line (length figures.now) (write_line_number row.now (length out.now)) (sym l1.0 ∙ done1)).1

  passed : line.now ≡ line_of row.now
  unfolding out_by
  passed =
      between
      ∙ (λ i. take (get_or ((l1.1.1 ∙ (λ j. exported_figures (done1 j) (write_line_answer row.now (length out.now)) (length figures.now))) i) 0 0) ((l1.1.0 ∙ (λ j. out_by ((done1 ∙ sym exported) j) (line_of row.now) (length out.now))) i))
      ∙ written_line row.now (length out.now) exported

  one : one_a6 row.now ≡ true
  one = written_one row.now (length out.now) exported

  number : read_line_number line.now (length room.now) ≡ 0
  number = ap (λ (xs : List ℕ). read_line_number xs (length room.now)) passed ∙ number_read (line_of row.now) (length room.now) (round.read_written row.now one small).0 sized

  done2 : r2 ≡ 0
  done2 = l2.0 ∙ exported_fit of_line (length counts.now) (read_line_number line.now (length room.now)) two ∙ number

  -- what `a6plan_write_line` wrote, `a6plan_read_line` reads: the record that was written, with zeros after it, and figures 1 and 0
  pub written_exported : (r2 ≡ 0) × (left.now ≡ row.now ++ blank (length room.now - record_size)) × (counted.now ≡ 1 ∷ 0 ∷ [])
  unfolding out_by answer_by blank
  written_exported =
      let w = round.read_written row.now one small in (
        done2,
        l2.1.0 ∙ (λ i. out_by (done2 i) (record_in (passed i)) (length room.now)) ∙ ap (λ (xs : List ℕ). xs ++ blank (length room.now - length xs)) w.1
            ∙ ap (λ (n : ℕ). row.now ++ blank (length room.now - n)) (one_size row.now one),
        l2.1.1 ∙ (λ i. exported_figures (done2 i) (answer_by (number i) 1 0) (two i)),
      )

-- ---- figures of another length
-- `a6plan_write_line` with figures that are not two gives 5 for every record and output; all that was lent is zero (`export_write_line_clears`)
pub misfit_write_line : (κs : Lfts 3) (row : Bor (List ℕ)) (out end figures figured : MutBor (List ℕ)) (r : ℕ)
    → a6plan-write-line.Learnt κs (row, (out, (figures, tt))) r (row, (end, (figured, tt))) → (length figures.now ≡ 2 → ⊥) → r ≡ 5
misfit_write_line κs row out end figures figured r l h = l.0 ∙ fifth_line (length figures.now) (write_line_number row.now (length out.now)) h

-- so does `a6plan_read_line`, for every line and output (`export_read_line_clears`)
pub misfit_read_line : (κs : Lfts 3) (line : Bor (List ℕ)) (out end figures figured : MutBor (List ℕ)) (r : ℕ)
    → a6plan-read-line.Learnt κs (line, (out, (figures, tt))) r (line, (end, (figured, tt))) → (length figures.now ≡ 2 → ⊥) → r ≡ 5
misfit_read_line κs line out end figures figured r l h = l.0 ∙ fifth_line (length figures.now) (read_line_number line.now (length out.now)) h
