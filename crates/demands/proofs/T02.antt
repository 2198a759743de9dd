-- T-02, the 1998 layout: the way round through both layouts, and each undoes itself, of the definitions that the running functions meet (Demand1).
use Prim.Native.Nat.{ℕ, ◌-◌, ◌≤◌}
use mathlib.Core.Path.{◌≡◌, ap, ◌∙◌, sym}
use mathlib.Core.Logic.{◌↔◌}
use mathlib.Core.List.{List, [], ◌∷◌, ◌++◌}
use lib.ListN.{length, get_or, take}
use native.Mathlib.Omega.{arith}
use Rattle.std.specs.Prelude.{Ok}
use contract.Lifetimes.{Lfts}
use denote.Ref.{Bor}
use denote.MutBor.{MutBor}
use Rattle.octets.specs.Octets.{blank, Small}
use Rattle.octets.specs.Answers.{answering, answer_by, out_by}
use Rattle.octets.proofs.AnswerLaws.{by_number}
use Rattle.a6.specs.Data.{Shaped}
use Rattle.a6.specs.Read.{read_number, value_of, read_of}
use Rattle.a6.specs.Write.{data_of, write_number, write_answer, write_out}
use Rattle.a6.specs.Standard.{standard_data}
use Rattle.a6.specs.declared.Value.{Value}
use Rattle.a6.proofs.AcceptedLaws.{write_done}
use Rattle.a6.proofs.Layouts.{gives, write_read, read_write, standard_again, way_round, given_other}
use Rattle.a6.proofs.RoundTrip.{a6_layout}
use Rattle.draft.specs.Read.{draft_number, draft_value, draft_reading}
use Rattle.draft.specs.Write.{draft_data, draft_write_number, draft_answer, draft_out}
use Rattle.draft.specs.Standard.{draft_standard}
use Rattle.draft.proofs.DataLaws.{data_short}
use Rattle.draft.proofs.RoundTrip.{draft_layout}
use Rattle.a6plan.specs.Exports.{value_size, value_octets, value_in, exported_figures}
use Rattle.a6plan.proofs.ExportLaws.{full_out, read_right, read_zero, write_right, write_zero, value_held, value_size_lem}
use Rattle.a6plan.proofs.a6plan_read.Reads as a6plan-read
use Rattle.a6plan.proofs.a6plan_write.Reads as a6plan-write
use Rattle.a6plan.proofs.a6plan_read_1998.Reads as a6plan-read-1998
use Rattle.a6plan.proofs.a6plan_write_1998.Reads as a6plan-write-1998

-- ---- the way round
-- the octets that are written in the 1998 layout, and as A6 data, of a value in an output of so many octets
abbrev pub in1998 : Value → ℕ → List ℕ
in1998 v room = take (draft_answer v room).count (draft_out v room)

abbrev pub in_a6 : Value → ℕ → List ℕ
in_a6 v room = take (write_answer v room).count (write_out v room)

-- A6 data that is accepted, written in the 1998 layout where there is room, is taken there and reads as the same value; and that, written as A6 data, is the
-- standard form of the data, octet for octet, with zeros after it
pub through_1998 : (octets : List ℕ) (v : Value) (between room : ℕ) → Small octets → read_of octets ≡ Ok v → length (draft_data v) ≤ between → length (standard_data octets) ≤ room
    → ((draft_answer v between).number ≡ 0)
    × (draft_reading (in1998 v between) ≡ Ok v)
    × (write_answer v room ≡ answering (length (standard_data octets)) 0)
    × (write_out v room ≡ standard_data octets ++ blank (room - length (standard_data octets)))
through_1998 = way_round a6_layout draft_layout

-- and the other way round
pub through_a6 : (octets : List ℕ) (v : Value) (between room : ℕ) → Small octets → draft_reading octets ≡ Ok v → length (data_of v) ≤ between → length (draft_standard octets) ≤ room
    → ((write_answer v between).number ≡ 0)
    × (read_of (in_a6 v between) ≡ Ok v)
    × (draft_answer v room ≡ answering (length (draft_standard octets)) 0)
    × (draft_out v room ≡ draft_standard octets ++ blank (room - length (draft_standard octets)))
through_a6 = way_round draft_layout a6_layout

-- ---- each undoes itself
-- data of the 1998 layout that is accepted, written back, is its own standard form with zeros after it
pub write_back : (octets : List ℕ) (v : Value) (room : ℕ) → Small octets → draft_reading octets ≡ Ok v → length (draft_standard octets) ≤ room
    → (draft_answer v room ≡ answering (length (draft_standard octets)) 0)
    × (draft_out v room ≡ draft_standard octets ++ blank (room - length (draft_standard octets)))
write_back = write_read draft_layout

-- and a standard form is its own standard form
pub standard_twice : (octets : List ℕ) (v : Value) → Small octets → draft_reading octets ≡ Ok v → draft_standard (draft_standard octets) ≡ draft_standard octets
standard_twice octets v s e = standard_again draft_layout octets s (gives draft_layout octets v e).0

-- what was written and is read back is the value; `Shaped` is what the type of a value gives
pub read_back : (v : Value) (room : ℕ) → Shaped v → (draft_answer v room).number ≡ 0 → draft_reading (in1998 v room) ≡ Ok v
read_back v room s e = read_write draft_layout v room s (sym (by_number (draft_write_number v room) _ _) ∙ e)

-- ---- both readers accept the same values
-- a value comes out of one reader, for some octets, exactly when it comes out of the other, for some octets
pub same_values : (v : Value)
    → ((octets : List ℕ) × Small octets × (read_of octets ≡ Ok v))
    ↔ ((octets : List ℕ) × Small octets × (draft_reading octets ≡ Ok v))
same_values v = (given_other a6_layout draft_layout v, given_other draft_layout a6_layout v)

-- ---- room
-- 272 octets are enough to write any value in the 1998 layout
pub room_1998 : (v : Value) → Shaped v → length (draft_data v) ≤ 272
room_1998 v s = data_short v s.address_long (omega (arith, s.length_small))

-- ---- by the exports
-- what reading puts into the value slice, in either layout, is what writing takes out of it
pub held : (v : Value) → Shaped v → value_in (value_octets v) ≡ v
held v s = value_held v s

-- Four calls, by what their caller learns (`shown` and `handed` show to a writer what the reader before it left): A6 data is read, written in the 1998 layout, the octets that were written are read, and written as A6 data
-- where there is room. The value is the same both times, and the last output is the standard form of the data, with zeros after it.
module _ (first : Bor (List ℕ)) (value kept : MutBor (List ℕ)) (r1 : ℕ) (κ1 : Lfts 2) (l1 : a6plan-read.Learnt κ1 (first, (value, tt)) r1 (first, (kept, tt))) (done1 : r1 ≡ 0) (small : Small first.now)
    (shown : Bor (List ℕ)) (shows : shown.now ≡ kept.now)
    (out end figures figured : MutBor (List ℕ)) (r2 : ℕ) (κ2 : Lfts 3) (l2 : a6plan-write-1998.Learnt κ2 (shown, (out, (figures, tt))) r2 (shown, (end, (figured, tt)))) (done2 : r2 ≡ 0)
    (second : Bor (List ℕ)) (again back : MutBor (List ℕ)) (r3 : ℕ) (κ3 : Lfts 2) (l3 : a6plan-read-1998.Learnt κ3 (second, (again, tt)) r3 (second, (back, tt)))
    (between : second.now ≡ take (get_or figured.now 0 0) end.now) (sized : length again.now ≡ value_size)
    (handed : Bor (List ℕ)) (hands : handed.now ≡ back.now)
    (last left counts counted : MutBor (List ℕ)) (r4 : ℕ) (κ4 : Lfts 3) (l4 : a6plan-write.Learnt κ4 (handed, (last, (counts, tt))) r4 (handed, (left, (counted, tt))))
    (two : length counts.now ≡ 2) (room : length (standard_data first.now) ≤ length last.now) where
  abbrev v : Value
  v = value_of first.now

  read : read_number first.now ≡ 0
  read = (read_zero (length value.now) (read_number first.now) (sym l1.0 ∙ done1)).1

  shaped : Shaped v
  shaped = a6_layout.read_shaped first.now small read

  -- the value, held in the slice
  in_slice : (r : ℕ) (n : ℕ) {xs : List ℕ} → r ≡ 0 → n ≡ value_size → xs ≡ out_by r (value_octets v) n → xs ≡ value_octets v
  in_slice r n e m p = p ∙ (λ i. out_by (e i) (value_octets v) (m i)) ∙ sym (full_out (value_octets v) value_size (value_size_lem v shaped))

  kept_is : kept.now ≡ value_octets v
  kept_is = in_slice r1 (length value.now) done1 (read_zero (length value.now) (read_number first.now) (sym l1.0 ∙ done1)).0 l1.1

  taken : value_in shown.now ≡ v
  taken = ap value_in (shows ∙ kept_is) ∙ value_held v shaped

  -- written in the 1998 layout
  written : draft_write_number v (length out.now) ≡ 0
  written = ap (λ (x : Value). draft_write_number x (length out.now)) (sym taken) ∙ (write_zero (length shown.now) (length figures.now) _ (sym l2.0 ∙ done2)).1

  crossed : second.now ≡ in1998 v (length out.now)
  unfolding out_by
  crossed =
      between
      ∙ (λ i. take (get_or ((l2.1.1 ∙ (λ j. exported_figures (done2 j) (draft_answer (taken j) (length out.now)) (length figures.now))) i) 0 0) ((l2.1.0 ∙ (λ j. out_by (done2 j) (draft_data (taken j)) (length out.now)) ∙ ap (λ (k : ℕ). out_by k (draft_data v) (length out.now)) (sym written)) i))

  -- and read again
  reads : draft_reading second.now ≡ Ok v
  reads = ap draft_reading crossed ∙ read_write draft_layout v (length out.now) shaped written

  crossing : draft_number second.now ≡ 0
  crossing = (gives draft_layout second.now v reads).0

  same : draft_value second.now ≡ v
  same = (gives draft_layout second.now v reads).1

  read_again : r3 ≡ 0
  read_again = l3.0 ∙ read_right (length again.now) (draft_number second.now) sized ∙ crossing

  back_is : back.now ≡ value_octets v
  back_is = in_slice r3 (length again.now) read_again sized (l3.1 ∙ ap (λ (x : Value). out_by r3 (value_octets x) (length again.now)) same)

  -- the value is the same
  pub value_again : (r3 ≡ 0) × (back.now ≡ kept.now)
  value_again = (read_again, back_is ∙ sym kept_is)

  -- and the A6 data is the standard form
  data_is : data_of v ≡ standard_data first.now
  data_is = a6_layout.read_written first.now small read

  number : write_number v (length last.now) ≡ 0
  number = write_done v (data_of v) (length last.now) (a6_layout.read_writable first.now small read) (rw data_is room)

  out_of : value_in handed.now ≡ v
  out_of = ap value_in (hands ∙ back_is) ∙ value_held v shaped

  done4 : r4 ≡ 0
  done4 =
      l4.0
      ∙ write_right (length handed.now) (length counts.now) _ (ap length (hands ∙ back_is) ∙ value_size_lem v shaped) two
      ∙ ap (λ (x : Value). write_number x (length last.now)) out_of ∙ number

  pub standard_out_lem : (r4 ≡ 0)
      × (left.now ≡ standard_data first.now ++ blank (length last.now - length (standard_data first.now)))
      × (counted.now ≡ length (standard_data first.now) ∷ 0 ∷ [])
  unfolding out_by answer_by blank
  standard_out_lem = (
    done4,
    l4.1.0 ∙ (λ i. out_by (done4 i) (data_of (out_of i)) (length last.now)) ∙ ap (λ (xs : List ℕ). xs ++ blank (length last.now - length xs)) data_is,
    l4.1.1 ∙ (λ i. exported_figures (done4 i) (write_answer (out_of i) (length last.now)) (two i)) ∙ (λ i. exported_figures 0 (answer_by (number i) (length (data_is i)) 0) 2),
  )
