-- The round trip: the line that is written of an A6 record in order, read, gives that record.
-- Each field is written as one word of its own form, so the words of the line are the fields.
use Prim.Native.Nat.{ℕ, ◌≤◌}
use mathlib.Core.Path.{◌≡◌, refl, ap, ◌∙◌, sym}
use mathlib.Core.Bool.{Bool, true, false, ◌&&◌}
use mathlib.Core.List.{List, [], ◌∷◌, ◌++◌, append-nil, append_assoc}
use lib.Dec.{eqb}
use lib.ListN.{length}
use native.Mathlib.Omega.{arith}
use borrow.Author.Tests.{eq-eqb, ne_eqb, le-ltb, eqb-true, eqb-false}
use Rattle.octets.specs.Octets.{blank, Small, same_by, same}
use Rattle.octets.proofs.BoolLaws.{and_false}
use Rattle.address.specs.Address.{join_of}
use Rattle.address.proofs.ClearLaws.{join_clear}
use Rattle.chains.specs.Graph.{max_ttl}
use Rattle.names.specs.Name.{name_of}
use Rattle.plan.specs.Layout.{prefix_of, address_of, ttl_of, owner_of, target_of, name_in, slot_of}
use Rattle.plan.specs.Fields.{one_a6, fields_of, slot_for, a6_record, HoldsName, SoundFields}
use Rattle.plan.proofs.SlotLaws.{name_made}
use Rattle.plan.proofs.FieldLaws.{fields_sound, record_fields}
use Rattle.text.specs.Digits.{is_digit, leading}
use Rattle.text.specs.Decimal.{digit_count, decimal_of, is_decimal, write_decimal}
use Rattle.text.specs.AddressText.{read_address, write_address}
use Rattle.text.proofs.DecimalLaws.{between_is, decimal_read}
use Rattle.text.proofs.RoundTrip.{address_read}
use Rattle.nametext.specs.Writing.{text_of}
use Rattle.nametext.specs.Reading.{last_from, text_number, name_held}
use Rattle.nametext.proofs.CharacterLaws.{Every}
use Rattle.nametext.proofs.NumberLaws.{number_form}
use Rattle.nametext.proofs.RoundLaws.{read_name, read_number_lem}
use Rattle.line.specs.Words.{is_blank_octet, words_of, word, body_of, end_of}
use Rattle.line.specs.Writing.{a6_word, target_text, line_of}
use Rattle.line.specs.Reading.{decimal_number, type_number, address_number, with_ttl, length_in, with_address, words_in, rest_number, numbers_in, line_number, fields_in, record_in}
use Rattle.line.specs.Walk.{not_blank}
use Rattle.line.proofs.WordLaws.{Words, spaced, words_spaced, body_is, end_is, ttl_there, address_there, name_word, decimal_word, decimal_digits, address_word}
use Rattle.line.proofs.OrderLaws.{nought_line}

-- ---- one field
-- a decimal within the bound
module _ (bound n : ℕ) (h : n ≤ bound) where
  written_decimal : (is_decimal (write_decimal n) ≡ true) × (digit_count (write_decimal n) ≡ length (write_decimal n)) × (decimal_of (write_decimal n) ≡ n)
  written_decimal = rw (append-nil (write_decimal n)) at (decimal_read n [] (unfold leading in refl))

  decimal_number_lem : decimal_number bound (write_decimal n) ≡ 0
  unfolding decimal_number
  decimal_number_lem =
      let d = written_decimal in
      rw (decimal_number, d.0, eq-eqb (digit_count (write_decimal n)) (length (write_decimal n)) d.1, d.2, le-ltb bound n h)

-- no decimal is A6
digits_other : (w : List ℕ) → Every is_digit w → same w a6_word ≡ false
unfolding same_by
digits_other [] h = refl
digits_other (x ∷ w) h = let b = between_is 48 57 x h.0 in rw (same_by, ne_eqb x 65 (λ e. omega arith))

-- an address
module _ (a : List ℕ) (l : length a ≡ 16) (s : Small a) where
  address_number_lem : address_number (write_address a) ≡ 0
  unfolding address_number
  address_number_lem = rw (address_number, (address_read a l s).0)

-- a name
module _ (name : List ℕ) (h : HoldsName (name_of name)) where
  name_is : name ≡ h.name
  unfolding slot_for name_of slot_of
  name_is = sym (name_made name) ∙ ap (λ n. name_in (slot_for n)) h.held ∙ name_made h.name

  name_number_lem : text_number (text_of name) ≡ 0
  name_number_lem = rw name_is (read_number_lem h.name h.small h.formed)

  name_held_lem : name_held (text_of name) ≡ name_of name
  unfolding name_held
  name_held_lem = rw (name_held, name_number_lem) (ap name_of (rw name_is (read_name h.name h.small h.formed)))

-- no text holds no name
pub held_none : name_held [] ≡ name_of []
unfolding name_held
held_none = let e : text_number [] ≡ 20 = number_form [] (unfold last_from in refl) in rw (name_held, e)

-- ---- the line of a record
module _ (r : List ℕ) (o : one_a6 r ≡ true) (s : Small r) where
  kept : SoundFields (fields_of r)
  kept = fields_sound r o s

  -- its words; `rest` is the target's, if it is there
  module _ (rest : List (List ℕ)) where
    abbrev written : List (List ℕ)
    written = text_of (owner_of r) ∷ write_decimal (ttl_of r) ∷ a6_word ∷ write_decimal (prefix_of r) ∷ write_address (address_of r) ∷ rest

    length_written : length_in written ≡ prefix_of r
    unfolding length_in fields_of
    length_written = (written_decimal 128 (prefix_of r) kept.prefix).2

    all_words : Words rest → Words written
    unfolding not_blank is_blank_octet fields_of
    all_words w =
        let n = name_number_lem (owner_of r) kept.owner in
        let t = decimal_number_lem max_ttl (ttl_of r) kept.lived in
        let p = decimal_number_lem 128 (prefix_of r) kept.prefix in (
          name_word (text_of (owner_of r)) (λ e. omega arith),
          (
            decimal_word max_ttl (write_decimal (ttl_of r)) (λ e. omega arith),
            (
              record { some = omega arith; whole = (refl, (refl, record {})) },
              (decimal_word 128 (write_decimal (prefix_of r)) (λ e. omega arith), (address_word (write_address (address_of r)) (address_read (address_of r) kept.size kept.small).0, w)),
            ),
          ),
        )

    fields_written : name_held (word rest 0) ≡ name_of (target_of r) → fields_in written ≡ fields_of r
    unfolding fields_in fields_of
    fields_written t =
        let d = length_written in
        let a : join_of (blank 16) (read_address (write_address (address_of r))) (length_in written) ≡ address_of r =
        rw (d, (address_read (address_of r) kept.size kept.small).1) (join_clear (prefix_of r) (address_of r) kept.prefix kept.size kept.small kept.clear) in
        let n = name_held_lem (owner_of r) kept.owner in
        let l = (written_decimal max_ttl (ttl_of r) kept.lived).2 in
        λ i. record { prefix = d i; address = a i; owner = n i; target = t i; ttl = l i }

    -- where the line is these words, it reads back
    module _ (line : line_of r ≡ spaced written ++ (10 ∷ [])) (w : Words rest) (there : (eqb (prefix_of r) 128 && eqb (length written) 5) ≡ false) where
      words_written : words_in (line_of r) ≡ written
      unfolding words_in fields_of
      words_written =
          let t = decimal_number_lem max_ttl (ttl_of r) kept.lived in
          let n : same (word written 1) a6_word ≡ false = digits_other (write_decimal (ttl_of r)) (decimal_digits max_ttl (write_decimal (ttl_of r)) (λ e. omega arith)) in
          let l : (eqb (length_in written) 128 && eqb (length written) 5) ≡ false = rw length_written there in
          ap (λ (x : List ℕ). with_address (with_ttl (words_of (body_of x)))) line ∙ ap (λ (b : List ℕ). with_address (with_ttl (words_of b))) (body_is (spaced written) 10)
          ∙ ap (λ (ws : List (List ℕ)). with_address (with_ttl ws)) (words_spaced (text_of (owner_of r)) _ (all_words w)) ∙ ap with_address (ttl_there written n) ∙ address_there written l

      number_written : rest_number written ≡ 0 → line_number (line_of r) ≡ 0
      unfolding numbers_in type_number same_by fields_of
      number_written z =
          let e : end_of (line_of r) ≡ 10 = ap end_of line ∙ end_is (spaced written) 10 in
          nought_line (line_of r) (rw (words_written, e) (
            refl,
            (name_number_lem (owner_of r) kept.owner, (decimal_number_lem max_ttl (ttl_of r) kept.lived, (refl, (decimal_number_lem 128 (prefix_of r) kept.prefix, (address_number_lem (address_of r) kept.size kept.small, (z, tt)))))),
          ))

      record_written : name_held (word rest 0) ≡ name_of (target_of r) → record_in (line_of r) ≡ r
      unfolding record_in
      record_written t = ap (λ (ws : List (List ℕ)). a6_record (fields_in ws)) words_written ∙ ap a6_record (fields_written t) ∙ record_fields r o s

  -- Theorem: the line of an A6 record in order, read, earns no number and gives that record
  pub read_written : (line_number (line_of r) ≡ 0) × (record_in (line_of r) ≡ r)
  unfolding line_of spaced rest_number fields_of
  read_written = go (eqb (prefix_of r) 0) refl
    where
      go : (t : Bool) → eqb (prefix_of r) 0 ≡ t → (line_number (line_of r) ≡ 0) × (record_in (line_of r) ≡ r)
      go true e =
          let z = eqb-true (prefix_of r) 0 e in
          let t : target_text r ≡ [] = unfold target_text in rw (target_text, e) in
          let line : line_of r ≡ spaced (written []) ++ (10 ∷ []) = rw t (simp append_assoc) in
          let there : (eqb (prefix_of r) 128 && eqb (length (written [])) 5) ≡ false = rw z in
          let n : rest_number (written []) ≡ 0 = rw (rest_number, length_written [], e) in
          (number_written [] line (record {}) there n, record_written [] line (record {}) there (held_none ∙ sym (kept.none z)))
      go false e =
          let h = kept.target (eqb-false (prefix_of r) 0 e) in
          let T = text_of (target_of r) in
          let t : target_text r ≡ 32 ∷ T = unfold target_text in rw (target_text, e) in
          let line : line_of r ≡ spaced (written (T ∷ [])) ++ (10 ∷ []) = rw t (simp append_assoc) in
          let there : (eqb (prefix_of r) 128 && eqb (length (written (T ∷ []))) 5) ≡ false = and_false (eqb (prefix_of r) 128) in
          let k = name_number_lem (target_of r) h in
          let n : rest_number (written (T ∷ [])) ≡ 0 = rw (rest_number, length_written (T ∷ []), e) k in
          let w : Words (T ∷ []) = (name_word T (λ y. omega arith), record {}) in
          (number_written (T ∷ []) line w there n, record_written (T ∷ []) line w there (name_held_lem (target_of r) h))
