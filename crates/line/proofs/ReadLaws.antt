-- What is read from a line is one A6 record in order, so that it can be written and read again.
use Prim.Native.Nat.{ℕ, ◌≤◌}
use mathlib.Core.Path.{◌≡◌, ap, ◌∙◌}
use mathlib.Core.Bool.{true, not, ◌&&◌}
use mathlib.Core.List.{List, []}
use lib.Dec.{ltb, eqb}
use lib.ListN.{length, get_or-eq_default}
use native.Mathlib.Omega.{arith}
use borrow.Author.Tests.{ltb-false, eq-eqb, ne_eqb, eqb-true, not-false}
use Rattle.octets.specs.Octets.{blank, Small}
use Rattle.octets.proofs.OctetLaws.{length_blank}
use Rattle.octets.proofs.AnswerLaws.{earns_zero}
use Rattle.address.proofs.AddressLaws.{join_length, join_small}
use Rattle.address.proofs.ClearLaws.{clear_join, clear_blank}
use Rattle.chains.specs.Graph.{max_ttl}
use Rattle.names.specs.Name.{name_of}
use Rattle.plan.specs.Layout.{record_size}
use Rattle.plan.specs.Fields.{one_a6, HoldsName, SoundFields}
use Rattle.plan.proofs.FieldLaws.{sound_one, record_size_lem, record_small}
use Rattle.text.specs.Decimal.{digit_count, decimal_of, is_decimal}
use Rattle.text.specs.AddressText.{is_address, read_address}
use Rattle.text.proofs.ReadAgain
use Rattle.nametext.specs.Reading.{text_number, name_read, name_held}
use Rattle.nametext.proofs.ReadLaws
use Rattle.line.specs.Words.{word}
use Rattle.line.specs.Writing.{line_of}
use Rattle.line.specs.Reading.{decimal_number, address_number, length_in, words_in, rest_number, numbers_in, line_number, fields_in, record_in}
use Rattle.line.proofs.OrderLaws.{line_nought}
use Rattle.line.proofs.RoundLaws.{held_none, read_written}

-- ---- a word that earns 0
pub decimal_low : (bound : ℕ) (w : List ℕ) → decimal_number bound w ≡ 0 → decimal_of w ≤ bound
unfolding decimal_number
decimal_low bound w e =
    let a = earns_zero (not (is_decimal w && eqb (digit_count w) (length w))) 19 _ e in
    ltb-false bound (decimal_of w) (earns_zero (ltb bound (decimal_of w)) 20 0 a.1).0

address_is : (w : List ℕ) → address_number w ≡ 0 → is_address w ≡ true
unfolding address_number
address_is w e = not-false (is_address w) (earns_zero (not (is_address w)) 19 0 e).0

name_holds : (w : List ℕ) → text_number w ≡ 0 → HoldsName (name_held w)
unfolding name_held
name_holds w e = record { name = name_read w; formed = ReadLaws.read_standard w e; small = ReadLaws.read_small w e; held = rw (name_held, e) }

-- how the words end
module _ (ws : List (List ℕ)) (e : rest_number ws ≡ 0) where
  target_is : (length_in ws ≡ 0 → ⊥) → text_number (word ws 5) ≡ 0
  unfolding rest_number
  target_is n = (earns_zero (not (eqb (length ws) 6)) 19 (text_number (word ws 5)) (rw (rest_number, ne_eqb (length_in ws) 0 n) at e)).1

  target_none : length_in ws ≡ 0 → name_held (word ws 5) ≡ name_of []
  unfolding rest_number
  target_none z =
      let n = (earns_zero (not (eqb (length ws) 5)) 19 0 (rw (rest_number, eq-eqb (length_in ws) 0 z) at e)).0 in
      let l = eqb-true (length ws) 5 (not-false (eqb (length ws) 5) n) in
      ap name_held (get_or-eq_default ws [] (omega arith)) ∙ held_none

-- ---- a line that earns 0
module _ (line : List ℕ) (e : line_number line ≡ 0) where
  record Passed (ws : List (List ℕ)) : Type 0 where
    owner : text_number (word ws 0) ≡ 0
    ttl : decimal_number max_ttl (word ws 1) ≡ 0
    prefix : decimal_number 128 (word ws 3) ≡ 0
    address : address_number (word ws 4) ≡ 0
    rest : rest_number ws ≡ 0

  passed : Passed (words_in line)
  unfolding numbers_in
  passed =
      let p = (line_nought line e).1 in
      record { owner = p.0; ttl = p.1.0; prefix = p.1.1.1.0; address = p.1.1.1.1.0; rest = p.1.1.1.1.1.0 }

  -- Theorem: the fields that are read are those of an A6 record in order
  pub read_sound : SoundFields (fields_in (words_in line))
  unfolding fields_in length_in
  read_sound =
      let ws = words_in line in
      let a = read_address (word ws 4) in
      let z = length_blank 16 in
      let l = ReadAgain.read_size (word ws 4) (address_is (word ws 4) passed.address) in
      record {
        prefix = decimal_low 128 (word ws 3) passed.prefix;
        size = join_length (blank 16) a (length_in ws) z l;
        small = join_small (blank 16) a (length_in ws) z l;
        clear = clear_join (blank 16) a (length_in ws) (length_in ws) z l (clear_blank (length_in ws) 16) (omega arith);
        owner = name_holds (word ws 0) passed.owner;
        target = λ n. name_holds (word ws 5) (target_is ws passed.rest n);
        none = target_none ws passed.rest;
        lived = decimal_low max_ttl (word ws 1) passed.ttl;
      }

  -- so the record that is read is one A6 record in order
  pub read_one : one_a6 (record_in line) ≡ true
  unfolding record_in
  read_one = sound_one (fields_in (words_in line)) read_sound

  pub read_size : length (record_in line) ≡ record_size
  unfolding record_in
  read_size = record_size_lem (fields_in (words_in line)) read_sound

  pub read_small : Small (record_in line)
  unfolding record_in
  read_small = record_small (fields_in (words_in line)) read_sound

  -- Theorem: what is read, written and read again, is the same record
  pub read_again : (line_number (line_of (record_in line)) ≡ 0) × (record_in (line_of (record_in line)) ≡ record_in line)
  read_again = read_written (record_in line) read_one read_small
