-- For theorems by computation. An `unfolding` line that has `lines_compute` unfolds all that lines are read and written by.
use Prim.Native.Nat.{ℕ}
use Rattle.octets.specs.Octets.{among}
use Rattle.plan.proofs.Computing.{tables_compute}
use Rattle.nametext.proofs.Computing.{nametext_compute}
use Rattle.text.proofs.Computing.{text_compute}
use Rattle.line.specs.Words.{is_blank_octet, words_from, words_of, body_of, end_of}
use Rattle.line.specs.Writing.{target_text, line_of}
use Rattle.line.specs.Reading.{decimal_number, type_number, address_number, with_ttl, length_in, with_address, words_in, rest_number, numbers_in, worst, line_number, fields_in, record_in}
use Rattle.line.specs.Answers.{write_line_number, read_line_number}

unfoldable pub lines_compute : ℕ
unfolding among tables_compute nametext_compute text_compute is_blank_octet words_from words_of body_of end_of target_text line_of decimal_number type_number address_number with_ttl length_in with_address words_in rest_number numbers_in worst line_number fields_in record_in write_line_number read_line_number
lines_compute = 0
