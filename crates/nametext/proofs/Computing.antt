-- For theorems by computation. An `unfolding` line that has `nametext_compute` unfolds all that names are written in text and read from it by.
use Prim.Native.Nat.{ℕ}
use Rattle.names.proofs.Computing.{names_compute}
use Rattle.text.proofs.Computing.{numbers_compute}
use Rattle.nametext.specs.Characters.{is_plain, may_name, hex_digit, three_digits}
use Rattle.nametext.specs.Writing.{octet_text, ordinary_text, nibbles, hex_text, bits_text, label_text, dotted, labels_text, text_of}
use Rattle.nametext.specs.Reading.{paired, octets_formed, octets_in, octets_ranged, is_bits_text, digits_in, past_digits, is_counted, count_text, count_in, count_formed, end_in, bit_octets, rest_clear, bits_formed, label_formed, label_in, label_ranged, parts_from, parts_of, last_from, every, labels_short, labels_in, name_read, text_number, name_part, name_held, name_at}

unfoldable pub nametext_compute : ℕ
unfolding names_compute numbers_compute is_plain may_name hex_digit three_digits octet_text ordinary_text nibbles hex_text bits_text label_text dotted labels_text text_of paired octets_formed octets_in octets_ranged is_bits_text digits_in past_digits is_counted count_text count_in count_formed end_in bit_octets rest_clear bits_formed label_formed label_in label_ranged parts_from parts_of last_from every labels_short labels_in name_read text_number name_part name_held name_at
nametext_compute = 0
