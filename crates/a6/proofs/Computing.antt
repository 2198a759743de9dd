-- For theorems by computation. An `unfolding` line that has `data_compute` unfolds all that A6 data is read and written by.
use Prim.Native.Nat.{ℕ}
use Rattle.octets.specs.Zeros.{is_blank}
use Rattle.octets.specs.Answers.{answer_by, out_by}
use Rattle.octets.specs.Refusals.{told}
use Rattle.names.proofs.Computing.{names_compute}
use Rattle.address.proofs.Computing.{addresses_compute}
use Rattle.labels.specs.Answers.{scanned}
use Rattle.a6.specs.Data.{suffix_of, after_suffix, octets_of}
use Rattle.a6.specs.Ending.{name_found, name_number, value_from, reading_for}
use Rattle.a6.specs.Read.{read_number, value_of}
use Rattle.a6.specs.Accepted.{name_fits, value_number, room_number}
use Rattle.a6.specs.Write.{data_of}
use Rattle.a6.specs.Standard.{without_padding, standard_data}

unfoldable pub data_compute : ℕ
unfolding names_compute addresses_compute is_blank answer_by out_by told scanned suffix_of after_suffix octets_of name_found name_number value_from reading_for read_number value_of name_fits value_number room_number data_of without_padding standard_data
data_compute = 0
