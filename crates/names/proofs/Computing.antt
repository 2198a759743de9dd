-- For theorems by computation. An `unfolding` line that has `names_compute` unfolds all that names are read and written by.
use Prim.Native.Nat.{ℕ}
use Rattle.octets.specs.Octets.{blank, same_by}
use Rattle.bits.specs.Bits.{bits_of, unpack, pack_from, pack}
use Rattle.labels.specs.Labels.{count_for, count_of, size_of, unused_clear, run_of, label_of, fault_of}
use Rattle.labels.specs.Scan.{with, scan_from, scan_of, labels_of, fills, well_formed, apart}
use Rattle.labels.specs.Answers.{scanned}
use Rattle.names.specs.Standard.{before, units, units_of, bit_label, encode_from, encode, standard_of, lower, key_unit, key_of, same_name, in_standard_form}
use Rattle.names.specs.Name.{name_of, held_of}

unfoldable pub names_compute : ℕ
unfolding blank same_by bits_of unpack pack_from pack count_for count_of size_of unused_clear run_of label_of fault_of with scan_from scan_of labels_of fills well_formed apart scanned before units units_of bit_label encode_from encode standard_of lower key_unit key_of same_name in_standard_form name_of held_of
names_compute = 0
