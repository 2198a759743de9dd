-- For theorems by computation. An `unfolding` line that has `numbers_compute` unfolds all that numbers are written and read by.
use Prim.Native.Nat.{ℕ}
use Rattle.text.specs.Digits.{digits_up_to, digits_of, number_from, digit_octet, digit_in, leading, number_text}
use Rattle.text.specs.Decimal.{decimal_from, decimal_of, is_decimal, decimal_at}
use Rattle.octets.specs.Octets.{blank}
use Rattle.text.specs.Groups.{groups_of, octets_of, zeros_at, longest, place_of, before_run, after_run}
use Rattle.text.specs.AddressText.{more_text, groups_text, short_text, write_address, are_groups, groups_from, is_side, side_groups, two_colons, gap_of, has_gap, before_gap, after_gap, named, is_address, address_groups, read_address, may_stand}
use Rattle.text.specs.Reading.{whole_of, address_part, address_at}

unfoldable pub numbers_compute : ℕ
unfolding digits_up_to digits_of number_from digit_octet digit_in leading number_text decimal_from decimal_of is_decimal decimal_at
numbers_compute = 0

-- and `text_compute` all that addresses are, too
unfoldable pub text_compute : ℕ
unfolding numbers_compute blank groups_of octets_of zeros_at longest place_of before_run after_run more_text groups_text short_text write_address are_groups groups_from is_side side_groups two_colons gap_of has_gap before_gap after_gap named is_address address_groups read_address may_stand whole_of address_part address_at
text_compute = 0
