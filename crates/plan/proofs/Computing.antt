-- For theorems by computation. An `unfolding` line that has `tables_compute` unfolds all that tables are laid out and checked by.
use Prim.Native.Nat.{ℕ}
use Rattle.octets.specs.Octets.{flat}
use Rattle.octets.specs.Numbers.{value_of, octets_of}
use Rattle.names.proofs.Computing.{names_compute}
use Rattle.address.proofs.Computing.{addresses_compute}
use Rattle.plan.specs.Layout.{type_of, prefix_of, zero_of, address_of, owner_slot, target_slot, ttl_of, name_in, slot_of, record_of, count_of, record_at, is_type}
use Rattle.plan.specs.First.{first_from}
use Rattle.plan.specs.Check.{slot_good, slot_empty, type_good, prefix_good, address_good, targetless, target_good, ttl_good, tests_of, field_good, fault_of, faulty, first_fault, twin, repeats, first_repeat, missized, check_of, entry_number}
use Rattle.plan.specs.Faults.{fault_in}
use Rattle.plan.specs.Graph.{owns_a6}
use Rattle.plan.specs.Part.{owner_within, owner_part}
use Rattle.plan.specs.Fields.{one_a6, fields_of, slot_for, a6_record}

unfoldable pub tables_compute : ℕ
unfolding names_compute addresses_compute flat value_of octets_of type_of prefix_of zero_of address_of owner_slot target_slot ttl_of name_in slot_of is_type record_of count_of record_at first_from slot_good slot_empty type_good prefix_good address_good targetless target_good ttl_good tests_of field_good fault_of faulty first_fault twin repeats first_repeat missized check_of fault_in entry_number owns_a6 owner_within owner_part one_a6 fields_of slot_for a6_record
tables_compute = 0
