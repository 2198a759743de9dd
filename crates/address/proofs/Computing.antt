-- For theorems by computation. An `unfolding` line that has `addresses_compute` unfolds all that addresses are joined and tested by.
use Prim.Native.Nat.{ℕ}
use Rattle.octets.specs.Octets.{blank, same_by}
use Rattle.octets.specs.Zeros.{is_blank}
use Rattle.bits.specs.Bits.{bits_of, unpack, pack_from, pack}
use Rattle.address.specs.Address.{bits, bit_at, join_of, clear_to}
use Rattle.address.specs.Order.{order_of}

unfoldable pub addresses_compute : ℕ
unfolding blank same_by is_blank bits_of unpack pack_from pack bits bit_at join_of clear_to order_of
addresses_compute = 0
