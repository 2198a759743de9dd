-- Bits on their way into a lent output, for the contracts of the functions that pack: the code's own, nothing that a reader must believe.
use Rattle.std.specs.Prelude.{ℕ, ◌+◌, ◌-◌, ◌*◌, ◌/◌, ◌^◌, ◌≤◌, ◌<◌, ◌≡◌, List, [], ◌++◌, length, take, drop}
use Rattle.octets.specs.Octets.{blank}
use Rattle.octets.specs.Each.{Under}
use Rattle.bits.specs.Bits.{pack_from}
use Rattle.bits.specs.declared.inside.Packer.{Packer}

-- each number of the list is a bit
abbrev pub Bits : List ℕ → Type 0
Bits bs = Under 2 bs

-- nothing but zeros from a place on
abbrev pub Clean : List ℕ → ℕ → Type 0
Clean out to = drop to out ≡ blank (length out - to)

-- a packer in good order, with room for n bits
pub record Ready (out : List ℕ) (p : Packer) (n : ℕ) : Type 0 where
  pub clean : Clean out p.to
  pub have : p.have < 8
  pub value : p.value < 2 ^ p.have
  pub room : p.to * 8 + p.have + n ≤ length out * 8

-- bits were packed: whatever bits come after them, the octets are the same as if these came first
pub record Pushed (old new : List ℕ) (p q : Packer) (bs : List ℕ) : Type 0 where
  pub adds : (rest : List ℕ) → take q.to new ++ pack_from q.have q.value rest ≡ take p.to old ++ pack_from p.have p.value (bs ++ rest)
  pub clean : Clean new q.to
  pub have : q.have < 8
  pub value : q.value < 2 ^ q.have
  pub place : q.to * 8 + q.have ≡ p.to * 8 + p.have + length bs

-- the octet that was begun is written, if there is one
pub record Flushed (old new : List ℕ) (p : Packer) (r : ℕ) : Type 0 where
  pub whole : take r new ≡ take p.to old ++ pack_from p.have p.value []
  pub clean : Clean new r
  pub place : r ≡ p.to + (p.have + 7) / 8
