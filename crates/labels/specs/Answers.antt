-- What the scan answers (01, What comes back).
use Rattle.std.specs.Prelude.{ℕ, Bool, false, Result, Ok, Err}
use Rattle.octets.specs.Refusals.{told}
use Rattle.octets.specs.declared.Refusal.{Refusal}
use Rattle.labels.specs.Scan.{Reading, refused, done, apart}
use Rattle.labels.specs.declared.Scanned.{Scanned}

-- the answer to a refused reading, and to one that ended well
abbrev pub unread : ℕ → Result Scanned Refusal
unread n = Err (told n)

abbrev pub found : ℕ → Bool → Result Scanned Refusal
found used standard = Ok (record { used = used; standard = standard })

-- what `scan` answers to a reading: the number, the octets used, and whether no two bit labels are adjacent (then the name is in standard form)
unfoldable pub scanned : Reading → Result Scanned Refusal
scanned (refused n) = unread n
scanned (done ls used) = found used (apart false ls)

-- the octets that a name takes, and whether it is in standard form; none, and not, where it is refused
abbrev pub used_by : Result Scanned Refusal → ℕ
used_by (Ok s) = s.used
used_by (Err e) = 0

abbrev pub standard_by : Result Scanned Refusal → Bool
standard_by (Ok s) = s.standard
standard_by (Err e) = false
