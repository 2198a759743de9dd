-- What one turn of the scan finds: the code's own, nothing that a reader must believe.
use Rattle.std.specs.Prelude.{ℕ, zero, suc, ◌+◌, Bool, ◌&&◌, ◌||◌, List, eqb, Result, Ok, Err}
use Rattle.octets.specs.Refusals.{told}
use Rattle.octets.specs.declared.Refusal.{Refusal}
use Rattle.labels.specs.Labels.{size_of, run_of, fault_of}
use Rattle.labels.specs.Scan.{Reading, refused, done, apart}
use Rattle.labels.specs.Answers.{unread, found}
use Rattle.labels.specs.declared.Scanned.{Scanned}
use Rattle.labels.specs.declared.Step.{Step}

-- one turn: a label that is refused, and a label that ends at a place with so many bits of its run
abbrev pub broken : ℕ → Result Step Refusal
broken n = Err (told n)

abbrev pub step_at : ℕ → ℕ → Result Step Refusal
step_at end run = Ok (record { end = end; run = run })

-- a label's number, or where it ends and how long its run is if the number is 0
unfoldable pub step_for : ℕ → ℕ → ℕ → List ℕ → Result Step Refusal
unfolding size_of run_of
step_for number used run xs = elim number [
  | suc n ↦ broken (suc n)
  | zero ↦ step_at (used + size_of xs) (run_of run xs)
]

unfoldable pub step_of : ℕ → ℕ → List ℕ → Result Step Refusal
unfolding step_for fault_of
step_of used run xs = step_for (fault_of used run xs) used run xs

-- the flag after a label: `run` bits of a run came before it, and `next` bits are in the run after it
unfoldable pub still_apart : Bool → ℕ → ℕ → Bool
still_apart ok run next = ok && (eqb run 0 || eqb next 0)

-- the answer to a reading of what is left: `ok` if no two bit labels were adjacent so far, `after` if a bit label came just before
unfoldable pub finish : Bool → Bool → Reading → Result Scanned Refusal
unfolding apart
finish ok after (refused n) = unread n
finish ok after (done ls used) = found used (ok && apart after ls)
