-- For theorems by computation. An `unfolding` line that has `draft_compute` unfolds all that data of the 1998 layout is read and written by.
use Prim.Native.Nat.{ℕ}
use Rattle.a6.proofs.Computing.{data_compute}
use Rattle.draft.specs.Layout.{rest_part}
use Rattle.draft.specs.Read.{draft_number, draft_value}
use Rattle.draft.specs.Write.{draft_data}
use Rattle.draft.specs.Standard.{without_first, draft_standard}

unfoldable pub draft_compute : ℕ
unfolding data_compute rest_part draft_number draft_value draft_data without_first draft_standard
draft_compute = 0
