-- What the C interface does with an operation's output: the code's own, nothing that a reader must believe.
use Rattle.std.specs.Prelude.{ℕ, List, eqb, length, if◌then◌else◌}
use Rattle.octets.specs.Octets.{blank}

-- an output as the operation left it where the figures, n of them, are as many as are wanted; else zeros
abbrev pub kept_for : ℕ → ℕ → List ℕ → List ℕ
kept_for wanted n out = if eqb n wanted then out else blank (length out)
