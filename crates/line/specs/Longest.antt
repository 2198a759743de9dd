-- The longest line (T-06).
use Rattle.std.specs.Prelude.{ℕ}

-- the most octets that a written line has, with its octet 10
abbrev pub longest_line : ℕ
longest_line = 2066
