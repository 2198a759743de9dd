-- One rewrite of a name by a DNAME, on units (01, Reverse names; T-03).
use Rattle.std.specs.Prelude.{ℕ, suc, ◌-◌, ◌<◌, ◌≡◌, Bool, true, false, ◌||◌, List, [], ◌∷◌, ◌++◌, ltb, eqb, length, take, drop}
use Rattle.octets.specs.Octets.{same_by, same}
use Rattle.names.specs.Standard.{Unit, label, bit, encode, keys}

-- a rule applies to each name that has units below the owner, `below`, one at least: after them comes the owner, in any spelling
pub record Applies (owner name below : List Unit) : Type 0 where
  pub rest : List Unit
  pub whole : name ≡ below ++ rest
  pub alike : keys rest ≡ keys owner
  pub strict : 0 < length below

-- equal units: a bit is never an ordinary label
unfoldable pub same_unit : Unit → Unit → Bool
same_unit (label l) (label m) = same l m
same_unit (label l) (bit c) = false
same_unit (bit b) (label m) = false
same_unit (bit b) (bit c) = eqb b c

abbrev pub same_units : List Unit → List Unit → Bool
same_units = same_by same_unit

-- how many units of the name are below the owner, counted: 0 where the rule does not apply
unfoldable pub below_of : List Unit → List Unit → ℕ
below_of owner name = elim (same_units (keys (drop (length name - length owner) name)) (keys owner)) [ true ↦ length name - length owner | false ↦ 0 ]

-- what a rewrite makes of a name: its first units, as many as are below the owner, in their order, and then the units of the target
unfoldable pub rewrite_of : ℕ → List Unit → List Unit → List Unit
rewrite_of below name target = take below name ++ target

-- a run in the units has more than 256 bits; `run` bits of the first run came before
unfoldable pub long_run : ℕ → List Unit → Bool
long_run run [] = ltb 256 run
long_run run (label l ∷ us) = ltb 256 run || long_run 0 us
long_run run (bit b ∷ us) = long_run (suc run) us

-- 01, What comes back, 8: a run is too long, or the standard form has more than 255 octets
unfoldable pub too_large : List Unit → Bool
too_large us = long_run 0 us || ltb 255 (length (encode us))
