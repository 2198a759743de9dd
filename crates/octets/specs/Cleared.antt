-- What clearing a list writes: the code's own, nothing that a reader must believe.
use Rattle.std.specs.Prelude.{◌≡◌, refl, ℕ, replicate}
use Rattle.octets.specs.Octets.{blank}

-- zeros are copies of 0
pub blank_replicated : (n : ℕ) → blank n ≡ replicate n 0
unfolding blank
blank_replicated n = refl
