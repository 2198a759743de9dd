-- Names that the examples of several crates share.
use Prim.Native.Nat.{ℕ}
use mathlib.Core.List.{List, [], ◌∷◌}

-- a letter under a: h.a, p.a, q.a, x.a and z.a
abbrev pub ha : List ℕ
ha = 1 ∷ 104 ∷ 1 ∷ 97 ∷ 0 ∷ []

abbrev pub pa : List ℕ
pa = 1 ∷ 112 ∷ 1 ∷ 97 ∷ 0 ∷ []

abbrev pub qa : List ℕ
qa = 1 ∷ 113 ∷ 1 ∷ 97 ∷ 0 ∷ []

abbrev pub xa : List ℕ
xa = 1 ∷ 120 ∷ 1 ∷ 97 ∷ 0 ∷ []

abbrev pub za : List ℕ
za = 1 ∷ 122 ∷ 1 ∷ 97 ∷ 0 ∷ []

-- h.a and p.a in capitals
abbrev pub HA : List ℕ
HA = 1 ∷ 72 ∷ 1 ∷ 65 ∷ 0 ∷ []

abbrev pub PA : List ℕ
PA = 1 ∷ 80 ∷ 1 ∷ 65 ∷ 0 ∷ []
