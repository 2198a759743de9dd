-- Names in text written and read, by computation.
use Prim.Native.Nat.{ℕ, zero, suc}
use mathlib.Core.Path.{◌≡◌, refl}
use mathlib.Core.List.{List, [], ◌∷◌, ◌++◌, map}
use Rattle.nametext.specs.Writing.{text_of}
use Rattle.nametext.specs.Reading.{text_number, name_read}
use Rattle.nametext.proofs.Computing.{nametext_compute}

-- a text, the number that it earns, and the name that it stands for where the number is 0
record Case : Type 0 where
  text : List ℕ
  number : ℕ
  name : List ℕ

-- n times a text
times : ℕ → List ℕ → List ℕ
times zero xs = []
times (suc n) xs = xs ++ times n xs

-- the name where the number is 0, and none else
shown : ℕ → List ℕ → List ℕ
shown zero xs = xs
shown (suc n) xs = []

-- names in standard form, and their texts
written_cases : List Case
unfolding times
written_cases =
    -- \[x3FFE07C0004000090A0020FFFE812B32/128].IP6.ARPA.
    record { text = 92 ∷ 91 ∷ 120 ∷ 51 ∷ 70 ∷ 70 ∷ 69 ∷ 48 ∷ 55 ∷ 67 ∷ 48 ∷ 48 ∷ 48 ∷ 52 ∷ 48 ∷ 48 ∷ 48 ∷ 48 ∷ 57 ∷ 48 ∷ 65 ∷ 48 ∷ 48 ∷ 50 ∷ 48 ∷ 70 ∷ 70 ∷ 70 ∷ 69 ∷ 56 ∷ 49 ∷ 50 ∷ 66 ∷ 51 ∷ 50 ∷ 47 ∷ 49 ∷ 50 ∷ 56 ∷ 93 ∷ 46 ∷ 73 ∷ 80 ∷ 54 ∷ 46 ∷ 65 ∷ 82 ∷ 80 ∷ 65 ∷ 46 ∷ []; number = 0; name = 65 ∷ 128 ∷ 63 ∷ 254 ∷ 7 ∷ 192 ∷ 0 ∷ 64 ∷ 0 ∷ 9 ∷ 10 ∷ 0 ∷ 32 ∷ 255 ∷ 254 ∷ 129 ∷ 43 ∷ 50 ∷ 3 ∷ 73 ∷ 80 ∷ 54 ∷ 4 ∷ 65 ∷ 82 ∷ 80 ∷ 65 ∷ 0 ∷ [] }
    -- .
    ∷ record { text = 46 ∷ []; number = 0; name = 0 ∷ [] }
    -- a-_Z9.b.
    ∷ record { text = 97 ∷ 45 ∷ 95 ∷ 90 ∷ 57 ∷ 46 ∷ 98 ∷ 46 ∷ []; number = 0; name = 5 ∷ 97 ∷ 45 ∷ 95 ∷ 90 ∷ 57 ∷ 1 ∷ 98 ∷ 0 ∷ [] }
    -- a\046\000\255\092.b.
    ∷ record { text = 97 ∷ 92 ∷ 48 ∷ 52 ∷ 54 ∷ 92 ∷ 48 ∷ 48 ∷ 48 ∷ 92 ∷ 50 ∷ 53 ∷ 53 ∷ 92 ∷ 48 ∷ 57 ∷ 50 ∷ 46 ∷ 98 ∷ 46 ∷ []; number = 0; name = 5 ∷ 97 ∷ 46 ∷ 0 ∷ 255 ∷ 92 ∷ 1 ∷ 98 ∷ 0 ∷ [] }
    -- \[xA8/5].
    ∷ record { text = 92 ∷ 91 ∷ 120 ∷ 65 ∷ 56 ∷ 47 ∷ 53 ∷ 93 ∷ 46 ∷ []; number = 0; name = 65 ∷ 5 ∷ 168 ∷ 0 ∷ [] }
    -- \[x8/1].
    ∷ record { text = 92 ∷ 91 ∷ 120 ∷ 56 ∷ 47 ∷ 49 ∷ 93 ∷ 46 ∷ []; number = 0; name = 65 ∷ 1 ∷ 128 ∷ 0 ∷ [] }
    -- \[x0000000000000000000000000000000000000000000000000000000000000001/256].
    ∷ record { text = (92 ∷ 91 ∷ 120 ∷ []) ++ (times 63 (48 ∷ [])) ++ (49 ∷ 47 ∷ 50 ∷ 53 ∷ 54 ∷ 93 ∷ 46 ∷ []); number = 0; name = (65 ∷ []) ++ (times 32 (0 ∷ [])) ++ (1 ∷ 0 ∷ []) }
    -- aaaaaaaaaaaaaaaaaaaaaaaaaaaaaaaaaaaaaaaaaaaaaaaaaaaaaaaaaaaa..
    ∷ record { text = (times 63 (97 ∷ [])) ++ (46 ∷ []) ++ (times 63 (97 ∷ [])) ++ (46 ∷ []) ++ (times 63 (97 ∷ [])) ++ (46 ∷ []) ++ (times 61 (97 ∷ [])) ++ (46 ∷ []); number = 0; name = (63 ∷ []) ++ (times 63 (97 ∷ [])) ++ (63 ∷ []) ++ (times 63 (97 ∷ [])) ++ (63 ∷ []) ++ (times 63 (97 ∷ [])) ++ (61 ∷ []) ++ (times 61 (97 ∷ [])) ++ (0 ∷ []) }
    ∷ []

-- other texts: read only
read_cases : List Case
unfolding times
read_cases =
    -- \[x0A0020FFFE812B32/64].\[x0009/16].\[x3FFE07C00040/48].IP6.ARPA.
    record { text = 92 ∷ 91 ∷ 120 ∷ 48 ∷ 65 ∷ 48 ∷ 48 ∷ 50 ∷ 48 ∷ 70 ∷ 70 ∷ 70 ∷ 69 ∷ 56 ∷ 49 ∷ 50 ∷ 66 ∷ 51 ∷ 50 ∷ 47 ∷ 54 ∷ 52 ∷ 93 ∷ 46 ∷ 92 ∷ 91 ∷ 120 ∷ 48 ∷ 48 ∷ 48 ∷ 57 ∷ 47 ∷ 49 ∷ 54 ∷ 93 ∷ 46 ∷ 92 ∷ 91 ∷ 120 ∷ 51 ∷ 70 ∷ 70 ∷ 69 ∷ 48 ∷ 55 ∷ 67 ∷ 48 ∷ 48 ∷ 48 ∷ 52 ∷ 48 ∷ 47 ∷ 52 ∷ 56 ∷ 93 ∷ 46 ∷ 73 ∷ 80 ∷ 54 ∷ 46 ∷ 65 ∷ 82 ∷ 80 ∷ 65 ∷ 46 ∷ []; number = 0; name = 65 ∷ 128 ∷ 63 ∷ 254 ∷ 7 ∷ 192 ∷ 0 ∷ 64 ∷ 0 ∷ 9 ∷ 10 ∷ 0 ∷ 32 ∷ 255 ∷ 254 ∷ 129 ∷ 43 ∷ 50 ∷ 3 ∷ 73 ∷ 80 ∷ 54 ∷ 4 ∷ 65 ∷ 82 ∷ 80 ∷ 65 ∷ 0 ∷ [] }
    -- \097b.
    ∷ record { text = 92 ∷ 48 ∷ 57 ∷ 55 ∷ 98 ∷ 46 ∷ []; number = 0; name = 2 ∷ 97 ∷ 98 ∷ 0 ∷ [] }
    -- \[xab].c.
    ∷ record { text = 92 ∷ 91 ∷ 120 ∷ 97 ∷ 98 ∷ 93 ∷ 46 ∷ 99 ∷ 46 ∷ []; number = 0; name = 65 ∷ 8 ∷ 171 ∷ 1 ∷ 99 ∷ 0 ∷ [] }
    -- \[xabc].\[x1].
    ∷ record { text = 92 ∷ 91 ∷ 120 ∷ 97 ∷ 98 ∷ 99 ∷ 93 ∷ 46 ∷ 92 ∷ 91 ∷ 120 ∷ 49 ∷ 93 ∷ 46 ∷ []; number = 0; name = 65 ∷ 16 ∷ 26 ∷ 188 ∷ 0 ∷ [] }
    -- nothing
    ∷ record { text = []; number = 20; name = [] }
    -- ..
    ∷ record { text = 46 ∷ 46 ∷ []; number = 20; name = [] }
    -- a
    ∷ record { text = 97 ∷ []; number = 20; name = [] }
    -- a..b.
    ∷ record { text = 97 ∷ 46 ∷ 46 ∷ 98 ∷ 46 ∷ []; number = 20; name = [] }
    -- .a.
    ∷ record { text = 46 ∷ 97 ∷ 46 ∷ []; number = 20; name = [] }
    -- a\.
    ∷ record { text = 97 ∷ 92 ∷ 46 ∷ []; number = 20; name = [] }
    -- a\12.
    ∷ record { text = 97 ∷ 92 ∷ 49 ∷ 50 ∷ 46 ∷ []; number = 20; name = [] }
    -- a b.
    ∷ record { text = 97 ∷ 32 ∷ 98 ∷ 46 ∷ []; number = 20; name = [] }
    -- a\2x6.
    ∷ record { text = 97 ∷ 92 ∷ 50 ∷ 120 ∷ 54 ∷ 46 ∷ []; number = 20; name = [] }
    -- \[x/0].
    ∷ record { text = 92 ∷ 91 ∷ 120 ∷ 47 ∷ 48 ∷ 93 ∷ 46 ∷ []; number = 20; name = [] }
    -- \[x].
    ∷ record { text = 92 ∷ 91 ∷ 120 ∷ 93 ∷ 46 ∷ []; number = 20; name = [] }
    -- \[x12/300].
    ∷ record { text = 92 ∷ 91 ∷ 120 ∷ 49 ∷ 50 ∷ 47 ∷ 51 ∷ 48 ∷ 48 ∷ 93 ∷ 46 ∷ []; number = 20; name = [] }
    -- \[x12/08].
    ∷ record { text = 92 ∷ 91 ∷ 120 ∷ 49 ∷ 50 ∷ 47 ∷ 48 ∷ 56 ∷ 93 ∷ 46 ∷ []; number = 20; name = [] }
    -- \[x123/8].
    ∷ record { text = 92 ∷ 91 ∷ 120 ∷ 49 ∷ 50 ∷ 51 ∷ 47 ∷ 56 ∷ 93 ∷ 46 ∷ []; number = 20; name = [] }
    -- \[x13/7].
    ∷ record { text = 92 ∷ 91 ∷ 120 ∷ 49 ∷ 51 ∷ 47 ∷ 55 ∷ 93 ∷ 46 ∷ []; number = 20; name = [] }
    -- \[xA8/5]a.
    ∷ record { text = 92 ∷ 91 ∷ 120 ∷ 65 ∷ 56 ∷ 47 ∷ 53 ∷ 93 ∷ 97 ∷ 46 ∷ []; number = 20; name = [] }
    -- \[XA8/5].
    ∷ record { text = 92 ∷ 91 ∷ 88 ∷ 65 ∷ 56 ∷ 47 ∷ 53 ∷ 93 ∷ 46 ∷ []; number = 20; name = [] }
    -- a\[xA8/5].
    ∷ record { text = 97 ∷ 92 ∷ 91 ∷ 120 ∷ 65 ∷ 56 ∷ 47 ∷ 53 ∷ 93 ∷ 46 ∷ []; number = 20; name = [] }
    -- \[xA8/5
    ∷ record { text = 92 ∷ 91 ∷ 120 ∷ 65 ∷ 56 ∷ 47 ∷ 53 ∷ []; number = 20; name = [] }
    -- \[xA8/].
    ∷ record { text = 92 ∷ 91 ∷ 120 ∷ 65 ∷ 56 ∷ 47 ∷ 93 ∷ 46 ∷ []; number = 20; name = [] }
    -- @.
    ∷ record { text = 64 ∷ 46 ∷ []; number = 20; name = [] }
    -- \[xA8/5.
    ∷ record { text = 92 ∷ 91 ∷ 120 ∷ 65 ∷ 56 ∷ 47 ∷ 53 ∷ 46 ∷ []; number = 20; name = [] }
    -- \[b1].
    ∷ record { text = 92 ∷ 91 ∷ 98 ∷ 49 ∷ 93 ∷ 46 ∷ []; number = 20; name = [] }
    -- a\256..
    ∷ record { text = 97 ∷ 92 ∷ 50 ∷ 53 ∷ 54 ∷ 46 ∷ 46 ∷ []; number = 20; name = [] }
    -- a\256.
    ∷ record { text = 97 ∷ 92 ∷ 50 ∷ 53 ∷ 54 ∷ 46 ∷ []; number = 21; name = [] }
    -- \999.
    ∷ record { text = 92 ∷ 57 ∷ 57 ∷ 57 ∷ 46 ∷ []; number = 21; name = [] }
    -- \[x00000000000000000000000000000000000000000000000000000000000000000].
    ∷ record { text = (92 ∷ 91 ∷ 120 ∷ []) ++ (times 65 (48 ∷ [])) ++ (93 ∷ 46 ∷ []); number = 21; name = [] }
    -- \[x00000000000000000000000000000000000000000000000000000000000000000/260].
    ∷ record { text = (92 ∷ 91 ∷ 120 ∷ []) ++ (times 65 (48 ∷ [])) ++ (47 ∷ 50 ∷ 54 ∷ 48 ∷ 93 ∷ 46 ∷ []); number = 21; name = [] }
    -- \256.aaaaaaaaaaaaaaaaaaaaaaaaaaaaaaaaaaaaaaaaaaaaaaaaaaaaaaaaaaaaaaaa.
    ∷ record { text = (92 ∷ 50 ∷ 53 ∷ 54 ∷ 46 ∷ []) ++ (times 64 (97 ∷ [])) ++ (46 ∷ []); number = 21; name = [] }
    -- aaaaaaaaaaaaaaaaaaaaaaaaaaaaaaaaaaaaaaaaaaaaaaaaaaaaaaaaaaaaaaaa.
    ∷ record { text = (times 64 (97 ∷ [])) ++ (46 ∷ []); number = 22; name = [] }
    -- \[x0000000000000000000000000000000000000000000000000000000000000000].\[x8/1].
    ∷ record { text = (92 ∷ 91 ∷ 120 ∷ []) ++ (times 64 (48 ∷ [])) ++ (93 ∷ 46 ∷ 92 ∷ 91 ∷ 120 ∷ 56 ∷ 47 ∷ 49 ∷ 93 ∷ 46 ∷ []); number = 22; name = [] }
    -- aaaaaaaaaaaaaaaaaaaaaaaaaaaaaaaaaaaaaaaaaaaaaaaaaaaaaaaaaaaa..
    ∷ record { text = (times 63 (97 ∷ [])) ++ (46 ∷ []) ++ (times 63 (97 ∷ [])) ++ (46 ∷ []) ++ (times 63 (97 ∷ [])) ++ (46 ∷ []) ++ (times 62 (97 ∷ [])) ++ (46 ∷ []); number = 22; name = [] }
    -- \[x8/1].\[x8/1].\[x8/1].\[x8/1].\[x8/1].\[x8/1].\[x8/1].\[x8..
    ∷ record { text = times 256 (92 ∷ 91 ∷ 120 ∷ 56 ∷ 47 ∷ 49 ∷ 93 ∷ 46 ∷ []); number = 0; name = (65 ∷ 0 ∷ []) ++ (times 32 (255 ∷ [])) ++ (0 ∷ []) }
    ∷ []

written : map (λ (c : Case). text_of c.name) written_cases ≡ map (λ (c : Case). c.text) written_cases
unfolding nametext_compute written_cases
written = refl

numbers : map (λ (c : Case). text_number c.text) (written_cases ++ read_cases) ≡ map (λ (c : Case). c.number) (written_cases ++ read_cases)
unfolding nametext_compute written_cases read_cases
numbers = refl

names : map (λ (c : Case). shown (text_number c.text) (name_read c.text)) (written_cases ++ read_cases) ≡ map (λ (c : Case). c.name) (written_cases ++ read_cases)
unfolding nametext_compute written_cases read_cases shown
names = refl
