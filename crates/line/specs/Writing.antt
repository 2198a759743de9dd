-- A record written as a line (T-06): owner, TTL, A6, prefix length, address and, unless the length is 0, target, parted by one space, and octet 10.
use Rattle.std.specs.Prelude.{ℕ, true, false, List, [], ◌∷◌, ◌++◌, eqb}
use Rattle.plan.specs.Layout.{prefix_of, address_of, ttl_of, owner_of, target_of}
use Rattle.text.specs.Decimal.{write_decimal}
use Rattle.text.specs.AddressText.{write_address}
use Rattle.nametext.specs.Writing.{text_of}

-- the word A6
abbrev pub a6_word : List ℕ
a6_word = 65 ∷ 54 ∷ []

-- a space, and the target; nothing at prefix length 0
unfoldable pub target_text : List ℕ → List ℕ
target_text r = elim (eqb (prefix_of r) 0) [ true ↦ [] | false ↦ 32 ∷ text_of (target_of r) ]

-- the line of a record
unfoldable pub line_of : List ℕ → List ℕ
line_of r =
    text_of (owner_of r)
    ++ (32 ∷ (write_decimal (ttl_of r)
    ++ (32 ∷ (a6_word
    ++ (32 ∷ (write_decimal (prefix_of r)
    ++ (32 ∷ (write_address (address_of r)
    ++ (target_text r ++ (10 ∷ []))))))))))
