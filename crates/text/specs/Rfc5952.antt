-- What RFC 5952 asks of the text of an address, said of the text: rules that a text keeps or breaks, and nothing that writes one.
use Rattle.std.specs.Prelude.{ℕ, zero, suc, ◌≤◌, ◌<◌, ◌≡◌, List, [], ◌∷◌, ◌++◌, map, length, get_or, take, drop}
use Rattle.octets.specs.Octets.{blank}
use Rattle.text.specs.Digits.{number_from, digit_in}
use Rattle.text.specs.Groups.{groups_of}

-- each member of a list is so
abbrev pub Every : {A : Type 0} → (A → Type 0) → List A → Type 0
Every P [] = Unit
Every P (x ∷ xs) = P x × Every P xs

-- Section 4.1. One group as it is written: one to four hexadecimal digits, and a zero in front only where it is the one digit.
pub record IsGroup (digits : List ℕ) : Type 0 where
  pub some : 1 ≤ length digits
  pub few : length digits ≤ 4
  pub digit : Every (λ c. digit_in c < 16) digits
  pub lead : get_or digits 0 0 ≡ 48 → length digits ≡ 1

-- the group that digits write
unfoldable pub group_of : List ℕ → ℕ
group_of digits = number_from 16 0 (map digit_in digits)

-- written groups parted by colons
unfoldable pub parted : List (List ℕ) → List ℕ
parted [] = []
parted (g ∷ []) = g
parted (g ∷ h ∷ gs) = g ++ (58 ∷ parted (h ∷ gs))

-- written groups where n groups between them are left out: two colons stand there, and where none is left out they do not
unfoldable pub shortened : List (List ℕ) → ℕ → List (List ℕ) → List ℕ
shortened before zero after = parted (before ++ after)
shortened before (suc n) after = parted before ++ (58 ∷ 58 ∷ parted after)

-- n zero groups stand from place i on
abbrev pub ZerosAt : List ℕ → ℕ → ℕ → Type 0
ZerosAt gs i n = take n (drop i gs) ≡ blank n

-- a text of an address keeps the rules
pub record Rfc5952 (address text : List ℕ) : Type 0 where
  -- the groups as they are written on the left of two colons and on the right, and how many the colons stand for; 0 where there are no two colons
  pub before : List (List ℕ)
  pub count : ℕ
  pub after : List (List ℕ)
  -- the text is these groups, colons between them, and no more
  pub form : text ≡ shortened before count after
  -- they are those of the address, with zeros for the groups that are left out
  pub groups : map group_of before ++ (blank count ++ map group_of after) ≡ groups_of address
  -- section 4.1: no group has a leading zero
  pub leading : Every IsGroup before × Every IsGroup after
  -- section 4.2.1: two colons shorten as much as they can, and section 4.2.3: the longest run. No run of two or more zero groups is longer than what they stand for.
  pub longest : (i n : ℕ) → 2 ≤ n → ZerosAt (groups_of address) i n → n ≤ count
  -- section 4.2.2: they never stand for one group
  pub several : count ≡ 1 → ⊥
  -- section 4.2.3: of runs that are equally long they stand for the leftmost
  pub leftmost : (i n : ℕ) → 2 ≤ n → ZerosAt (groups_of address) i n → n ≡ count → length before ≤ i
  -- section 4.3: no capital letter
  pub lower : Every (λ c. 65 ≤ c → c ≤ 90 → ⊥) text
  -- T-06: no dotted quad, also where section 5 would have one
  pub undotted : Every (λ c. c ≡ 46 → ⊥) text
