-- How long a line can be (T-06).
use Prim.Native.Nat.{ℕ, zero, suc, ◌+◌, ◌*◌, ◌≤◌, ◌<◌}
use mathlib.Core.Path.{◌∙◌, ◌≡◌, refl}
use mathlib.Core.Bool.{Bool, true, false}
use mathlib.Core.List.{List, [], ◌∷◌, ◌++◌}
use lib.Dec.{ltb, eqb}
use lib.ListN.{length, get_or, replicate, length-append}
use native.Mathlib.Omega.{arith}
use borrow.Author.Tests.{ltb-true, ltb-false, eqb-true, eqb-false}
use Rattle.octets.specs.Octets.{blank, Small}
use Rattle.octets.proofs.BoolLaws.{clash}
use Rattle.octets.proofs.SmallLaws.{small_cons, small_append, small_blank}
use Rattle.names.specs.declared.Name.{Name}
use Rattle.names.specs.Name.{name_of}
use Rattle.names.proofs.StandardLaws.{in_standard}
use Rattle.address.specs.Address.{clear_to}
use Rattle.address.proofs.ClearLaws.{clear_split}
use Rattle.plan.specs.declared.inside.Fields.{Fields}
use Rattle.chains.specs.Graph.{max_ttl}
use Rattle.plan.specs.Fields.{one_a6, fields_of, a6_record, HoldsName, SoundFields}
use Rattle.plan.proofs.FieldLaws.{fields_sound, sound_one, record_small}
use Rattle.text.specs.Groups.{groups_of}
use Rattle.text.specs.Decimal.{write_decimal}
use Rattle.text.specs.AddressText.{write_address}
use Rattle.text.proofs.DecimalLaws.{decimal_few}
use Rattle.text.proofs.TextLaws.{address_length, address_short}
use Rattle.nametext.specs.Writing.{text_of}
use Rattle.nametext.proofs.SizeLaws.{text_short}
use Rattle.line.specs.Writing.{line_of}
use Rattle.line.specs.Longest.{longest_line}
use Rattle.line.specs.FieldText.{held_octets, target_field, fields_text}
use Rattle.line.proofs.Computing.{lines_compute}
use Rattle.line.proofs.WritingLaws.{octets_held, field_none, field_some, fields_line}

-- how long each piece can be
held_text_short : (n : Name) → HoldsName n → length (text_of (held_octets n)) ≤ 1004
held_text_short n h = rw (octets_held n h) (text_short h.name h.small (in_standard h.name h.formed).0)

-- an address whose first eight bits are zero has a first group below 256: two digits at most
group_low : (n : ℕ) (a : List ℕ) → length a ≡ 16 → Small a → 8 ≤ n → clear_to n a ≡ true → get_or (groups_of a) 0 0 < 256
unfolding groups_of
group_low n [] l s h c = omega arith
group_low n (x ∷ []) l s h c = omega arith
group_low n (x ∷ y ∷ rest) l s h c = go (eqb x 0) refl
  where
    go : (b : Bool) → eqb x 0 ≡ b → x * 256 + y < 256
    go true e = let z = eqb-true x 0 e in omega (arith, s 1)
    go false e = absurd (clash c (clear_split n 1 (x ∷ y ∷ rest) s (omega arith) ∙ rw e))

-- the prefix length and the address together: the longer the one, the more bits of the other are zero
middle_short : (f : Fields) → SoundFields f → length (write_decimal f.prefix) + length (write_address f.address) ≤ 40
middle_short f w = go (ltb f.prefix 10) refl
  where
    go : (b : Bool) → ltb f.prefix 10 ≡ b → length (write_decimal f.prefix) + length (write_address f.address) ≤ 40
    go true e =
        let p = decimal_few f.prefix 0 (ltb-true f.prefix 10 e) in
        let a = address_length f.address w.size w.small in
        omega arith
    go false e =
        let h = ltb-false f.prefix 10 e in
        let p = decimal_few f.prefix 2 (omega (arith, w.prefix)) in
        let a = address_short f.address w.size w.small (group_low f.prefix f.address w.size w.small (omega arith) w.clear) in
        omega arith

target_short : (f : Fields) → SoundFields f → length (target_field f.prefix f.target) ≤ 1005
target_short f w = go (eqb f.prefix 0) refl
  where
    go : (b : Bool) → eqb f.prefix 0 ≡ b → length (target_field f.prefix f.target) ≤ 1005
    go true e = rw (field_none f.prefix f.target (eqb-true f.prefix 0 e)) (omega arith)
    go false e = let z = eqb-false f.prefix 0 e in rw (field_some f.prefix f.target z) (omega (arith, held_text_short f.target (w.target z)))

-- the pieces of a line
pub record Short (f : Fields) : Type 0 where
  pub owner : length (text_of (held_octets f.owner)) ≤ 1004
  pub ttl : length (write_decimal f.ttl) ≤ 10
  pub middle : length (write_decimal f.prefix) + length (write_address f.address) ≤ 40
  pub target : length (target_field f.prefix f.target) ≤ 1005

pub pieces_short : (f : Fields) → SoundFields f → Short f
pieces_short f w = record { owner = held_text_short f.owner w.owner; ttl = decimal_few f.ttl 9 (omega (arith, w.lived)); middle = middle_short f w; target = target_short f w }

fields_short : (f : Fields) → SoundFields f → length (fields_text f) ≤ longest_line
unfolding fields_text
fields_short f w =
    let s = pieces_short f w in
    let T = target_field f.prefix f.target ++ (10 ∷ []) in
    let A = write_address f.address ++ T in
    let P = write_decimal f.prefix ++ (32 ∷ A) in
    let L = write_decimal f.ttl ++ (32 ∷ 65 ∷ 54 ∷ 32 ∷ P) in
    let t = length-append (target_field f.prefix f.target) (10 ∷ []) in
    let a = length-append (write_address f.address) T in
    let p = length-append (write_decimal f.prefix) (32 ∷ A) in
    let l = length-append (write_decimal f.ttl) (32 ∷ 65 ∷ 54 ∷ 32 ∷ P) in
    let o = length-append (text_of (held_octets f.owner)) (32 ∷ L) in
    omega (arith, s.owner, s.ttl, s.middle, s.target)

-- Theorem: the line of one A6 record in order has at most 2,066 octets
pub line_short : (r : List ℕ) → one_a6 r ≡ true → Small r → length (line_of r) ≤ longest_line
line_short r o s = rw (← fields_line r) (fields_short (fields_of r) (fields_sound r o s))

-- ---- a line of that length: two names of 255 octets whose labels are zeros, all escaped, a TTL of ten digits, a prefix length of one digit, and eight groups of four digits
long_name : List ℕ
long_name = 63 ∷ (blank 63 ++ (63 ∷ (blank 63 ++ (63 ∷ (blank 63 ++ (61 ∷ (blank 61 ++ (0 ∷ []))))))))

ones : ℕ → List ℕ
ones n = replicate n 255

long_fields : Fields
long_fields = record { prefix = 1; address = 127 ∷ ones 15; owner = name_of long_name; target = name_of long_name; ttl = max_ttl }

label_small : (n : ℕ) (xs : List ℕ) → n < 256 → Small xs → Small (n ∷ (blank n ++ xs))
label_small n xs h s = small_cons n (blank n ++ xs) h (small_append (blank n) xs (small_blank n) s)

name_small : Small long_name
unfolding long_name
name_small =
    label_small 63 _ (omega arith) (label_small 63 _ (omega arith) (label_small 63 _ (omega arith) (label_small 61 _ (omega arith) (small_cons 0 [] (omega arith) (λ i. omega arith)))))

ones_small : (n : ℕ) → Small (ones n)
unfolding ones
ones_small zero i = omega arith
ones_small (suc n) i = small_cons 255 (ones n) (omega arith) (ones_small n) i

long_held : HoldsName (name_of long_name)
unfolding lines_compute long_name
long_held = record { name = long_name; formed = refl; small = name_small; held = refl }

long_sound : SoundFields long_fields
unfolding lines_compute long_fields ones
long_sound =
    record {
      prefix = omega arith;
      size = refl;
      small = small_cons 127 (ones 15) (omega arith) (ones_small 15);
      clear = refl;
      owner = long_held;
      target = λ z. long_held;
      none = λ z. let y : ⊥ = omega arith in absurd y;
      lived = omega arith;
    }

long_line : length (line_of (a6_record long_fields)) ≡ longest_line
unfolding lines_compute long_name long_fields ones
long_line = refl

-- Theorem: some record in order has a line of 2,066 octets
pub longest_reached : (r : List ℕ) × (one_a6 r ≡ true) × Small r × (length (line_of r) ≡ longest_line)
longest_reached = (a6_record long_fields, sound_one long_fields long_sound, record_small long_fields long_sound, long_line)
