-- Laws of keys: those of octets, of labels and units, and of names.
use Prim.Native.Nat.{ℕ, zero, suc, ◌+◌, ◌-◌, ◌%◌, ◌≤◌}
use mathlib.Core.Path.{◌≡◌, refl, ap, ap₂, ◌∙◌, sym}
use mathlib.Core.Bool.{Bool, true, false, not}
use mathlib.Core.List.{List, [], ◌∷◌, ◌++◌, map}
use lib.Dec.{eqb}
use lib.ListN.{length, get_or, length-map}
use native.Mathlib.Omega.{arith}
use borrow.Author.Tests.{eq-eqb, ne_eqb}
use Rattle.octets.specs.Octets.{same, Small}
use Rattle.bits.specs.Bits.{octets_for, pack}
use Rattle.bits.proofs.PackingLaws.{pack_length}
use Rattle.labels.specs.Labels.{Label, ordinary, bits, count_for, count_of, size_of}
use Rattle.labels.specs.Scan.{Reading, scan_of, labels_of, apart, well_formed}
use Rattle.labels.proofs.LabelLaws.{size_bits}
use Rattle.names.specs.Standard.{Unit, label, bit, before, units, units_of, encode, standard_of, lower, key_unit, keys, key_of, Same, same_name, in_standard_form}
use Rattle.names.specs.Keys.{octet_key, key_from, key_octets}
use Rattle.names.proofs.Written.{write_label, written}
use Rattle.names.proofs.Merged.{merged, AllFit}
use Rattle.names.proofs.WriteLaws.{encode_written, bit_label_some, well_reads}
use Rattle.names.proofs.RoundLaws.{merged_written, merged_units, merged_apart, fit_merged, count_again, scan_written, standard_shorter}
use Rattle.names.proofs.MergeLaws.{reads_end}
use Rattle.names.proofs.StandardLaws.{in_standard, same_name_same, same_same_name}
use Rattle.names.proofs.LowerLaws.{lower_twice}

-- ---- octets

-- octets and their keys count alike
key_lower : (b : Bool) (x : ℕ) → lower (octet_key b x) ≡ lower x
unfolding octet_key
key_lower true x = lower_twice x
key_lower false x = refl

keys_lower : (b : Bool) (k : ℕ) (xs : List ℕ) → map lower (key_from b k xs) ≡ map lower xs
unfolding key_from
keys_lower b k [] = refl
keys_lower b (suc k) (x ∷ xs) = ap₂ (λ (y : ℕ) (ys : List ℕ). y ∷ ys) (key_lower b x) (keys_lower b k xs)
keys_lower b zero (x ∷ xs) = ap (λ (ys : List ℕ). lower x ∷ ys) (keys_lower (not (eqb x 65)) (size_of (x ∷ xs) - 1) xs)

pub octets_lower : (xs : List ℕ) → map lower (key_octets xs) ≡ map lower xs
unfolding key_octets
octets_lower xs = keys_lower false 0 xs

pub keys_lowered : (a b : List ℕ) → key_octets a ≡ key_octets b → map lower a ≡ map lower b
keys_lowered a b e = sym (octets_lower a) ∙ ap (map lower) e ∙ octets_lower b

pub keys_length : (xs : List ℕ) → length (key_octets xs) ≡ length xs
keys_length xs = sym (length-map (key_octets xs) lower) ∙ ap length (octets_lower xs) ∙ length-map xs lower

-- where a label begins, what came before does not count
pub key_begins : (b : Bool) (xs : List ℕ) → key_from b 0 xs ≡ key_octets xs
unfolding key_octets key_from
key_begins b [] = refl
key_begins b (x ∷ xs) = refl

-- an ordinary label, and a bit label
size_other : (x : ℕ) (xs : List ℕ) → (x ≡ 65 → ⊥) → size_of (x ∷ xs) - 1 ≡ x
unfolding size_of
size_other x xs h = rw (size_of, ne_eqb x 65 h) (omega arith)

pub begins_ordinary : (x : ℕ) (xs : List ℕ) → (x ≡ 65 → ⊥) → key_octets (x ∷ xs) ≡ x ∷ key_from true x xs
unfolding key_octets key_from
begins_ordinary x xs h = rw (size_other x xs h, ne_eqb x 65 h)

-- the octets of a bit label after its first, by what begins with its count octet
abbrev pub bit_size : List ℕ → ℕ
bit_size xs = 1 + octets_for (count_for (get_or xs 0 0))

size_count : (x : ℕ) (xs : List ℕ) → x ≡ 65 → size_of (x ∷ xs) - 1 ≡ bit_size xs
unfolding count_of
size_count x xs h = let z = size_bits (x ∷ xs) h in omega arith

pub begins_bits : (x : ℕ) (xs : List ℕ) → x ≡ 65 → key_octets (x ∷ xs) ≡ x ∷ key_from false (bit_size xs) xs
unfolding key_octets key_from
begins_bits x xs h = rw (size_count x xs h, eq-eqb x 65 h)

key_ordinary : (l xs : List ℕ) → key_from true (length l) (l ++ xs) ≡ map lower l ++ key_octets xs
unfolding key_from octet_key
key_ordinary [] xs = key_begins true xs
key_ordinary (x ∷ l) xs = ap (λ (ys : List ℕ). lower x ∷ ys) (key_ordinary l xs)

key_bits : (l xs : List ℕ) → key_from false (length l) (l ++ xs) ≡ l ++ key_octets xs
unfolding key_from octet_key
key_bits [] xs = key_begins false xs
key_bits (x ∷ l) xs = ap (λ (ys : List ℕ). x ∷ ys) (key_bits l xs)

-- ---- labels
unfoldable pub key_label : Label → Label
key_label (ordinary l) = ordinary (map lower l)
key_label (bits b) = bits b

pub key_before : (b : List ℕ) (us : List Unit) → keys (before b us) ≡ before b (keys us)
unfolding before key_unit
key_before [] us = refl
key_before (x ∷ b) us = key_before b (bit x ∷ us)

key_units : (ls : List Label) → units (map key_label ls) ≡ keys (units ls)
unfolding units key_label key_unit
key_units [] = refl
key_units (ordinary l ∷ ls) = ap (λ (us : List Unit). label (map lower l) ∷ us) (key_units ls)
key_units (bits b ∷ ls) = ap (before b) (key_units ls) ∙ sym (key_before b (units ls))

key_apart : (after : Bool) (ls : List Label) → apart after (map key_label ls) ≡ apart after ls
unfolding apart key_label
key_apart after [] = refl
key_apart after (ordinary l ∷ ls) = key_apart false ls
key_apart true (bits b ∷ ls) = refl
key_apart false (bits b ∷ ls) = key_apart true ls

key_fit : (ls : List Label) → AllFit ls → AllFit (map key_label ls)
unfolding key_label
key_fit [] f = record {}
key_fit (ordinary l ∷ ls) f = let n = length-map l lower in ((omega (arith, f.0.0), omega (arith, f.0.1)), key_fit ls f.1)
key_fit (bits b ∷ ls) f = (f.0, key_fit ls f.1)

-- labels written out: their keys are the keys of the labels written out
key_written : (ls : List Label) → AllFit ls → key_octets (written ls) ≡ written (map key_label ls)
unfolding written write_label key_label key_from
key_written [] f = begins_ordinary 0 [] (λ e. omega arith)
key_written (ordinary l ∷ ls) f =
    let n = length-map l lower in
    rw (begins_ordinary (length l) (l ++ written ls) (λ e. omega (arith, f.0.1)), n)
    (ap (λ (ys : List ℕ). length l ∷ ys) (key_ordinary l (written ls) ∙ ap (λ (ys : List ℕ). map lower l ++ ys) (key_written ls f.1)))
key_written (bits b ∷ ls) f =
    let n = length b in
    let xs = n % 256 ∷ pack b in
    let w = bit_label_some b f.0.0 in
    let p : length xs ≡ bit_size (xs ++ written ls) = rw (count_again n f.0.0 f.0.1) (omega (arith, pack_length b)) in
    rw (w, begins_bits 65 (xs ++ written ls) refl, ← p)
    (ap (λ (ys : List ℕ). 65 ∷ ys) (key_bits xs (written ls) ∙ ap (λ (ys : List ℕ). xs ++ ys) (key_written ls f.1)))

-- labels of a standard form
module _ (ls : List Label) (f : AllFit ls) (a : apart false ls ≡ true) where
  -- Theorem: the keys of the octets are the keys of the units in standard form
  pub keys_encode : key_octets (written ls) ≡ encode (keys (units ls))
  keys_encode = key_written ls f ∙ sym (encode_written (map key_label ls) (key_apart false ls ∙ a)) ∙ ap encode (key_units ls)

  -- and the keys of the units are read back from them
  pub keys_read : length (written ls) ≤ 255 → units_of (key_octets (written ls)) ≡ keys (units ls)
  unfolding units_of scan_of labels_of
  keys_read h =
      let ks = map key_label ls in
      let e = key_written ls f in
      let n : length (written ks) ≡ length (written ls) = ap length (sym e) ∙ keys_length (written ls) in
      ap units_of e ∙ ap (λ (r : Reading). units (labels_of r)) (scan_written false 0 0 ks (key_fit ls f) (key_apart false ls ∙ a) (λ q. refl) (omega arith)) ∙ key_units ls

-- ---- names

-- the labels of a standard form
module _ (m : List ℕ) (w : well_formed m ≡ true) where
  merges : List Label
  merges = merged [] (labels_of (scan_of m))

  merges_fit : AllFit merges
  unfolding merges
  merges_fit = fit_merged (well_reads m w) [] (λ i. omega arith) refl (omega arith)

  merges_written : standard_of m ≡ written merges
  unfolding merges standard_of units_of encode
  merges_written = sym (merged_written [] (labels_of (scan_of m)))

  merges_units : units merges ≡ units_of m
  unfolding merges units_of before
  merges_units = merged_units [] (labels_of (scan_of m))

  merges_apart : apart false merges ≡ true
  unfolding merges
  merges_apart = merged_apart [] (labels_of (scan_of m))

  -- Theorem: the key of a name is read off its standard form
  pub key_standard : key_octets (standard_of m) ≡ key_of m
  unfolding key_of
  key_standard = ap key_octets merges_written ∙ keys_encode merges merges_fit merges_apart ∙ ap (λ (us : List Unit). encode (keys us)) merges_units

  -- Theorem: from the key of a name the keys of its units are read back
  pub key_back : Small m → units_of (key_of m) ≡ keys (units_of m)
  key_back s =
      let l : length (written merges) ≤ 255 = omega (arith, ap length merges_written, standard_shorter m s w, (reads_end (well_reads m w)).1) in
      ap units_of (sym key_standard ∙ ap key_octets merges_written) ∙ keys_read merges merges_fit merges_apart l ∙ ap keys merges_units

-- Theorem: the key of a name in standard form is read off its octets
pub key_octets_lem : (m : List ℕ) → in_standard_form m ≡ true → key_octets m ≡ key_of m
key_octets_lem m h = let p = in_standard m h in ap key_octets (sym p.1) ∙ key_standard m p.0

-- Theorem: names in standard form are the same name exactly when the keys of their octets are the same
pub same_keys_lem : (m n : List ℕ) → in_standard_form m ≡ true → in_standard_form n ≡ true → same (key_octets m) (key_octets n) ≡ same_name m n
unfolding same_name
same_keys_lem m n p q = rw (key_octets_lem m p, key_octets_lem n q)

-- Theorem: names in standard form that are the same have octets that count alike, one by one; so they have the same length
pub same_lowered : (m n : List ℕ) → in_standard_form m ≡ true → in_standard_form n ≡ true → same_name m n ≡ true → map lower m ≡ map lower n
same_lowered m n p q h = keys_lowered m n (key_octets_lem m p ∙ same_name_same m n h ∙ sym (key_octets_lem n q))

-- Theorem: names in standard form of different lengths are not the same
pub same_lengths : (m n : List ℕ) → in_standard_form m ≡ true → in_standard_form n ≡ true → Same m n → length m ≡ length n
same_lengths m n p q h = sym (length-map m lower) ∙ ap length (same_lowered m n p q (same_same_name m n h)) ∙ length-map n lower

-- Theorem: well-formed names are the same exactly when the keys of their units are
pub same_units_lem : (m n : List ℕ) → Small m → Small n → well_formed m ≡ true → well_formed n ≡ true → Same m n → keys (units_of m) ≡ keys (units_of n)
same_units_lem m n s t u v h = sym (key_back m u s) ∙ ap units_of h ∙ key_back n v t

pub keys_same : (m n : List ℕ) → keys (units_of m) ≡ keys (units_of n) → Same m n
unfolding key_of
keys_same m n h = ap encode h

-- Theorem: names that have one standard form, the same names of 01, are the same: nothing that was equal before letters counted alike is lost
pub standard_same : (m n : List ℕ) → well_formed m ≡ true → well_formed n ≡ true → standard_of m ≡ standard_of n → Same m n
standard_same m n u v h = sym (key_standard m u) ∙ ap key_octets h ∙ key_standard n v

-- Theorem: the key of a unit is its own key
pub key_twice : (u : Unit) → key_unit (key_unit u) ≡ key_unit u
unfolding key_unit
key_twice (label l) = ap label (all l)
  where
    all : (xs : List ℕ) → map lower (map lower xs) ≡ map lower xs
    all [] = refl
    all (x ∷ xs) = ap₂ (λ (y : ℕ) (ys : List ℕ). y ∷ ys) (lower_twice x) (all xs)
key_twice (bit b) = refl
