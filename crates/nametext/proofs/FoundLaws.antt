-- A name's text in a line, before something that may not stand in a name, is found there when read.
use Prim.Native.Nat.{ℕ, ◌+◌}
use mathlib.Core.Path.{◌≡◌, ap, ◌∙◌}
use mathlib.Core.Bool.{true}
use mathlib.Core.List.{List, ◌++◌}
use lib.ListN.{length}
use lib.Seq.{take-append_seam, drop-append_seam}
use native.Mathlib.Omega.{arith}
use Rattle.std.specs.Prelude.{Ok}
use Rattle.octets.specs.Octets.{Small}
use Rattle.names.specs.Standard.{in_standard_form}
use Rattle.names.specs.Name.{name_of}
use Rattle.text.specs.Digits.{leading}
use Rattle.nametext.specs.declared.reading.Named.{Named}
use Rattle.nametext.specs.Characters.{may_name}
use Rattle.nametext.specs.Writing.{text_of}
use Rattle.nametext.specs.Reading.{text_number, name_part, name_told, name_at}
use Rattle.nametext.proofs.NumberLaws.{told_name}
use Rattle.nametext.proofs.RoundLaws.{read_name, read_number_lem}
use Rattle.nametext.proofs.MayLaws.{formed_may}

-- a text that has the form of a name
pub text_found : (before text rest : List ℕ) → (text_number text ≡ 20 → ⊥) → leading may_name rest ≡ 0
    → ◌≡◌ {A = Named} (name_at (before ++ (text ++ rest)) (length before)) (record { name = name_told text; next = length before + length text })
unfolding name_at name_part
text_found before text rest n z =
    let d = drop-append_seam before (text ++ rest) in
    rw (d, formed_may text n rest z, take-append_seam text rest)

-- the text that was written of a name in standard form
pub name_found_lem : (before name rest : List ℕ) → Small name → in_standard_form name ≡ true → leading may_name rest ≡ 0
    → ◌≡◌ {A = Named} (name_at (before ++ (text_of name ++ rest)) (length before)) (record { name = Ok (name_of name); next = length before + length (text_of name) })
name_found_lem before name rest s h z =
    let e = read_number_lem name s h in
    let n : name_told (text_of name) ≡ Ok (name_of name) = told_name (text_of name) e ∙ ap (λ (m : List ℕ). Ok (name_of m)) (read_name name s h) in
    text_found before (text_of name) rest (λ k. omega arith) z ∙ (λ i. record { name = n i; next = length before + length (text_of name) })
