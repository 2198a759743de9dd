-- A6 data as a layout (01, A6 data): what holds in every layout holds of it.
use Prim.Native.Nat.{ℕ, ◌<◌}
use mathlib.Core.Path.{◌≡◌, ap}
use Rattle.std.specs.Prelude.{Err}
use mathlib.Core.List.{List, [], ◌∷◌}
use native.Mathlib.Omega.{arith}
use Rattle.octets.specs.declared.Refusal.TheVariants.{Prefix}
use Rattle.octets.proofs.RefusalLaws.{told_code}
use Rattle.a6.specs.Ending.{reading_for}
use Rattle.a6.specs.Read.{read_number, value_of, read_of}
use Rattle.a6.specs.Write.{data_of}
use Rattle.a6.specs.Standard.{standard_data}
use Rattle.a6.proofs.ReadLaws.{readable, read_prefix}
use Rattle.a6.proofs.Layouts.{Layout}
use Rattle.a6.proofs.DataLaws.{value_shaped, value_writable, value_data, data_small, written_number, written_value}

abbrev pub a6_layout : Layout
a6_layout =
    record {
      number = read_number;
      value = value_of;
      written = data_of;
      standard = standard_data;
      read_writable = λ octets s e. let r = readable octets e in value_writable octets s r.0 r.1;
      read_shaped = λ octets s e. let r = readable octets e in value_shaped octets s r.0 r.1;
      read_written = λ octets s e. let r = readable octets e in value_data octets s r.0 r.1;
      written_number = λ v s w. written_number v s.address_long w;
      written_value = λ v s w. written_value v s.address_long w s;
      written_small = data_small;
    }

-- Theorem: a prefix length over 128 is 10 whatever follows it
pub prefix_over : (l : ℕ) (rest : List ℕ) → 128 < l → (read_of (l ∷ rest) ≡ read_of (l ∷ [])) × (read_of (l ∷ rest) ≡ Err Prefix)
unfolding reading_for
prefix_over l rest h =
    let p = read_prefix (l ∷ rest) (omega arith) h in
    let q = read_prefix (l ∷ []) (omega arith) h in
    (rw (p, q), rw p (ap Err (told_code Prefix)))
