-- `a6::inside::check` meets its contract: each test is one law of the reader.
use Prim.Native.Nat.{ℕ, ◌+◌, ◌-◌}
use mathlib.Core.Path.{◌≡◌, ap, sym, ◌∙◌}
use lib.ListN.{length, take, drop}
use native.Mathlib.Omega.{arith}
use borrow.Author.Rules.{rules}
use borrow.Author.Tests.{eqb-true, eqb-false}
use Rattle.std.specs.Prelude.{Err}
use Rattle.std.proofs.lemmas.Slice.{between_to_end}
use Rattle.octets.specs.Octets.{Small}
use Rattle.octets.proofs.OctetLaws.{small_take, small_drop}
use Rattle.a6.specs.Data.{suffix_octets, prefix_of, suffix_of, after_suffix}
use Rattle.a6.specs.Ending.{name_number, value_from}
use Rattle.a6.specs.Parts.{in_last}
use Rattle.a6.specs.Read.{read_number}
use Rattle.a6.proofs.ReadLaws.{Fronted, read_empty, read_prefix, read_suffix, read_ending, suffix_long, value_parts}
use Rattle.a6.proofs.inside.check.Goals.{Else-rdata-rest}
use Rattle.a6.proofs.inside.check.Goals as goal

pub returns-then-is_empty : goal.returns-then-is_empty
returns-then-is_empty c = (sym (read_empty c.args.rdata.now (eqb-true _ 0 (sym c.is_empty.ensures ∙ c.if-is_empty.true))), tt)

pub returns-then-prefix-gt-LONGEST : goal.returns-then-prefix-gt-LONGEST
returns-then-prefix-gt-LONGEST c = (sym (read_prefix c.args.rdata.now (omega (arith, eqb-false _ 0 (sym c.is_empty.ensures ∙ c.if-is_empty.false))) (omega arith)), tt)

pub returns-then-rdata-rest : goal.returns-then-rdata-rest
returns-then-rdata-rest c =
    (sym (read_suffix c.args.rdata.now (omega (arith, eqb-false _ 0 (sym c.is_empty.ensures ∙ c.if-is_empty.false))) (omega arith) (omega arith)), tt)

-- where these tests are passed, the parts are those of the data
module _ (c : Else-rdata-rest) where
  fronted : Fronted c.args.rdata.now
  fronted = record { some = omega (arith, eqb-false _ 0 (sym c.is_empty.ensures ∙ c.if-is_empty.false)); low = omega arith; long = omega arith }

  suffix : take (1 + c.suffix_octets-rest.result - 1) (drop 1 c.args.rdata.now) ≡ suffix_of c.args.rdata.now
  unfolding suffix_of
  suffix =
      let d = c.args.rdata.now in
      let k : 1 + c.suffix_octets-rest.result - 1 ≡ suffix_octets (prefix_of d) = omega (arith, c.suffix_octets-rest.ensures.0) in
      ap (λ (m : ℕ). take m (drop 1 d)) k

  name : take (length c.args.rdata.now - (1 + c.suffix_octets-rest.result)) (drop (1 + c.suffix_octets-rest.result) c.args.rdata.now) ≡ after_suffix c.args.rdata.now
  unfolding after_suffix
  name = let d = c.args.rdata.now in between_to_end d _ _ (omega arith) ∙ ap (λ (m : ℕ). drop (1 + m) d) c.suffix_octets-rest.ensures.0

  number : name_number (prefix_of c.args.rdata.now) (take (length c.args.rdata.now - (1 + c.suffix_octets-rest.result)) (drop (1 + c.suffix_octets-rest.result) c.args.rdata.now)) ≡ read_number c.args.rdata.now
  number = ap (name_number (prefix_of c.args.rdata.now)) name ∙ sym (read_ending c.args.rdata.now fronted)

pub returns-in_err-standard : goal.returns-in_err-standard
returns-in_err-standard c =
    let r : c.from_residual.result ≡ Err c.in_err-standard.field-0.0 = search rules in
    rw r (c.in_err-standard.ensures.number ∙ number (goal.at.returns-in_err-standard c).Else-rdata-rest, tt)

pub invariant_of-result : goal.invariant_of-result
invariant_of-result c =
    let here = (goal.at.invariant_of-result c).Else-rdata-rest in
    let octets : Small c.args.rdata.now = λ i. omega (arith, c.type_inv.rdata i) in
    record {
      low = omega arith;
      whole = ap length (suffix here) ∙ suffix_long _ (fronted here);
      ended = sym c.in_ok-standard.ensures.number;
      suffix_small = small_take _ _ (small_drop 1 _ octets);
      name_small = small_take _ _ (small_drop (1 + c.suffix_octets-rest.result) _ octets);
      told = c.in_ok-standard.ensures.standard;
    }

pub returns : goal.returns
returns c =
    let here = (goal.at.returns c).Else-rdata-rest in
    (c.in_ok-standard.ensures.number ∙ number here, (λ i. value_from (prefix_of c.args.rdata.now) (in_last (prefix_of c.args.rdata.now) (suffix here i)) (name here i)) ∙ value_parts c.args.rdata.now)
