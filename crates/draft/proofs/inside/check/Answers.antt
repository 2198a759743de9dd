-- `draft::inside::check` meets its contract: each test is one law of the reader.
use Prim.Native.Nat.{◌-◌}
use mathlib.Core.Path.{◌≡◌, ap, sym, ◌∙◌}
use lib.ListN.{length, take, drop}
use native.Mathlib.Omega.{arith}
use borrow.Author.Rules.{rules}
use Rattle.std.specs.Prelude.{Err}
use Rattle.std.proofs.lemmas.Slice.{between_to_end}
use Rattle.octets.specs.Octets.{Small}
use Rattle.octets.proofs.OctetLaws.{small_take, small_drop}
use Rattle.a6.specs.Ending.{name_number, value_from}
use Rattle.a6.specs.Parts.{in_last}
use Rattle.draft.specs.Layout.{prefix_part, rest_part}
use Rattle.draft.specs.Read.{draft_number}
use Rattle.draft.proofs.ReadLaws.{Fronted, read_short, read_prefix, read_ending, last_long, value_parts}
use Rattle.draft.proofs.inside.check.Goals.{Else-prefix-gt-LONGEST}
use Rattle.draft.proofs.inside.check.Goals as goal

-- where the first two tests are passed, the name is all that is left
module _ (c : Else-prefix-gt-LONGEST) where
  fronted : Fronted c.args.rdata.now
  fronted = record { long = omega arith; low = omega arith }

  name : take (length c.args.rdata.now - 17) (drop 17 c.args.rdata.now) ≡ drop 17 c.args.rdata.now
  name = between_to_end c.args.rdata.now _ _ (omega arith)

  number : name_number (prefix_part c.args.rdata.now) (take (length c.args.rdata.now - 17) (drop 17 c.args.rdata.now)) ≡ draft_number c.args.rdata.now
  unfolding rest_part
  number = ap (name_number (prefix_part c.args.rdata.now)) name ∙ sym (read_ending c.args.rdata.now fronted)

pub returns-then-rdata-lt-FRONT : goal.returns-then-rdata-lt-FRONT
returns-then-rdata-lt-FRONT c = (sym (read_short c.args.rdata.now c.if-rdata-lt-FRONT.true), tt)

pub returns-then-prefix-gt-LONGEST : goal.returns-then-prefix-gt-LONGEST
returns-then-prefix-gt-LONGEST c = (sym (read_prefix c.args.rdata.now (omega arith) (omega arith)), tt)

pub returns-in_err-standard : goal.returns-in_err-standard
returns-in_err-standard c =
    let r : c.from_residual.result ≡ Err c.in_err-standard.field-0.0 = search rules in
    rw r (c.in_err-standard.ensures.number ∙ number (goal.at.returns-in_err-standard c).Else-prefix-gt-LONGEST, tt)

pub invariant_of-result : goal.invariant_of-result
invariant_of-result c =
    let here = (goal.at.invariant_of-result c).Else-prefix-gt-LONGEST in
    let octets : Small c.args.rdata.now = λ i. omega (arith, c.type_inv.rdata i) in
    record {
      low = omega arith;
      whole = last_long c.args.rdata.now (fronted here) c.wide-whole.result c.wide-whole.ensures.0;
      ended = sym c.in_ok-standard.ensures.number;
      suffix_small = small_take _ _ (small_drop c.wide-whole.result _ octets);
      name_small = small_take _ _ (small_drop 17 _ octets);
      told = c.in_ok-standard.ensures.standard;
    }

pub returns : goal.returns
returns c =
    let here = (goal.at.returns c).Else-prefix-gt-LONGEST in
    let d = c.args.rdata.now in
    let l = prefix_part d in (
      c.in_ok-standard.ensures.number ∙ number here,
      ap (value_from l (in_last l (take (16 - c.wide-whole.result) (drop c.wide-whole.result d)))) (name here) ∙ value_parts d (fronted here) c.wide-whole.result c.wide-whole.ensures.0,
    )
