-- `a6plan::read_into` meets its contract: 5 in front, then the value.
use Rattle.std.proofs.Common.{◌≡◌, [], length, ap, ◌∙◌, sym, arith}
use Rattle.octets.specs.Octets.{blank}
use Rattle.a6.specs.Parts.{value_at}
use Rattle.a6plan.specs.Exports.{value_octets}
use Rattle.a6plan.proofs.ExportLaws.{full_out, read_misfit, read_right, read_none}
use Rattle.a6plan.proofs.read_into.Goals as goal

pub returns-then-value-ne-VALUE : goal.returns-then-value-ne-VALUE
returns-then-value-ne-VALUE c =
    let l = c.clear in
    let h = λ (e : length c.args.value.now ≡ 273). c.if-value-ne-VALUE.true (l.auto.out ∙ e) in
    record {
      number = c.number.ensures ∙ (read_misfit _ _ [] h l.ensures).0;
      valued = read_none c.args.outcome c.number.result _ (λ z. omega arith) l.ensures;
    }

pub put_value-requires : goal.put_value-requires
put_value-requires c = c.clear.ensures ∙ ap blank (sym c.clear.auto.out ∙ c.if-value-ne-VALUE.false)

pub returns-in-Err : goal.returns-in-Err
returns-in-Err c =
    let h = sym c.clear.auto.out ∙ c.if-value-ne-VALUE.false in
    rw c.in-Err.is (record { number = c.number-in-Err.ensures ∙ sym (read_right _ _ h); valued = c.clear.ensures })

pub returns-in-Ok : goal.returns-in-Ok
returns-in-Ok c =
    let h = sym c.clear.auto.out ∙ c.if-value-ne-VALUE.false in
    let w = c.put_value.ensures in
    let l : length (value_octets (value_at c.in-Ok.found)) ≡ length c.args.value.now = ap length (sym w) ∙ c.put_value.auto.value ∙ c.clear.auto.out in
    rw c.in-Ok.is (record { number = sym (read_right _ 0 h); valued = w ∙ full_out (value_octets (value_at c.in-Ok.found)) _ l })
