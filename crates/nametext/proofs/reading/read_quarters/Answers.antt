use Rattle.nametext.proofs.BitPartLaws.{quarter_turn, quarter_stop, quarter_end}
use Rattle.text.proofs.DecimalLaws.{passed_none}
use native.Mathlib.Omega.{arith}
use mathlib.Core.Path.{sym, ◌∙◌}
use Prim.Native.Nat.{◌+◌, ◌*◌}
use Rattle.nametext.proofs.reading.read_quarters.Goals as goal

pub loop-x-init : goal.loop-x-init
loop-x-init c =
    let a = c.args in
    (passed_none a.s.now 0 (4 * (a.d + 1)), omega arith)

pub returns-then-not-is_ascii_digit : goal.returns-then-not-is_ascii_digit
returns-then-not-is_ascii_digit c =
    let l = c.loop-x in
    let a = c.args in
    quarter_stop a.s.now 0 (4 * (a.d + 1)) l.x-index l.v l.invariant.0 l.invariant.1 (omega arith) (sym c.is_ascii_digit.ensures.value ∙ c.if-not-is_ascii_digit.true)

pub digit_value-requires : goal.digit_value-requires
digit_value-requires c = sym c.is_ascii_digit.ensures.value ∙ c.if-not-is_ascii_digit.false

pub ten_times-v-requires : goal.ten_times-v-requires
ten_times-v-requires c = (c.loop-x.invariant.1, c.digit_value.ensures.1, c.requires)

pub loop-x-preserved : goal.loop-x-preserved
loop-x-preserved c =
    let l = c.loop-x in
    let a = c.args in
    let q = c.ten_times-v.ensures in
    (quarter_turn a.s.now 0 (4 * (a.d + 1)) l.x-index l.v l.invariant.0 c.ten_times-v.result c.digit_value.result (omega arith) (sym c.is_ascii_digit.ensures.value ∙ c.if-not-is_ascii_digit.false) c.digit_value.ensures.0 q, q.rest)

pub returns : goal.returns
returns c =
    let l = c.loop-x in
    let a = c.args in
    quarter_end a.s.now 0 (4 * (a.d + 1)) l.x-index l.v l.invariant.0 l.invariant.1 (omega arith)
