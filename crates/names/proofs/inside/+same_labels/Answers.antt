use Prim.Native.Nat.{ℕ, ◌+◌}
use mathlib.Core.Path.{◌≡◌, refl, ap, ◌∙◌, sym}
use mathlib.Core.Bool.{Bool, ◌&&◌}
use lib.ListN.{take, drop}
use native.Mathlib.Omega.{arith}
use Rattle.octets.specs.Octets.{same}
use Rattle.names.specs.Keys.{walked}
use Rattle.names.proofs.SameKeyLaws.{walk_end, walk_other, walk_bits}
use Rattle.names.proofs.inside.+same_labels.Goals.{After-bit_octets-size}
use Rattle.names.proofs.inside.+same_labels.Goals as goal

-- the octets of the bit label are the same
abbrev part : (t : ℕ) → After-bit_octets-size t → Bool
part t c =
    let a = (c).args in
    let n = c.bit_octets-size.result in
    let i = c.past_letters-i.result + 1 in
    same (take n (drop i (take a.end a.a.now))) (take n (drop i (take a.end a.b.now)))

bits_walk : (t : ℕ) (c : After-bit_octets-size t) → let a = (c).args in
    walked a.a.now a.b.now a.end a.at ≡ (walked a.a.now a.b.now a.end (c.past_letters-i.result + 1 + c.bit_octets-size.result) && part t c)
bits_walk t c =
    let a = c.args in
    let i = c.past_letters-i.result in
    let n = c.bit_octets-size.result in
    let e = c.if-a-i.false in
    sym c.past_letters-i.ensures.kept ∙ walk_bits a.a.now a.b.now a.end c.requires.0 c.requires.1 i (omega arith) e (i + 1 + n) n c.bit_octets-size.ensures.0 refl (c.past_letters-i.ensures.bits (omega arith) e)

pub returns-then-end-i : goal.returns-then-end-i
returns-then-end-i t c =
    let a = c.args in
    c.same_lowered.ensures ∙ sym (walk_end a.a.now a.b.now a.end c.requires.0 c.requires.1 c.past_letters-i.result (omega arith)) ∙ c.past_letters-i.ensures.kept

pub returns-then-a-i : goal.returns-then-a-i
returns-then-a-i t c =
    let a = c.args in
    sym (walk_other a.a.now a.b.now a.end c.requires.0 c.requires.1 c.past_letters-i.result (omega arith) c.if-a-i.true) ∙ c.past_letters-i.ensures.kept

pub overflow_add-from-2 : goal.overflow_add-from-2
overflow_add-from-2 t c = omega (arith, c.bit_octets-size.ensures.1)

pub same_labels-requires : goal.same_labels-requires
same_labels-requires t c = (omega (arith, c.past_letters-i.ensures.on), c.requires)

pub returns-else-same_labels : goal.returns-else-same_labels
returns-else-same_labels t c =
    let here = (goal.at.returns-else-same_labels t c).After-bit_octets-size in
    c.if-same_labels.false ∙ sym (bits_walk t here ∙ ap (λ (v : Bool). v && part t here) (sym c.same_labels.ensures ∙ c.if-same_labels.false))

pub same_part-requires : goal.same_part-requires
same_part-requires t c =
    (c.requires.0, c.requires.1, omega arith, c.bit_octets-size.ensures.1)

pub returns-then-same_labels : goal.returns-then-same_labels
returns-then-same_labels t c =
    let here = (goal.at.returns-then-same_labels t c).After-bit_octets-size in
    c.same_part.ensures ∙ sym (bits_walk t here ∙ ap (λ (v : Bool). v && part t here) (sym c.same_labels.ensures ∙ c.if-same_labels.true))
