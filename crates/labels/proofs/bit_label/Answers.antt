-- `labels::bit_label` meets its contract: each return is one law of a bit label.
use native.Mathlib.Omega.{arith}
use Rattle.labels.proofs.LabelLaws.{bits_cut, bits_short, bits_long, bits_unused, bits_many, bits_taken}
use Rattle.labels.proofs.bit_label.Goals as goal

pub returns-then-s-at : goal.returns-then-s-at
returns-then-s-at c = let a = c.args in bits_cut a.s.now a.at a.run c.requires.0 c.requires.3 c.if-s-at.true

pub returns-then-s-end : goal.returns-then-s-end
returns-then-s-end c =
    let a = c.args in
    bits_short a.s.now a.at a.run c.requires.0 c.requires.3 _ _ c.count-bits.ensures.0 (omega arith) c.if-s-end.true

pub returns-then-end-gt255 : goal.returns-then-end-gt255
returns-then-end-gt255 c =
    let a = c.args in
    bits_long a.s.now a.at a.run c.requires.0 c.requires.3 _ _ c.count-bits.ensures.0 (omega arith) c.if-s-end.false c.if-end-gt255.true

pub returns-then-low-ne0 : goal.returns-then-low-ne0
returns-then-low-ne0 c =
    let a = c.args in
    bits_unused a.s.now a.at a.run c.requires.0 c.requires.3 _ _ c.count-bits.ensures.0 (omega arith) c.if-s-end.false c.if-end-gt255.false _ c.low.ensures c.if-low-ne0.true

pub returns-then-run-bits-gt256 : goal.returns-then-run-bits-gt256
returns-then-run-bits-gt256 c =
    let a = c.args in
    bits_many a.s.now a.at a.run c.requires.0 c.requires.3 _ _ c.count-bits.ensures.0 (omega arith) c.if-s-end.false c.if-end-gt255.false _ c.low.ensures c.if-low-ne0.false
    c.if-run-bits-gt256.true

pub returns : goal.returns
returns c =
    let a = c.args in
    bits_taken a.s.now a.at a.run c.requires.0 c.requires.3 _ _ c.count-bits.ensures.0 (omega arith) c.if-s-end.false c.if-end-gt255.false _ c.low.ensures c.if-low-ne0.false
    c.if-run-bits-gt256.false
