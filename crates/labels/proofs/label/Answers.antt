-- `labels::label` meets its contract: each return is one law of a label.
use native.Mathlib.Omega.{arith}
use Rattle.labels.proofs.LabelLaws.{label_other, ordinary_short, ordinary_long, ordinary_taken}
use Rattle.labels.proofs.label.Goals as goal

pub returns-then-s-end : goal.returns-then-s-end
returns-then-s-end c = let a = c.args in ordinary_short a.s.now a.at a.run c.requires.0 c.wide.result c.wide.ensures.0 (omega arith) c.if-s-end.true

pub returns-then-end-gt255 : goal.returns-then-end-gt255
returns-then-end-gt255 c = let a = c.args in ordinary_long a.s.now a.at a.run c.requires.0 c.wide.result c.wide.ensures.0 (omega arith) c.if-s-end.false c.if-end-gt255.true

pub returns-then-x-lt64 : goal.returns-then-x-lt64
returns-then-x-lt64 c = let a = c.args in ordinary_taken a.s.now a.at a.run c.requires.0 c.wide.result c.wide.ensures.0 (omega arith) c.if-s-end.false c.if-end-gt255.false

pub returns-then-x-ne65 : goal.returns-then-x-ne65
returns-then-x-ne65 c = let a = c.args in label_other a.s.now a.at a.run c.requires.0 (omega arith) (λ e. omega arith)
