-- `line::reading::is_type` meets its contract.
use mathlib.Core.Path.{ap, sym, ◌∙◌}
use mathlib.Core.List.{List}
use Prim.Native.Nat.{ℕ}
use lib.Dec.{eqb}
use Rattle.std.specs.List.{starts_with}
use Rattle.std.proofs.lemmas.List.{take_rest}
use Rattle.line.specs.Writing.{a6_word}
use Rattle.line.proofs.WalkedLaws.{type_begins, type_other, type_stops}
use Rattle.line.proofs.reading.is_type.Goals as goal

pub returns-then-starts_with : goal.returns-then-starts_with
returns-then-starts_with c =
    let s = c.args.body.now in
    let b = type_begins s c.args.at (ap (λ (xs : List ℕ). starts_with eqb xs a6_word) (sym (take_rest s c.args.at)) ∙ sym c.starts_with.ensures.value ∙ c.if-starts_with.true) in
    c.stops.ensures ∙ sym (type_stops s c.args.at b.0 b.1 b.2)

pub returns-else-starts_with : goal.returns-else-starts_with
returns-else-starts_with c =
    let s = c.args.body.now in
    c.if-starts_with.false ∙ sym (type_other s c.args.at (ap (λ (xs : List ℕ). starts_with eqb xs a6_word) (sym (take_rest s c.args.at)) ∙ sym c.starts_with.ensures.value ∙ c.if-starts_with.false))
