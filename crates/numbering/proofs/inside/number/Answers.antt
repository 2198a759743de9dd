-- `numbering::inside::number` meets its contract: the list is complete when the name is looked for.
use Prim.Native.Nat.{ℕ, ◌<◌}
use mathlib.Core.Path.{◌≡◌, ap, sym, ◌∙◌}
use Rattle.std.specs.Prelude.{Option, Some, None, MatchOption}
use Rattle.std.specs.Option.{unwrap_or}
use Rattle.names.proofs.StandardLaws.{in_standard}
use Rattle.names.proofs.MergeLaws.{begins_start}
use Rattle.plan.proofs.SlotLaws.{name_made, holds_made}
use Rattle.plan.specs.Layout.{name_in}
use Rattle.numbering.specs.Numbers.{number_in, names_of}
use Rattle.numbering.proofs.inside.number.Goals as goal

pub slot_of-slot-requires : goal.slot_of-slot-requires
slot_of-slot-requires c = (begins_start c.args.name.now (in_standard c.args.name.now c.requires.in_order.1).0).short

pub find-requires : goal.find-requires
find-requires c = (rw c.slot_of-slot.ensures (holds_made c.args.name.now c.requires.in_order.1), c.bucket_of.ensures)

-- a number that is found, or the length of the list
found_or : (o : Option ℕ) (n count : ℕ) → MatchOption o (n ≡ count) (λ k. (k ≡ n) × (k < count)) → unwrap_or o count ≡ n
found_or None n count h = sym h
found_or (Some k) n count h = h.0

pub returns-clause-name : goal.returns-clause-name
returns-clause-name c =
    let n = c.meet_all.ensures.names ∙ ap names_of c.new-names.ensures.0 in
    let e = ap name_in c.slot_of-slot.ensures ∙ name_made c.args.name.now in
    c.unwrap_or.ensures ∙ found_or c.find.result _ _ c.find.ensures ∙ λ i. number_in (n i) (e i)
