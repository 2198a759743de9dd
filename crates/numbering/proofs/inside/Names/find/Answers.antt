-- `numbering::inside::Names::find` meets its contract.
use Prim.Native.Nat.{ℕ, ◌-◌}
use mathlib.Core.Path.{◌≡◌, ap, sym, ◌∙◌}
use mathlib.Core.List.{List}
use native.Mathlib.Omega.{arith}
use lib.ListN.{get_or}
use Rattle.names.specs.Standard.{same_name}
use Rattle.plan.specs.Layout.{name_in}
use Rattle.numbering.specs.Buckets.{slot_at, name_at}
use Rattle.numbering.proofs.ListingLaws.{bucket_small, seek_start, seek_more, seek_found, seek_none, link_falls}
use Rattle.numbering.proofs.inside.Names.find.Goals.{After-same}
use Rattle.numbering.proofs.inside.Names.find.Goals as goal

-- the slot that is looked at, compared
compared : (c : After-same) → let n = c.args.self.now in
    c.same.result ≡ same_name (name_at n.table.now (get_or n.places (c.loop-next.next - 1) 0)) (name_in c.args.slot.now)
compared c =
    let n = c.args.self.now in
    c.same.ensures ∙ ap (λ (x : List ℕ). same_name (name_in x) (name_in c.args.slot.now)) (c.slot_at-listed.ensures ∙ ap (slot_at n.table.now) c.wide.ensures)

pub offset_bounds-self-bucket : goal.offset_bounds-self-bucket
offset_bounds-self-bucket c = omega (arith, c.requires.1, bucket_small c.args.slot.now)

pub bounds-self-bucket : goal.bounds-self-bucket
bounds-self-bucket c = omega (arith, c.requires.1, bucket_small c.args.slot.now)

pub loop-next-init : goal.loop-next-init
loop-next-init c =
    let n = c.args.self.now in
    seek_start n.listing c.requires.0 c.wide-next.result (c.wide-next.ensures ∙ ap (λ (b : ℕ). get_or n.head b 0) c.requires.1)

pub slot_at-listed-requires : goal.slot_at-listed-requires
slot_at-listed-requires c = rw c.wide.ensures (c.args.self.now.listing.named (c.loop-next.next - 1) (omega arith))

pub same-requires : goal.same-requires
same-requires c =
    let n = c.args.self.now in
    let e = c.slot_at-listed.ensures ∙ ap (slot_at n.table.now) c.wide.ensures in
    (rw e (n.listing.named (c.loop-next.next - 1) (omega arith)).holds, c.requires.0)

pub returns-then-same : goal.returns-then-same
returns-then-same c =
    let n = c.args.self.now in
    let m = c.loop-next.invariant.most in
    (seek_found n.listing c.requires.0 (c.loop-next.next - 1) (omega arith) (sym (compared (goal.at.returns-then-same c).After-same) ∙ c.if-same.true), omega arith)

pub loop-next-smaller : goal.loop-next-smaller
loop-next-smaller c = omega (arith, c.wide-next-in-loop-next.ensures, link_falls c.args.self.now.listing c.requires.0 (c.loop-next.next - 1) (omega arith))

pub loop-next-preserved : goal.loop-next-preserved
loop-next-preserved c =
    let l = c.loop-next in
    seek_more c.args.self.now.listing c.requires.0 (l.next - 1) l.next c.wide-next-in-loop-next.result
    l.invariant (omega arith) (sym (compared (goal.at.loop-next-preserved c).After-same) ∙ c.if-same.false) c.wide-next-in-loop-next.ensures

pub returns : goal.returns
returns c =
    let l = c.loop-next in
    sym (seek_none c.args.self.now.listing c.requires.0 l.next l.invariant (omega arith))
