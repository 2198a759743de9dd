-- `names::inside::put_standard` meets its contract: a name with no two bit labels adjacent is its own standard form.
use Prim.Native.Nat.{◌≤◌}
use mathlib.Core.Path.{ap, ◌∙◌, sym}
use lib.ListN.{length}
use native.Mathlib.Omega.{arith}
use borrow.Author.Rules.{rules}
use Rattle.std.proofs.lemmas.List.{length-take-le}
use Rattle.octets.proofs.OctetLaws.{length_blank}
use Rattle.names.proofs.MergeLaws.{begins_start}
use Rattle.names.proofs.AnswerLaws.{standard_copied}
use Rattle.names.proofs.inside.put_standard.Goals.{Else-not-standard}
use Rattle.names.proofs.inside.put_standard.Goals as goal

fits : (c : Else-not-standard) → length c.args.name.now ≤ length c.args.out.now
fits c =
    let s = (begins_start c.args.name.now c.requires.0).short in
    let l = ap length c.requires.2 ∙ length_blank 255 in
    omega arith

pub slice_bounds-copy_whole-end : goal.slice_bounds-copy_whole-end
slice_bounds-copy_whole-end c = fits (goal.at.slice_bounds-copy_whole-end c).Else-not-standard

pub slice_bounds-copy_whole-end-2 : goal.slice_bounds-copy_whole-end-2
slice_bounds-copy_whole-end-2 c = let f = fits (goal.at.slice_bounds-copy_whole-end-2 c).Else-not-standard in search rules

pub copy_whole-requires : goal.copy_whole-requires
copy_whole-requires c = length-take-le (length c.args.name.now) c.args.out.now (fits (goal.at.copy_whole-requires c).Else-not-standard)

pub returns : goal.returns
returns c =
    let p = c.requires in
    let name = c.args.name.now in
    let o = standard_copied name (λ i. omega (arith, c.type_inv.name i)) p.0 (sym p.1 ∙ c.if-not-standard.false) in
    (rw (c.copy_whole.ensures, p.2) o.0, o.1, (begins_start name p.0).short)
