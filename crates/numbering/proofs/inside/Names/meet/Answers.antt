-- `numbering::inside::Names::meet` meets its contract: a name that `find` finds is in the list, any other goes to its end.
use Prim.Native.Nat.{ℕ, ◌<◌}
use mathlib.Core.Path.{◌≡◌, refl, ap, sym, ◌∙◌}
use mathlib.Core.List.{List}
use native.Mathlib.Omega.{arith}
use Rattle.plan.specs.Layout.{name_in}
use Rattle.numbering.specs.Numbers.{number_in}
use Rattle.numbering.specs.Buckets.{buckets, bucket_of}
use Rattle.numbering.specs.Meeting.{names_in}
use Rattle.numbering.proofs.ListingLaws.{bucket_small, names_known, names_met, listing_put}
use Rattle.numbering.proofs.inside.Names.meet.Goals as goal

-- a bucket of a slot is one of the buckets
fits : (b : ℕ) (s : List ℕ) → b ≡ bucket_of s → b < buckets
fits b s e = omega (arith, e, bucket_small s)

pub find-requires : goal.find-requires
find-requires c = (rw c.slot_at-slot.ensures c.requires.0.holds, c.bucket_of-bucket.ensures)

pub returns-in-Some : goal.returns-in-Some
returns-in-Some c =
    let n = c.args.self.now in
    let f = c.in-Some.ensures in
    let e = f.0 ∙ ap (λ (s : List ℕ). number_in (names_in n) (name_in s)) c.slot_at-slot.ensures in
    record { table = refl; numbered = e; names_are = names_known n.listing c.args.place c.in-Some.number e f.1; most = omega arith }

pub offset_bounds-self-bucket : goal.offset_bounds-self-bucket
offset_bounds-self-bucket c = omega (arith, fits _ _ c.bucket_of-bucket.ensures)

pub bounds-self-bucket : goal.bounds-self-bucket
bounds-self-bucket c = omega (arith, fits _ _ c.bucket_of-bucket.ensures)

pub offset_bounds-self-bucket-2 : goal.offset_bounds-self-bucket-2
offset_bounds-self-bucket-2 c = omega (arith, fits _ _ c.bucket_of-bucket.ensures)

pub bounds-self-bucket-2 : goal.bounds-self-bucket-2
bounds-self-bucket-2 c = omega (arith, fits _ _ c.bucket_of-bucket.ensures)

pub invariant_of-self : goal.invariant_of-self
invariant_of-self c =
    let n = c.args.self.now in
    let e = sym c.in_default.ensures ∙ ap (λ (s : List ℕ). number_in (names_in n) (name_in s)) c.slot_at-slot.ensures in
    record { listing = listing_put n.listing c.args.place c.requires.1 c.requires.0 e c.bucket_of-bucket.result (c.bucket_of-bucket.ensures ∙ ap bucket_of c.slot_at-slot.ensures) }

pub returns : goal.returns
returns c =
    let n = c.args.self.now in
    let e = sym c.in_default.ensures ∙ ap (λ (s : List ℕ). number_in (names_in n) (name_in s)) c.slot_at-slot.ensures in
    record { table = refl; numbered = e; names_are = names_met n.listing c.args.place c.requires.1 c.requires.0 e; most = omega arith }
