-- `input::inside::fill` meets its contract: what has been read is what the buffer begins with.
use Rattle.std.proofs.Common.{◌≡◌, ℕ, ◌+◌, ◌≤◌, rules, List, ◌++◌, length, take, drop, sym, ap, ◌∙◌, subst, le_refl, drop_at, length-take-le}
use Rattle.std.proofs.lemmas.Slice.{take-put_mid_below}
use Rattle.std.specs.Io.KnownBytes.{Consumes}
use Rattle.std.proofs.KnownBytes.{Consumes-trans}
use borrow.Rule.Slice.PartMut.{put_mid, post_of}
use lib.Seq.{take-add, take-append-le}
use Rattle.input.proofs.inside.fill.Goals as goal

-- a buffer that begins with what had been read before, and then with what one read gave
one_more : (d m k : ℕ) (xs ys : List ℕ) → d ≤ length xs → m ≤ length ys → take d xs ++ take m ys ≡ take (d + m) (put_mid d k xs ys)
one_more d m k xs ys within fits =
    let after = post_of d k xs in
    let given = ap (take m) (drop_at (take d xs) (ys ++ after) d (length-take-le d xs within)) ∙ take-append-le m ys after fits in
    ap (λ l. take d xs ++ l) (sym given)
    ∙ ap (λ l. l ++ take m (drop d (put_mid d k xs ys))) (sym (take-put_mid_below _ _ _ _ _ (le_refl _) within))
    ∙ sym (take-add d m (put_mid d k xs ys))

pub loop-done-preserved : goal.loop-done-preserved
loop-done-preserved g c =
    let before = c.loop-done.invariant in
    let bound = c.in_ok-n.ensures.bound.0 in
    (search rules, search rules, subst (Consumes _ _) (one_more _ _ _ _ _ before.1 bound) (Consumes-trans _ _ _ _ _ before.2 c.in_ok-n.ensures.bytes.0))
