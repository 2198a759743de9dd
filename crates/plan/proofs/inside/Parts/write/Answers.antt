-- `plan::inside::Parts::write` meets its contract: five copies, each where the one before it ended.
use Prim.Native.Nat.{ℕ, ◌+◌, ◌/◌, ◌%◌, ◌<◌}
use mathlib.Core.Path.{◌≡◌, ap, ◌∙◌}
use mathlib.Core.List.{List, [], ◌∷◌}
use lib.ListN.{length, get_or}
use lib.Seq.{paste}
use native.Mathlib.Omega.{arith}
use borrow.Author.Rules.{rules}
use Rattle.plan.specs.Layout.{slot_size, address_size, address_place, ttl_place, ttl_size}
use Rattle.plan.proofs.WriteLaws.{record_written}
use Rattle.plan.proofs.inside.Parts.write.Goals as goal

pub returns : goal.returns
returns c =
    let a = c.args in
    let p = a.self in
    let n : length p.address ≡ address_size = search rules in
    let l : length p.owner.now ≡ slot_size = search rules in
    let m : length p.target.now ≡ slot_size = search rules in
    let b : p.kind < 65536 = search rules in
    let k : p.kind / 256 % 256 ≡ p.kind / 256 = omega (arith, b) in
    let h = ap (λ (l : List ℕ). get_or l 0 0) c.to_be_bytes.ensures ∙ k in
    let w = ap (λ (l : List ℕ). get_or l 1 0) c.to_be_bytes.ensures in
    record_written a.out.now _ _ _ _ _ p.address p.owner.now p.target.now p.kind p.prefix p.ttl a.to n l m c.requires
    (c.copy.ensures ∙ λ i. paste a.out.now a.to (h i ∷ w i ∷ p.prefix ∷ 0 ∷ []) address_place) c.copy-2.ensures c.copy-3.ensures c.copy-4.ensures
    (c.copy-5.ensures ∙ ap (λ (v : List ℕ). paste c.copy-4.new.out (a.to + ttl_place) v ttl_size) c.quarter_octets-life.ensures)
