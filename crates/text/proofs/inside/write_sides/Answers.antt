-- `text::inside::write_sides` meets its contract.
use Prim.Native.Nat.{◌+◌}
use mathlib.Core.Path.{◌≡◌}
use mathlib.Core.List.{[], ◌∷◌, ◌++◌, append_assoc}
use lib.ListN.{set, length-append}
use native.Mathlib.Omega.{arith}
use Rattle.text.specs.AddressText.{groups_text}
use Rattle.text.specs.Written.{Put}
use Rattle.text.proofs.WrittenLaws.{put_two, put_then, put_as}
use Rattle.text.proofs.inside.write_sides.Goals as goal

pub returns : goal.returns
returns c =
    let a = c.args in
    let w = c.write_groups-gap in
    let v = c.write_groups in
    let f = groups_text a.front.now in
    let b = groups_text a.back.now in
    let e = w.result in
    let m = set (set w.new.out e 58) (e + 1) 58 in
    let l = length-append f (58 ∷ 58 ∷ b) in
    let k = length-append f (58 ∷ 58 ∷ []) in
    let o = w.auto.out in
    let two : c.write_groups-gap.result + 1 + 1 ≡ c.write_groups-gap.result + 2 = omega arith in
    let colons : Put w.new.out m e (e + 2) (58 ∷ 58 ∷ []) = rw two at (put_two w.new.out e 58 58 (omega (arith, w.ensures.0))) in
    let left = put_then a.out.now w.new.out m a.at e (e + 2) f (58 ∷ 58 ∷ []) (omega (arith, c.requires)) w.ensures colons in
    put_as a.out.now v.new.out a.at v.result ((f ++ (58 ∷ 58 ∷ [])) ++ b) (f ++ (58 ∷ 58 ∷ b)) (append_assoc f (58 ∷ 58 ∷ []) b)
    (put_then a.out.now m v.new.out a.at (e + 2) v.result (f ++ (58 ∷ 58 ∷ [])) b (omega (arith, c.requires)) left v.ensures)
