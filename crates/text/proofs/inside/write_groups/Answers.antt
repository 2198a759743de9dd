use Prim.Native.Nat.{ℕ, ◌+◌, ◌≤◌}
use mathlib.Core.Path.{◌≡◌, ap, sym, ◌∙◌}
use mathlib.Core.List.{List, ◌∷◌, ◌++◌}
use lib.ListN.{length, get_or, drop, set, length-set, length-append}
use native.Mathlib.Omega.{arith}
use Rattle.text.specs.Digits.{number_text}
use Rattle.text.specs.Written.{written, Put}
use Rattle.text.specs.AddressText.{more_text, groups_text}
use Rattle.text.proofs.RunLaws.{groups_none, groups_parts, more_turn, more_end}
use Rattle.text.proofs.WrittenLaws.{written_none, written_turn, put_none, put_then, put_as}
use Rattle.text.proofs.inside.write_groups.Goals.{In-loop-group}
use Rattle.text.proofs.inside.write_groups.Goals as goal

-- the octets of the first group and of those after it
parts : (gs : List ℕ) (g : ℕ) (more : List ℕ) → gs ≡ g ∷ more → length (groups_text gs) ≡ length (number_text 16 g) + length (more_text more)
parts gs g more e = ap length (groups_parts gs g more e) ∙ length-append (number_text 16 g) (more_text more)

-- what is left to write at a turn: a colon, the digits of the group, and the groups after it
left : (c : In-loop-group) → length (more_text (drop c.loop-group.group-index c.in-Some.more.now)) ≡ length (number_text 16 (get_or c.in-Some.more.now c.loop-group.group-index 0)) + length (more_text (drop (c.loop-group.group-index + 1) c.in-Some.more.now)) + 1
left c =
    let i = c.loop-group.group-index in
    let g = c.in-Some.more.now in
    let t = ap length (more_turn g i (omega arith)) in
    let p = length-append (number_text 16 (get_or g i 0)) (more_text (drop (i + 1) g)) in
    omega arith

pub returns-in_default : goal.returns-in_default
returns-in_default c =
    let a = c.args in
    put_none a.out.now a.at (groups_text a.groups.now) (groups_none a.groups.now c.in_default.ensures.cases)

pub put_number-next-requires-clause-room : goal.put_number-next-requires-clause-room
put_number-next-requires-clause-room c = let p = parts c.args.groups.now _ _ c.in-Some.ensures.cases.0 in rw c.from.ensures (omega arith)

-- the first group is put
first : (c : In-loop-group) → Put c.args.out.now c.put_number-next.new.out c.args.at c.put_number-next.result (number_text 16 c.in-Some.first.now)
first c = rw c.from.ensures at c.put_number-next.ensures

-- and there is room for the others
room : (c : In-loop-group) → c.loop-group.next + length (more_text (drop c.loop-group.group-index c.in-Some.more.now)) ≤ length c.loop-group.out
room c = let p = parts c.args.groups.now _ _ c.in-Some.ensures.cases.0 in omega (arith, (first c).0)

pub bounds-out-next : goal.bounds-out-next
bounds-out-next c =
    let here = (goal.at.bounds-out-next c).In-loop-group in
    omega (arith, room here, left here)

pub overflow_add-next : goal.overflow_add-next
overflow_add-next c =
    let here = (goal.at.overflow_add-next c).In-loop-group in
    omega (arith, room here, left here)

pub put_number-next-requires-in-loop-group-clause-room : goal.put_number-next-requires-in-loop-group-clause-room
put_number-next-requires-in-loop-group-clause-room c =
    let here = (goal.at.put_number-next-requires-in-loop-group-clause-room c).In-loop-group in
    rw (c.from-in-loop-group.ensures, length-set) (omega (arith, room here, left here))

pub loop-group-preserved : goal.loop-group-preserved
loop-group-preserved c =
    let l = c.loop-group in
    let i = l.group-index in
    let g = c.in-Some.more.now in
    let here = (goal.at.loop-group-preserved c).In-loop-group in
    let p = left here in
    let r = room here in
    let w = c.put_number-next-in-loop-group in
    let e : Put (set l.out l.next 58) w.new.out (l.next + 1) w.result (number_text 16 (get_or g i 0)) = rw c.from-in-loop-group.ensures at w.ensures in
    let k = length-set l.out l.next 58 in (
      omega (arith, w.auto.out),
      omega (arith, e.0),
      ap (λ (d : List ℕ). written d w.result (more_text (drop (i + 1) g))) e.1
          ∙ ap (λ (n : ℕ). written (written (set l.out l.next 58) (l.next + 1) (number_text 16 (get_or g i 0))) n (more_text (drop (i + 1) g))) e.0
          ∙ written_turn l.out l.next 58 (number_text 16 (get_or g i 0)) (more_text (drop (i + 1) g)) (omega arith)
          ∙ ap (written l.out l.next) (sym (more_turn g i (omega arith))) ∙ l.invariant.2,
    )

pub returns : goal.returns
returns c =
    let a = c.args in
    let l = c.loop-group in
    let g = c.in-Some.more.now in
    let e = more_end g l.group-index (omega arith) in
    let p = parts c.args.groups.now _ _ c.in-Some.ensures.cases.0 in
    let f : Put a.out.now c.put_number-next.new.out a.at c.put_number-next.result (number_text 16 c.in-Some.first.now) = rw c.from.ensures at c.put_number-next.ensures in
    let m : Put c.put_number-next.new.out l.out c.put_number-next.result l.next (more_text g) = (omega (arith, ap length e), sym (written_none l.out l.next) ∙ ap (written l.out l.next) (sym e) ∙ l.invariant.2) in
    put_as a.out.now l.out a.at l.next (number_text 16 c.in-Some.first.now ++ more_text g) (groups_text a.groups.now) (sym (groups_parts a.groups.now _ _ c.in-Some.ensures.cases.0))
    (put_then a.out.now c.put_number-next.new.out l.out a.at c.put_number-next.result l.next (number_text 16 c.in-Some.first.now) (more_text g) (omega arith) f m)
