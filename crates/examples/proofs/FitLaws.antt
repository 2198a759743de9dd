-- What a collapse gives fits the output that it was lent.
use Rattle.std.proofs.Common.{◌≡◌, ℕ, zero, suc, ◌*◌, ◌/◌, ◌≤◌, Bool, true, false, List, length, refl, ap, arith}
use Rattle.std.specs.Prelude.{Ok, ◌||◌, ltb}
use borrow.Author.Tests.{ltb-false}
use Rattle.octets.specs.declared.Answer.{Answer}
use Rattle.octets.specs.declared.Done.{Done}
use Rattle.octets.specs.Answers.{earns, or_else, answering, answer_by}
use Rattle.plan.specs.declared.Reply.{Reply}
use Rattle.plan.specs.Layout.{record_size}
use Rattle.plan.specs.Check.{entry_number}
use Rattle.plan.specs.Faults.{replying, replied}
use Rattle.collapse.specs.Fold.{fold_of, reviving}
use Rattle.collapse.specs.Collapse.{misshapen, passes, number_of, collapse_answer}

-- an answer by the number k that is done: k is 0, and the count is this one
done_number : (k n c w : ℕ) → answering c w ≡ answer_by k n 0 → (k ≡ 0) × (c ≡ n)
unfolding answer_by
done_number zero n c w e = (refl, ap (λ (a : Answer). a.count) e)
done_number (suc k) n c w e = let z = ap (λ (a : Answer). a.number) e in cc

-- where no test earns a number, the last does not hold
last_fails : (a : ℕ) (b c d : Bool) → or_else a (earns b 5 (earns c 9 (earns d 7 0))) ≡ 0 → d ≡ false
last_fails zero true c d e = cc
last_fails zero false true d e = cc
last_fails zero false false true e = cc
last_fails zero false false false e = refl
last_fails (suc a) b c d e = cc

room_for : (size : ℕ) (rs : List (List ℕ)) → passes size rs ≡ false → length rs ≤ size / record_size
unfolding passes
room_for size rs e = ltb-false (size / record_size) (length rs) (go (ltb (size / record_size) (length rs)) _ e)
  where
    go : (a b : Bool) → (a || b) ≡ false → a ≡ false
    go false b e = refl
    go true b e = cc

-- the records of a collapse that is done
pub done_fits : (t x : List ℕ) (size : ℕ) (d : Done) → replied (Ok d) ≡ replying t (collapse_answer t x size) → d.count * record_size ≤ size
unfolding number_of
done_fits t x size d e =
    let p = done_number (number_of t x size) (length (fold_of x t)) d.count d.work (ap (λ (r : Reply). r.answer) e) in
    let r : length (fold_of x t) ≤ size / 536 = room_for size (fold_of x t) (last_fails (entry_number t x) (misshapen size) (reviving x t) (passes size (fold_of x t)) p.0) in
    omega (arith, p.1, r)
