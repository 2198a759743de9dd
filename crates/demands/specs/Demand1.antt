-- The words of demand 1 (01, What comes back): a contract that asks nothing and says just one thing, and a refusal that leaves nothing but, after 2 and
-- 3, the place of the fault (T-04).
use Rattle.std.specs.Prelude.{ℕ, ◌+◌, ◌≡◌, List, ◌↔◌, get_or}
use Rattle.octets.specs.Octets.{blank}
use Rattle.octets.specs.declared.Answer.{Answer}

-- a function's contract, at arguments a, a result r and arguments x as the call leaves them: nothing is asked of the caller, and what it learns is
-- the claim, no less and no more
abbrev pub Promises : {A R X : Type 0} → (A → Type 0) → (A → R → X → Type 0) → A → R → X → Type 0 → Type 0
Promises asked learnt a r x claim = asked a × (learnt a r x ↔ claim)

-- an answer whose number is not 0 has both figures 0, and the output, or another list, of `size` places is all zero
abbrev pub Cleared : Answer → List ℕ → ℕ → Type 0
Cleared a out size = (a.number ≡ 0 → ⊥) → (a.count ≡ 0) × (a.work ≡ 0) × (out ≡ blank size)

-- at the C interface: the figure at a place and the one after it are 0
abbrev pub Noughts : ℕ → List ℕ → Type 0
Noughts at figures = (get_or figures at 0 ≡ 0) × (get_or figures (at + 1) 0 ≡ 0)
