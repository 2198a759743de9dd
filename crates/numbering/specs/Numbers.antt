-- The names of a table by number, so that a search need not compare names. The code's own: nothing that a reader must believe.
use Rattle.std.specs.Prelude.{ℕ, zero, suc, true, false, List, [], ◌∷◌, ◌++◌, ltb, length, set}
use Rattle.names.specs.Standard.{same_name}
use Rattle.plan.specs.Layout.{name_in, owner_slot, target_slot, count_of, record_at, owner_at, target_at}
use Rattle.plan.specs.Check.{targetless}

-- the number of a name in a list: the index of the first name that is the same, and the length of the list where there is none
unfoldable pub number_in : List (List ℕ) → List ℕ → ℕ
unfolding same_name
number_in [] x = 0
number_in (y ∷ ys) x = elim (same_name y x) [ true ↦ 0 | false ↦ suc (number_in ys x) ]

-- the list after a name is met: the name goes to its end, unless the same name is in it
unfoldable pub meeting : List (List ℕ) → List ℕ → List (List ℕ)
unfolding number_in
meeting names x = elim (ltb (number_in names x) (length names)) [ true ↦ names | false ↦ names ++ (x ∷ []) ]

-- the list after the target of the record at an index is met; a finished A6 record has none
unfoldable pub meeting_target : List ℕ → ℕ → List (List ℕ) → List (List ℕ)
unfolding meeting targetless record_at name_in target_slot
meeting_target t i names = elim (targetless (record_at t i)) [ true ↦ names | false ↦ meeting names (target_at t i) ]

-- the distinct names of the first records of a table as first met, owner before target. Those of DNAMEs are among them.
unfoldable pub names_to : List ℕ → ℕ → List (List ℕ)
unfolding meeting_target meeting record_at name_in owner_slot
names_to t zero = []
names_to t (suc i) = meeting_target t i (meeting (names_to t i) (owner_at t i))

-- the distinct names of a table
unfoldable pub names_of : List ℕ → List (List ℕ)
unfolding names_to count_of
names_of t = names_to t (count_of t)

-- the number of the owner of the record at an index
unfoldable pub own_number : List ℕ → ℕ → ℕ
unfolding number_in names_of record_at name_in owner_slot
own_number t i = number_in (names_of t) (owner_at t i)

-- what stands for the number of a target where a record has none
abbrev pub no_target : ℕ
no_target = 65535

-- the number of the target of the record at an index, in a list and in that of the table
unfoldable pub target_in : List (List ℕ) → List ℕ → ℕ → ℕ
unfolding number_in targetless record_at name_in target_slot
target_in names t i = elim (targetless (record_at t i)) [ true ↦ no_target | false ↦ number_in names (target_at t i) ]

unfoldable pub target_number : List ℕ → ℕ → ℕ
unfolding target_in names_of
target_number t i = target_in (names_of t) t i

-- a list with its first n places filled by f; the rest stays
unfoldable pub filled : (ℕ → ℕ) → ℕ → List ℕ → List ℕ
filled f zero l = l
filled f (suc n) l = set (filled f n l) n (f n)
