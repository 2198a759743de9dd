-- What a search is lent and changes, and what it asks and leaves of it. The code's own: nothing that a reader must believe.
use Rattle.std.specs.Prelude.{ℕ, ◌≤◌, ◌<◌, ◌≡◌, List, length, get_or}
use Rattle.rows.specs.Rows.{Kept, Ordered}
use Rattle.rows.specs.Held.{kept, Lent}
use Rattle.search.specs.declared.inside.Search.{Search}
use Rattle.search.specs.Search.{Records, length_of, graph_of, State, searched, stepped}
use Rattle.search.specs.Links.{max_nodes, Numbered, Linked, marks_of}

-- the links, what is kept, and how many chains may still be counted
pub record Memory : Type 0 where
  pub next : List ℕ
  pub prev : List ℕ
  pub kept : Kept
  pub left : ℕ

abbrev pub memory : List ℕ → List ℕ → Kept → ℕ → Memory
memory next prev k left = record { next = next; prev = prev; kept = k; left = left }

-- as the code has it
abbrev pub memory_of : Search → Memory
memory_of s = memory s.lists.now.next s.lists.now.prev (kept s.rows.now) s.left

-- s' reads and writes where s does
abbrev pub Borrows : Search → Search → Type 0
Borrows s s' = (s'.records ≡ s.records) × (s'.rows.ghost_name ≡ s.rows.ghost_name) × Lent s.rows.now s'.rows.now

abbrev pub state_of : Memory → State
state_of m = (m.left, m.kept)

abbrev pub unused_of : Records → Memory → List ℕ
unused_of r m = marks_of (length r.owners) m.next m.prev

-- the state after the search, and after the step
abbrev pub search_of : Records → ℕ → ℕ → List ℕ → ℕ → Memory → State
search_of r x b a c m = searched (graph_of r) (unused_of r m) x b a c (state_of m)

abbrev pub step_of : Records → ℕ → ℕ → List ℕ → ℕ → Memory → State
step_of r i b a c m = stepped (graph_of r) (unused_of r m) i b a c (state_of m)

-- what a search works on
pub record Fit (r : Records) (m : Memory) (bound : ℕ) : Type 0 where
  pub numbered : Numbered r
  pub nodes : length m.next ≡ max_nodes
  pub linked : Linked r.owners (unused_of r m) m.next m.prev
  pub ordered : Ordered m.kept
  pub some : 0 < bound
  pub bounded : bound ≤ 128

-- what a step into the record i works on: it is unused and no longer than its referrer, and one more chain may be counted
pub record Ready (r : Records) (m : Memory) (bound i : ℕ) : Type 0 where
  pub fit : Fit r m bound
  pub there : i < length r.owners
  pub unused : get_or (unused_of r m) i 0 ≡ 0
  pub short : length_of r i ≤ bound
  pub counts : 0 < m.left

-- what either leaves: the links as they were, and the state that is expected
pub record Leaves (m m' : Memory) (s : State) : Type 0 where
  pub next : m'.next ≡ m.next
  pub prev : m'.prev ≡ m.prev
  pub state : state_of m' ≡ s
