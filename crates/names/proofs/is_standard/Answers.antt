-- `names::is_standard` meets its contract: the scan tells all.
use Prim.Native.Nat.{ℕ}
use mathlib.Core.Path.{◌≡◌, ap, ◌∙◌, sym}
use mathlib.Core.Bool.{Bool, true, false}
use mathlib.Core.List.{List}
use borrow.Author.Rules.{rules}
use Rattle.std.specs.Prelude.{Option, Some, None, Ok, MatchOption}
use Rattle.octets.specs.Octets.{Small}
use Rattle.labels.specs.declared.Scanned.{Scanned}
use Rattle.labels.specs.Scan.{scan_of, well_formed}
use Rattle.labels.specs.Answers.{scanned, standard_by}
use Rattle.names.specs.Standard.{in_standard_form}
use Rattle.names.proofs.StandardLaws.{scan_standard, malformed_not}
use Rattle.names.proofs.is_standard.Goals as goal

tells : (name : List ℕ) → Small name → (found : Option Scanned) (r : Bool) (P : Scanned → Type 0)
    → MatchOption found (well_formed name ≡ false) (λ t. (well_formed name ≡ true) × (Ok t ≡ scanned (scan_of name)))
    → MatchOption found (r ≡ false) P → ((t : Scanned) → P t → r ≡ t.standard) → r ≡ in_standard_form name
tells name s None r P w e f = e ∙ sym (malformed_not name w)
tells name s (Some t) r P w e f = f t e ∙ ap standard_by w.1 ∙ scan_standard name s w.0

pub returns : goal.returns
returns c = tells c.args.name.now (λ i. (c.type_inv.name i).fits) _ _ _ c.whole.ensures c.is_some_and.ensures (λ t p. search rules)
