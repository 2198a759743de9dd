-- The output that a definition gives has as many places as were lent, whatever the number: a contract that says so of an output asks for nothing
-- that no call could give.
use Prim.Native.Nat.{ℕ, zero, suc, ◌/◌, ◌%◌, ◌≤◌}
use mathlib.Core.Path.{◌≡◌, refl, ap, ◌∙◌, sym}
use mathlib.Core.Bool.{not}
use mathlib.Core.List.{List, [], map}
use lib.Dec.{ltb, eqb}
use lib.ListN.{length, length-map}
use native.Mathlib.Omega.{arith}
use borrow.Author.Tests.{eqb-true, ltb-false, not-false}
use Rattle.octets.specs.Octets.{Small, flat}
use Rattle.octets.specs.Answers.{out_by}
use Rattle.octets.proofs.AnswerLaws.{earns_zero, else_zero, not_nought, by_length}
use Rattle.octets.proofs.FlatLaws.{flat_length}
use Rattle.labels.specs.Scan.{well_formed}
use Rattle.names.specs.Standard.{Unit, standard_of, encode}
use Rattle.names.specs.Answers.{standard_number, standard_out}
use Rattle.names.proofs.NameLaws.{standard_short}
use Rattle.chains.specs.Listing.{work_of}
use Rattle.chains.specs.Addresses.{addresses_of}
use Rattle.chains.specs.Lifetimes.{lifetime_of}
use Rattle.chains.proofs.AddressesLaws.{addresses_each}
use Rattle.text.specs.Decimal.{write_decimal}
use Rattle.text.specs.AddressText.{write_address}
use Rattle.text.specs.Answers.{room_number, text_out}
use Rattle.nametext.specs.Answers.{name_text, write_name_number, write_name_out}
use Rattle.a6.specs.Read.{read_number, value_of}
use Rattle.a6.specs.Write.{data_of, write_number, write_out}
use Rattle.a6.specs.declared.Value.{Value}
use Rattle.a6.proofs.AcceptedLaws.{write_fits}
use Rattle.a6.proofs.Layouts.{Layout}
use Rattle.a6.proofs.RoundTrip.{a6_layout}
use Rattle.draft.specs.Read.{draft_number, draft_value}
use Rattle.draft.specs.Write.{draft_data, draft_write_number, draft_out}
use Rattle.draft.proofs.RoundTrip.{draft_layout}
use Rattle.plan.specs.Layout.{record_size, name_room}
use Rattle.plan.specs.Check.{entry_number}
use Rattle.plan.specs.Fields.{one_a6}
use Rattle.plan.specs.Graph.{graph_of}
use Rattle.plan.proofs.LayoutLaws.{octets_length}
use Rattle.line.specs.Writing.{line_of}
use Rattle.line.specs.Reading.{line_number, record_in}
use Rattle.line.specs.Answers.{read_line_number, read_line_out, write_line_number, write_line_out}
use Rattle.line.proofs.ReadLaws.{read_size}
use Rattle.search.specs.Answers.{number_of}
use Rattle.forward.specs.Lookup.{misfit, lookup_number, lookup_out, lookup_ttls}
use Rattle.rewriting.specs.Rewrite.{long_run, too_large}
use Rattle.rewriting.proofs.LargeLaws.{or_false}
use Rattle.reverse.specs.Walk.{Rule, start_of, End, refused, ended}
use Rattle.reverse.specs.Relation.{Path, here, then}
use Rattle.reverse.specs.Answers.{rules_of, early_number, end_of, end_number, out_for, reverse_out}
use Rattle.reverse.proofs.StartLaws.{start_standing}
use Rattle.reverse.proofs.TableLaws.{rules_one}
use Rattle.reverse.proofs.ReplyLaws.{early_zero, late}
use Rattle.reverse.proofs.Demand.{walk_is}
use Rattle.collapse.specs.Fold.{fold_of, reviving}
use Rattle.collapse.specs.Collapse as collapse
use Rattle.collapse.specs.Collapse.{misshapen, passes, collapse_out}
use Rattle.collapse.proofs.FoldLaws.{fold_whole}
use Rattle.a6plan.specs.Exports.{value_octets, exported_read_number}
use Rattle.a6plan.proofs.ExportLaws.{read_zero, value_size_lem}

-- ---- names
-- the standard form has room in 255 octets
pub standard_filled : (name : List ℕ) (room : ℕ) → Small name → length (standard_out name room) ≡ room
unfolding standard_number
standard_filled name room s = by_length (standard_number name room) (standard_of name) room fits
  where
    fits : standard_number name room ≡ 0 → length (standard_of name) ≤ room
    fits e =
        let w = earns_zero (not (well_formed name)) 3 _ e in
        let b : room ≡ 255 = eqb-true room 255 (not-false _ (earns_zero (not (eqb room 255)) 4 _ w.1).0) in
        let l = standard_short name s (not-false _ w.0) in
        omega arith

-- ---- data
-- what is written has room in the output, in either layout
pub write_filled : (v : Value) (room : ℕ) → length (write_out v room) ≡ room
write_filled v room = by_length (write_number v room) (data_of v) room (λ z. (write_fits v (data_of v) room z).1)

pub draft_filled : (v : Value) (room : ℕ) → length (draft_out v room) ≡ room
draft_filled v room = by_length (draft_write_number v room) (draft_data v) room (λ z. (write_fits v (draft_data v) room z).1)

-- a value that was read fills its slice
module _ (L : Layout) (octets : List ℕ) (n : ℕ) (small : Small octets) where
  value_filled : length (out_by (exported_read_number n (L.number octets)) (value_octets (L.value octets)) n) ≡ n
  value_filled =
      by_length (exported_read_number n (L.number octets)) (value_octets (L.value octets)) n
      (λ z. let t = read_zero n (L.number octets) z in omega (arith, value_size_lem (L.value octets) (L.read_shaped octets small t.1), t.0))

pub read_filled : (octets : List ℕ) (n : ℕ) → Small octets → length (out_by (exported_read_number n (read_number octets)) (value_octets (value_of octets)) n) ≡ n
read_filled octets n small = value_filled a6_layout octets n small

pub draft_read_filled : (octets : List ℕ) (n : ℕ) → Small octets → length (out_by (exported_read_number n (draft_number octets)) (value_octets (draft_value octets)) n) ≡ n
draft_read_filled octets n small = value_filled draft_layout octets n small

-- ---- text
-- a text that is written has room in the output: of a decimal, an address and a name
text_fits : (text : List ℕ) (room : ℕ) → room_number text room ≡ 0 → length text ≤ room
unfolding room_number
text_fits text room e = ltb-false room (length text) (earns_zero (ltb room (length text)) 22 0 e).0

pub write_decimal_filled : (n room : ℕ) → length (text_out (write_decimal n) room) ≡ room
write_decimal_filled n room = by_length (room_number (write_decimal n) room) (write_decimal n) room (text_fits (write_decimal n) room)

pub write_address_filled : (address : List ℕ) (room : ℕ) → length (text_out (write_address address) room) ≡ room
write_address_filled address room = by_length (room_number (write_address address) room) (write_address address) room (text_fits (write_address address) room)

pub write_name_filled : (name : List ℕ) (room : ℕ) → length (write_name_out name room) ≡ room
unfolding write_name_number
write_name_filled name room =
    by_length (write_name_number name room) (name_text name) room (λ e. text_fits (name_text name) room (earns_zero (not (well_formed name)) 3 _ e).1)

-- ---- lines
-- a line that is written has room in the output, and so has a record that is read
pub write_line_filled : (row : List ℕ) (room : ℕ) → length (write_line_out row room) ≡ room
unfolding write_line_number
write_line_filled row room =
    by_length (write_line_number row room) (line_of row) room
    (λ e. ltb-false room (length (line_of row)) (earns_zero (ltb room (length (line_of row))) 22 0 (earns_zero (not (one_a6 row)) 1 _ e).1).0)

pub read_line_filled : (line : List ℕ) (room : ℕ) → length (read_line_out line room) ≡ room
unfolding read_line_number
read_line_filled line room =
    by_length (read_line_number line room) (record_in line) room
    (λ e. let z = else_zero (line_number line) _ e in omega (arith, read_size line z.0, ltb-false room record_size (earns_zero (ltb room record_size) 22 0 z.1).0))

-- ---- lookup
module _ (t name : List ℕ) (limit size room : ℕ) where
  abbrev found : List (List ℕ)
  found = addresses_of (graph_of t) name

  fits : lookup_number t name limit size room ≡ 0 → (length (flat found) ≤ size) × (length found ≤ room)
  unfolding lookup_number number_of
  fits e =
      let o = else_zero (entry_number t name) _ e in
      let z = earns_zero (misfit size room) 4 _ o.1 in
      let q : room ≡ size / 16 = eqb-true room (size / 16) (not-false _ (or_false (not (eqb (size % 16) 0)) _ z.0).1) in
      let m = earns_zero (ltb limit (work_of (graph_of t) name)) 5 _ z.1 in
      let r = ltb-false (size / 16) (length found) (earns_zero (ltb (size / 16) (length found)) 6 _ m.1).0 in
      let n = flat_length 16 found (addresses_each (graph_of t) name) in
      (omega (arith, n, r), omega (arith, q, r))

  -- the addresses have room in the output, and their lifetimes in the list
  pub lookup_filled : (length (lookup_out t name limit size room) ≡ size) × (length (lookup_ttls t name limit size room) ≡ room)
  lookup_filled =
      let k = lookup_number t name limit size room in
      let lives = map (lifetime_of (graph_of t) name) found in
      let n = length-map found (lifetime_of (graph_of t) name) in
      (by_length k (flat found) size (λ e. (fits e).0), by_length k lives room (λ e. let l = (fits e).1 in omega (arith, n, l)))

-- ---- reverse
-- none of the results of a path is too long
path_short : {rules : List Rule} {name last : List Unit} {n : ℕ} → Path rules name n last → length (encode name) ≤ name_room → length (encode last) ≤ name_room
unfolding too_large
path_short here h = h
path_short (then {next = next} r f p) h = path_short p (ltb-false name_room (length (encode next)) (or_false (long_run 0 next) _ f).1)

-- the name where rewriting ends has room in 255 octets
pub reverse_filled : (t address : List ℕ) (limit room : ℕ) → Small address → length (reverse_out t address limit room) ≡ room
unfolding end_of
reverse_filled t address limit room s = go (end_of t address limit room) refl
  where
    early : (k : ℕ) → early_number t address room ≡ k → (last : List Unit) (n : ℕ) → end_of t address limit room ≡ ended last n → length (encode last) ≤ room
    early (suc k) e last n f =
        let h : refused (suc k) ≡ ended last n = rw (end_of, e) at f in
        let z : suc k ≡ 0 = ap end_number h in
        absurd (not_nought k z)
    early zero e last n f =
        let z = early_zero t address room e in
        let walk = ((walk_is limit (rules_of t) (rules_one t z.0) (start_of address)).ends last n).0 (sym (late t address limit room z.0 z.1 z.2) ∙ f) in
        let short = path_short walk.path (start_standing address s z.1).begins.short in
        let b : room ≡ 255 = z.2 in
        omega arith

    go : (x : End) → end_of t address limit room ≡ x → length (out_for x room) ≡ room
    go (refused n) e = by_length n [] room (λ h. omega arith)
    go (ended last n) e = by_length 0 (encode last) room (λ h. early (early_number t address room) refl last n e)

-- ---- collapse
-- the records have room in the output
pub collapse_filled : (t x : List ℕ) (size : ℕ) → length (collapse_out t x size) ≡ size
unfolding collapse.number_of misshapen passes
collapse_filled t x size = by_length (collapse.number_of t x size) (flat (fold_of x t)) size fits
  where
    fits : collapse.number_of t x size ≡ 0 → length (flat (fold_of x t)) ≤ size
    fits e =
        let o = else_zero (entry_number t x) _ e in
        let z = earns_zero (misshapen size) 4 _ o.1 in
        let v = earns_zero (reviving x t) 8 _ z.1 in
        let p = or_false (ltb (size / record_size) (length (fold_of x t))) _ (earns_zero (passes size (fold_of x t)) 6 _ v.1).0 in
        let r = ltb-false (size / record_size) (length (fold_of x t)) p.0 in
        let n = octets_length (fold_of x t) (fold_whole x t) in
        omega arith
