-- `forward::look` meets its contract: the arrays are the table's records, renamed.
use Prim.Native.Nat.{ℕ, ◌/◌}
use mathlib.Core.Path.{◌≡◌, ap, ◌∙◌, sym}
use mathlib.Core.List.{List}
use lib.ListN.{length, get_or, take}
use lib.Seq.{length-take-le}
use native.Mathlib.Omega.{arith}
use Rattle.chains.specs.Lists.{pick}
use Rattle.plan.specs.Layout.{is_a6, count_of, record_at}
use Rattle.plan.proofs.OrderLaws.{order_count}
use Rattle.numbering.specs.Numbers.{number_in, names_of, own_number, target_number}
use Rattle.plan.specs.Graph.{graph_of}
use Rattle.numbering.proofs.NamesLaws.{filled_at}
use Rattle.forward.specs.Gather.{no_owner, search_owner}
use Rattle.search.specs.Search as search'
use Rattle.search.specs.Answers.{number_of, answer_of, output_of, lives_of}
use Rattle.forward.proofs.LookupLaws.{Filled, number_like, answer_like, output_like, lives_like, read_numbered, number_below, work_read, addresses_read, lifetime_read}
use Rattle.forward.proofs.look.Goals.{After-count-n}
use Rattle.forward.proofs.look.Goals as goal

pub number-x-requires-clause-table_in_bounds : goal.number-x-requires-clause-table_in_bounds
number-x-requires-clause-table_in_bounds c = let n = order_count c.args.table.now c.requires.in_order.0 in (n, n)

pub set_owners-requires : goal.set_owners-requires
set_owners-requires c =
    let n = order_count c.args.table.now c.requires.in_order.0 in
    let k : length c.number-x.new.own ≡ 1024 = c.number-x.auto.own in
    omega arith

pub set_fields-requires : goal.set_fields-requires
set_fields-requires c =
    let n = order_count c.args.table.now c.requires.in_order.0 in
    let k : length c.number-x.new.target ≡ 1024 = c.number-x.auto.target in
    (omega arith, n)

-- what the arrays hold before the search
filled_up : (c : After-count-n) → Filled c.args.table.now c.set_owners.new.owners c.set_fields.new.fields
filled_up c =
    let t = c.args.table.now in
    let o = c.requires.in_order.0 in
    let n = order_count t o in
    let numbers = c.number-x in
    let k : length numbers.new.own ≡ 1024 = numbers.auto.own in
    let l : length c.set_owners.new.owners ≡ length numbers.new.own = c.set_owners.auto.owners in
    let m : length c.set_fields.new.fields ≡ 1024 = c.set_fields.auto.fields in
    record {
      owner = λ i h. ap (λ (l : List ℕ). get_or l i 0) c.set_owners.ensures ∙ filled_at (search_owner t numbers.new.own) numbers.new.own (count_of t) i h (omega arith)
          ∙ ap (λ (m : ℕ). pick (is_a6 (record_at t i)) m no_owner) (ap (λ (l : List ℕ). get_or l i 0) numbers.ensures.owners ∙ filled_at (own_number t) _ (count_of t) i h n);
      target = λ i h. c.set_fields.ensures.target i h ∙ ap (λ (l : List ℕ). get_or l i 0) numbers.ensures.targets ∙ filled_at (target_number t) _ (count_of t) i h n;
      rest = (_, c.set_fields.ensures);
      owners_long = omega arith;
      fields_long = omega arith;
    }

pub slice_bounds-owners-end : goal.slice_bounds-owners-end
slice_bounds-owners-end c = rw c.count-n.ensures (filled_up c).owners_long

pub slice_bounds-records-end : goal.slice_bounds-records-end
slice_bounds-records-end c =
    let here = (goal.at.slice_bounds-records-end c).After-count-n in
    sym (length-take-le c.count-n.result c.set_owners.new.owners (rw c.count-n.ensures (filled_up here).owners_long))

pub slice_bounds-fields-end : goal.slice_bounds-fields-end
slice_bounds-fields-end c =
    let here = (goal.at.slice_bounds-fields-end c).After-count-n in
    rw c.count-n.ensures (filled_up here).fields_long

pub slice_bounds-records-end-2 : goal.slice_bounds-records-end-2
slice_bounds-records-end-2 c =
    let here = (goal.at.slice_bounds-records-end-2 c).After-count-n in
    sym (length-take-le c.count-n.result c.set_fields.new.fields (rw c.count-n.ensures (filled_up here).fields_long))

pub find-requires-clause-numbered : goal.find-requires-clause-numbered
find-requires-clause-numbered c =
    let here = (goal.at.find-requires-clause-numbered c).After-count-n in
    let t = c.args.table.now in
    let o = c.requires.in_order.0 in
    (rw c.count-n.ensures (read_numbered t _ _ o (filled_up here)), rw c.number-x.ensures.name (number_below t _ _ o (filled_up here) c.args.name.now))

pub returns : goal.returns
returns c =
    let here = (goal.at.returns c).After-count-n in
    let t = c.args.table.now in
    let o = c.requires.in_order.0 in
    let x = c.args.name.now in
    let limit = c.args.limit in
    let size = length c.args.out.now in
    let full = filled_up here in
    let y = number_in (names_of t) x in
    let h = search'.graph_of (search'.records (take (count_of t) c.set_owners.new.owners) (take (count_of t) c.set_fields.new.fields)) in
    let w = work_read t _ _ o full x in
    let a = addresses_read t _ _ o full x in
    let found = c.find.ensures in
    let turned = rw (c.count-n.ensures, c.number-x.ensures.name) at found in
    record {
      value = turned.value ∙ sym (answer_like (graph_of t) h x y w a (number_of (graph_of t) x limit (size / 16)) ∙ ap (answer_of h y) (number_like (graph_of t) h x y w a limit (size / 16)));
      out_after = turned.out_after ∙ sym (output_like (graph_of t) h x y w a (number_of (graph_of t) x limit (size / 16)) size ∙ ap (λ (k : ℕ). output_of h y k size) (number_like (graph_of t) h x y w a limit (size / 16)));
      lives_after = turned.lives_after ∙ sym (lives_like (graph_of t) h x y w a (lifetime_read t _ _ o full x) (number_of (graph_of t) x limit (size / 16)) (size / 16) ∙ ap (λ (k : ℕ). lives_of h y k (size / 16)) (number_like (graph_of t) h x y w a limit (size / 16)));
    }
