-- `nametext::reading::counted_part` meets its contract: one law for each return.
use Rattle.std.specs.Int.{div_ceil}
use Prim.Native.Nat.{ℕ, ◌+◌, ◌-◌, ◌*◌, ◌/◌, ◌≤◌}
use mathlib.Core.List.{[], ◌∷◌}
use mathlib.Core.Path.{◌≡◌, sym, ◌∙◌}
use lib.ListN.{length, drop}
use native.Mathlib.Omega.{arith}
use borrow.Author.Rules.{rules}
use borrow.Author.Tests.{not-true, not-false}
use Rattle.octets.specs.Octets.{same}
use Rattle.text.specs.Decimal.{digit_count, is_decimal, decimal_of}
use Rattle.nametext.specs.Places.{Quartered}
use Rattle.text.proofs.RunLaws.{rest_whole}
use Rattle.nametext.proofs.BitPartLaws.{slash_inside, last_hex, found_formed, found_next, next_inside, no_decimal, open_counted, wrong_digits, bits_set, large_counted, part_counted}
use Rattle.nametext.proofs.reading.counted_part.Goals.{After-read_decimal-t, After-closes, After-read_quarters-v, then-not-t-via-then-not-t, then-not-t-via-else-not-t+then-not-closes, then-v-div_ceil-via-then-v-div_ceil, then-v-div_ceil-via-else-v-div_ceil+then-not-is_clear}
use Rattle.nametext.proofs.reading.counted_part.Goals as goal

pub overflow_add-from : goal.overflow_add-from
overflow_add-from c = omega (arith, slash_inside c.args.p.now c.args.e c.requires.3)

-- the place after the count
next : (c : After-read_decimal-t) → c.read_decimal-t.result.next ≡ c.args.e + 1 + digit_count (drop (c.args.e + 1) c.args.p.now)
next c = found_next c.read_decimal-t.result c.args.p.now (c.args.e + 1) 256 c.read_decimal-t.ensures

within : (c : After-read_decimal-t) → c.read_decimal-t.result.next ≤ length c.args.p.now
within c = next_inside c.args.p.now (c.args.e + 1) c.read_decimal-t.result.next (next c) (omega (arith, slash_inside c.args.p.now c.args.e c.requires.3))

formed : (c : After-read_decimal-t) → c.read_decimal-t.result.formed ≡ is_decimal (drop (c.args.e + 1) c.args.p.now)
formed c = found_formed c.read_decimal-t.result c.args.p.now (c.args.e + 1) 256 c.read_decimal-t.ensures

closed : (c : After-closes) → c.closes.result ≡ same (drop c.read_decimal-t.result.next c.args.p.now) (93 ∷ [])
closed c = rw (rest_whole c.args.p.now c.read_decimal-t.result.next) at c.closes.ensures

pub slice_bounds-closes-count : goal.slice_bounds-closes-count
slice_bounds-closes-count c = within (goal.at.slice_bounds-closes-count c).After-read_decimal-t

pub slice_bounds-closes-start : goal.slice_bounds-closes-start
slice_bounds-closes-start c =
    let h : c.read_decimal-t.result.next ≤ length c.args.p.now = within (goal.at.slice_bounds-closes-start c).After-read_decimal-t in
    search rules

pub returns-then-not-t : goal.returns-then-not-t
returns-then-not-t c =
    let a = c.args in
    let r = c.requires in
    let d = c.read_decimal-t in
    let here = (goal.at.returns-then-not-t c).After-read_decimal-t in
    elim c.then-not-t.branch [
      | then-not-t-via-then-not-t w ↦ no_decimal a.p.now a.e r.0 r.3 (sym (formed here) ∙ not-true d.result.formed w.if-not-t.true)
      | then-not-t-via-else-not-t+then-not-closes w ↦
          open_counted a.p.now a.e r.0 r.3 d.result.next (next here)
          (sym (rw (rest_whole a.p.now d.result.next) at w.closes.ensures) ∙ w.if-not-closes.true)
    ]

pub read_quarters-v-requires : goal.read_quarters-v-requires
read_quarters-v-requires c = omega (arith, slash_inside c.args.p.now c.args.e c.requires.3)

pub bounds-p-e : goal.bounds-p-e
bounds-p-e c = omega (arith, slash_inside c.args.p.now c.args.e c.requires.3)

pub is_clear-requires : goal.is_clear-requires
is_clear-requires c = (last_hex c.args.p.now c.args.e c.requires.0 c.requires.1, c.read_quarters-v.ensures.rest)

-- the digits that the count has
quarters : (c : After-read_quarters-v) → Quartered (decimal_of (drop (c.args.e + 1) c.args.p.now)) (4 * (c.args.e - 3 + 1)) c.read_quarters-v.result
quarters c = rw (rest_whole c.args.p.now (c.args.e + 1)) at c.read_quarters-v.ensures

-- the digits that the count needs
digits : (c : After-read_quarters-v) (n : ℕ) → n ≡ div_ceil c.read_quarters-v.result.rest 4 → n ≡ (c.read_quarters-v.result.rest + 3) / 4
digits c n e = omega arith

pub returns-then-v-div_ceil : goal.returns-then-v-div_ceil
returns-then-v-div_ceil c =
    let a = c.args in
    let r = c.requires in
    let v = c.read_quarters-v in
    let n = digits (goal.at.returns-then-v-div_ceil c).After-read_quarters-v c.div_ceil.result c.div_ceil.ensures in
    elim c.then-v-div_ceil.branch [
      | then-v-div_ceil-via-then-v-div_ceil w ↦ wrong_digits a.p.now a.e r.0 r.3 v.result (quarters (goal.at.returns-then-v-div_ceil c).After-read_quarters-v) (rw n at w.if-v-div_ceil.true)
      | then-v-div_ceil-via-else-v-div_ceil+then-not-is_clear w ↦
          bits_set a.p.now a.e r.0 r.3 v.result (quarters (goal.at.returns-then-v-div_ceil c).After-read_quarters-v) (rw n at w.if-v-div_ceil.false) r.1 (sym w.is_clear.ensures ∙ w.if-not-is_clear.true)
    ]

pub returns-then-d-gt64 : goal.returns-then-d-gt64
returns-then-d-gt64 c =
    let a = c.args in
    let r = c.requires in
    let v = c.read_quarters-v in
    let d = c.read_decimal-t in
    let here = (goal.at.returns-then-d-gt64 c).After-read_decimal-t in
    let n = digits (goal.at.returns-then-d-gt64 c).After-read_quarters-v c.div_ceil.result c.div_ceil.ensures in
    large_counted a.p.now a.e r.0 r.3 v.result (quarters (goal.at.returns-then-d-gt64 c).After-read_quarters-v) (rw n at c.if-v-div_ceil.false) r.1 r.2
    (sym (formed here) ∙ not-false d.result.formed c.if-not-t.false)
    d.result.next (next here) (sym (closed (goal.at.returns-then-d-gt64 c).After-closes) ∙ c.if-not-closes.false)
    (sym c.is_clear.ensures ∙ c.if-not-is_clear.false) c.if-d-gt64.true

pub returns : goal.returns
returns c =
    let a = c.args in
    let r = c.requires in
    let v = c.read_quarters-v in
    let d = c.read_decimal-t in
    let here = (goal.at.returns c).After-read_decimal-t in
    let n = digits (goal.at.returns c).After-read_quarters-v c.div_ceil.result c.div_ceil.ensures in
    part_counted a.p.now a.e r.0 r.3 v.result (quarters (goal.at.returns c).After-read_quarters-v) (rw n at c.if-v-div_ceil.false) r.1 r.2
    (sym (formed here) ∙ not-false d.result.formed c.if-not-t.false)
    d.result.next (next here) (sym (closed (goal.at.returns c).After-closes) ∙ c.if-not-closes.false)
    (sym c.is_clear.ensures ∙ c.if-not-is_clear.false) c.if-d-gt64.false
