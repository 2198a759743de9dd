-- `line::reading::lived_words` meets its contract: one law for each return.
use Prim.Native.Nat.{ℕ, ◌+◌, ◌≤◌}
use mathlib.Core.Path.{◌≡◌, refl, ap, sym, ◌∙◌}
use mathlib.Core.Bool.{false}
use lib.ListN.{length}
use borrow.Author.Rules.{rules}
use Rattle.std.specs.Prelude.{Ok, Err}
use Rattle.octets.specs.Octets.{same}
use Rattle.chains.specs.Graph.{max_ttl}
use Rattle.text.specs.Decimal.{decimal_of}
use Rattle.line.specs.Writing.{a6_word}
use Rattle.line.specs.Reading.{decimal_number}
use Rattle.line.specs.Walk.{word_at, passed, next}
use Rattle.line.specs.Walked.{value_by}
use Rattle.line.proofs.WalkLaws.{passed_within, end_within, next_within}
use Rattle.line.proofs.LivedLaws.{type_end, lived_typed, lived_unformed, lived_untyped, lived_both, passed_end}
use Rattle.line.proofs.reading.lived_words.Goals.{After-pass-at, After-pass-place, Else-is_type}
use Rattle.line.proofs.reading.lived_words.Goals as goal

-- the first word after the owner lies within the text
within : (c : After-pass-at) → c.pass-at.result ≤ length c.args.body.now
within c = rw c.pass-at.ensures (passed_within c.args.body.now c.args.from c.requires)

-- whether it is the type
untyped : (c : Else-is_type) → same (word_at c.args.body.now (passed c.args.body.now c.args.from)) a6_word ≡ false
untyped c = sym (ap (λ (p : ℕ). same (word_at c.args.body.now p) a6_word) c.pass-at.ensures) ∙ sym c.is_type.ensures ∙ c.if-is_type.false

-- the second word
second : (c : After-pass-place) → c.pass-place.result ≡ next c.args.body.now (passed c.args.body.now c.args.from)
second c =
    let s = c.args.body.now in
    c.pass-place.ensures ∙ passed_end s c.pass-at.result c.in_ok-ttl.ttl.next c.in_ok-ttl.ensures.2 ∙ ap (next s) c.pass-at.ensures

second_within : (c : After-pass-place) → c.pass-place.result ≤ length c.args.body.now
second_within c =
    let s = c.args.body.now in
    rw (second c) (next_within s (passed s c.args.from) (passed_within s c.args.from c.requires))

pub is_type-requires : goal.is_type-requires
is_type-requires c = within c

pub overflow_add-result : goal.overflow_add-result
overflow_add-result c =
    let here = (goal.at.overflow_add-result c).After-pass-at in
    let s = c.args.body.now in
    let t = sym c.is_type.ensures ∙ c.if-is_type.true in
    let e = type_end s c.pass-at.result t in
    let w = end_within s c.pass-at.result (within here) in
    search rules

pub returns-then-is_type : goal.returns-then-is_type
returns-then-is_type c =
    let s = c.args.body.now in
    let p = c.pass-at.ensures in
    lived_typed s c.args.from (record { value = Ok 300; next = c.pass-at.result + 2 }) (sym (ap (λ (q : ℕ). same (word_at s q) a6_word) p) ∙ sym c.is_type.ensures ∙ c.if-is_type.true) refl (ap (λ (q : ℕ). q + 2) p)

pub decimal_word-requires : goal.decimal_word-requires
decimal_word-requires c = within (goal.at.decimal_word-requires c).After-pass-at

pub returns-in_err-ttl : goal.returns-in_err-ttl
returns-in_err-ttl c =
    let here = (goal.at.returns-in_err-ttl c).Else-is_type in
    let s = c.args.body.now in
    let r : c.from_residual.result ≡ Err c.in_err-ttl.field-0.0 = search rules in
    rw r (c.in_err-ttl.ensures.0, lived_unformed s c.args.from (untyped here) (ap (λ (q : ℕ). decimal_number max_ttl (word_at s q)) (sym c.pass-at.ensures) ∙ c.in_err-ttl.ensures.1))

pub is_type-requires-2 : goal.is_type-requires-2
is_type-requires-2 c = second_within c

pub returns-then-not-is_type : goal.returns-then-not-is_type
returns-then-not-is_type c =
    let else_is_type = (goal.at.returns-then-not-is_type c).Else-is_type in
    let pass_place = (goal.at.returns-then-not-is_type c).After-pass-place in
    let s = c.args.body.now in
    (refl, lived_untyped s c.args.from (untyped else_is_type) (ap (λ (q : ℕ). same (word_at s q) a6_word) (sym (second pass_place)) ∙ sym c.is_type-2.ensures ∙ c.if-not-is_type.true))

pub overflow_add-result-2 : goal.overflow_add-result-2
overflow_add-result-2 c =
    let here = (goal.at.overflow_add-result-2 c).After-pass-place in
    let s = c.args.body.now in
    let p = c.pass-place.result in
    let t = sym c.is_type-2.ensures ∙ c.if-not-is_type.false in
    let e = type_end s p t in
    let w = end_within s p (second_within here) in
    search rules

pub returns : goal.returns
returns c =
    let else_is_type = (goal.at.returns c).Else-is_type in
    let pass_place = (goal.at.returns c).After-pass-place in
    let s = c.args.body.now in
    let p = c.pass-at.ensures in
    let d = c.in_ok-ttl.ensures in
    lived_both s c.args.from (record { value = c.in_ok-ttl.ttl.value; next = c.pass-place.result + 2 }) (untyped else_is_type)
    (ap (λ (q : ℕ). same (word_at s q) a6_word) (sym (second pass_place)) ∙ sym c.is_type-2.ensures ∙ c.if-not-is_type.false)
    (λ z. d.0 (ap (λ (q : ℕ). decimal_number max_ttl (word_at s q)) p ∙ z))
    (d.1 ∙ ap (λ (q : ℕ). value_by (decimal_number max_ttl (word_at s q)) (decimal_of (word_at s q))) p)
    (ap (λ (q : ℕ). q + 2) (second pass_place))
