-- `line::reading::rest_words` meets its contract: the address alone, the target alone, or both, one law for each return.
use Prim.Native.Nat.{ℕ, ◌≤◌, ◌<◌}
use mathlib.Core.Path.{◌≡◌, refl, ap, sym, ◌∙◌, subst}
use lib.ListN.{length}
use native.Mathlib.Omega.{arith}
use borrow.Author.Rules.{rules}
use Rattle.std.specs.Prelude.{Ok, Err}
use Rattle.octets.specs.Octets.{blank}
use Rattle.line.specs.declared.reading.Rest.{Rest}
use Rattle.line.specs.Walk.{word_end, passed, tail_from, full_of, late_number}
use Rattle.line.specs.Walked.{RestAt, prefix_in}
use Rattle.line.proofs.WalkLaws.{end_within}
use Rattle.line.proofs.ValueLaws.{value_done, value_given}
use Rattle.line.proofs.RestLaws.{at_within, full_none, address_missed, address_zero, finished_more, finished_is, bare_not, bare_is, full_kept, full_unformed, full_more, full_is}
use Rattle.line.proofs.reading.rest_words.Goals.{After-pass-at, In-Ok-eq0, In_default, Then-word_end-body, in_default-via-in-Ok-eq128+else-word_end-body, in_default-via-in-Ok+in_default, in_default-via-in_default}
use Rattle.line.proofs.reading.rest_words.Goals as goal

-- the first word after the prefix length lies within the text
within : (c : After-pass-at) → c.pass-at.result ≤ length c.args.body.now
within c = at_within c.args.body.now c.args.from c.pass-at.result c.requires c.pass-at.ensures

-- a prefix length of 0, and of 128 where one word is left
none : (c : In-Ok-eq0) → prefix_in c.args.prefix ≡ 0
none c = let e = ap prefix_in c.in-Ok-eq0.is in let t = c.in-Ok-eq0.field-0-test in omega (arith, e, t)

whole : (c : Then-word_end-body) → prefix_in c.args.prefix ≡ 128
whole c = let e = ap prefix_in c.in-Ok-eq128.is in let t = c.in-Ok-eq128.field-0-test in omega (arith, e, t)

-- and any other
other : (c : In_default) → (prefix_in c.args.prefix ≡ 0 → ⊥) × (prefix_in c.args.prefix ≡ 128 → word_end c.args.body.now c.pass-at.result < length c.args.body.now)
other c =
    let s = c.args.body.now in
    let m = c.pass-at in
    let w = end_within s m.result (at_within s c.args.from m.result c.requires m.ensures) in
    elim c.in_default.branch [
      | in_default-via-in-Ok-eq128+else-word_end-body k ↦
          let e = ap prefix_in k.in-Ok-eq128.is in
          let t = k.in-Ok-eq128.field-0-test in
          (λ z. omega (arith, e, t), λ z. omega (arith, w, k.word_end.ensures, k.if-word_end-body.false))
      | in_default-via-in-Ok+in_default k ↦
          let e = ap prefix_in k.in_default.is in
          let t = k.in_default.field-0-test in
          (λ z. omega (arith, e, t.0), λ z. let y : ⊥ = omega (arith, e, t.1) in absurd y)
      | in_default-via-in_default k ↦
          let e = ap prefix_in k.in_default.is in
          (λ z. omega (arith, e), λ z. let y : ⊥ = omega (arith, e) in absurd y)
    ]

-- what the words earn, by a prefix length that is known
late_at : (c : After-pass-at) (l n : ℕ) → prefix_in c.args.prefix ≡ l → late_number l (full_of l (tail_from c.args.body.now c.args.from)) ≡ n
    → late_number (prefix_in c.args.prefix) (full_of (prefix_in c.args.prefix) (tail_from c.args.body.now c.args.from)) ≡ n
late_at c l n e h = ap (λ (m : ℕ). late_number m (full_of m (tail_from c.args.body.now c.args.from))) e ∙ h

pub address_word-requires : goal.address_word-requires
address_word-requires c = within (goal.at.address_word-requires c).After-pass-at

pub returns-in_err-address-in-Ok-eq0 : goal.returns-in_err-address-in-Ok-eq0
returns-in_err-address-in-Ok-eq0 c =
    let a = c.args in
    let s = a.body.now in
    let h = c.in_err-address-in-Ok-eq0.ensures in
    let r : c.from_residual.result ≡ Err c.in_err-address-in-Ok-eq0.field-0.0 = search rules in
    rw r (
      h.0,
      late_at (goal.at.returns-in_err-address-in-Ok-eq0 c).After-pass-at 0 20 (none (goal.at.returns-in_err-address-in-Ok-eq0 c).In-Ok-eq0)
          (address_missed s a.from c.pass-at.result c.requires c.pass-at.ensures 0 (full_none (tail_from s a.from)) (λ z. let k = h.1 in omega arith)),
    )

pub returns-then-address-body : goal.returns-then-address-body
returns-then-address-body c =
    let a = c.args in
    let s = a.body.now in
    let h = c.in_ok-address-in-Ok-eq0.ensures in
    let w = end_within s c.pass-at.result (within (goal.at.returns-then-address-body c).After-pass-at) in (
      refl,
      late_at (goal.at.returns-then-address-body c).After-pass-at 0 20 (none (goal.at.returns-then-address-body c).In-Ok-eq0)
          (finished_more s a.from c.pass-at.result c.requires c.pass-at.ensures (address_zero _ h.0) (omega (arith, h.2, c.if-address-body.true))),
    )

-- an address that has its form has its value
pub returns-in_err-address-in-Ok-eq0-2 : goal.returns-in_err-address-in-Ok-eq0-2
returns-in_err-address-in-Ok-eq0-2 c =
    let h = c.in_ok-address-in-Ok-eq0.ensures in
    let v = value_done _ _ (address_zero _ h.0) ∙ sym h.1 ∙ c.in_err-address-in-Ok-eq0-2.was in cc

pub returns-in_ok-address-in-Ok-eq0-2 : goal.returns-in_ok-address-in-Ok-eq0-2
returns-in_ok-address-in-Ok-eq0-2 c =
    let a = c.args in
    let s = a.body.now in
    let h = c.in_ok-address-in-Ok-eq0.ensures in
    let v = value_given _ _ _ (sym h.1 ∙ c.in_ok-address-in-Ok-eq0-2.was) in
    let r : Rest = record { address = c.in_ok-address-in-Ok-eq0-2.field-0; target = Ok c.none.result } in
    subst (λ (l : ℕ). RestAt s a.from l (Ok r)) (sym (none (goal.at.returns-in_ok-address-in-Ok-eq0-2 c).In-Ok-eq0))
    (finished_is s a.from c.pass-at.result c.requires c.pass-at.ensures (address_zero _ h.0) (sym h.2 ∙ c.if-address-body.false) r (sym v.1) (ap Ok c.none.ensures))

pub name_word-requires : goal.name_word-requires
name_word-requires c = within (goal.at.name_word-requires c).After-pass-at

pub returns-in_err-target-in-Ok-eq128 : goal.returns-in_err-target-in-Ok-eq128
returns-in_err-target-in-Ok-eq128 c =
    let a = c.args in
    let h = c.in_err-target-in-Ok-eq128.ensures in
    let r : c.from_residual-in_err-target-in-Ok-eq128.result ≡ Err c.in_err-target-in-Ok-eq128.field-0.0 = search rules in
    rw r (
      h.0,
      late_at (goal.at.returns-in_err-target-in-Ok-eq128 c).After-pass-at 128 20 (whole (goal.at.returns-in_err-target-in-Ok-eq128 c).Then-word_end-body)
          (bare_not a.body.now a.from c.pass-at.result c.requires c.pass-at.ensures (sym c.word_end.ensures ∙ c.if-word_end-body.true) h.1),
    )

pub returns-in_ok-target-in-Ok-eq128 : goal.returns-in_ok-target-in-Ok-eq128
unfolding blank
returns-in_ok-target-in-Ok-eq128 c =
    let a = c.args in
    let s = a.body.now in
    let h = c.in_ok-target-in-Ok-eq128.ensures in
    let r : Rest = record { address = blank 16; target = c.in_ok-target-in-Ok-eq128.target.value } in
    subst (λ (l : ℕ). RestAt s a.from l (Ok r)) (sym (whole (goal.at.returns-in_ok-target-in-Ok-eq128 c).Then-word_end-body))
    (bare_is s a.from c.pass-at.result c.requires c.pass-at.ensures (sym c.word_end.ensures ∙ c.if-word_end-body.true) h.0 r refl h.1)

pub address_word-requires-in_default : goal.address_word-requires-in_default
address_word-requires-in_default c = within (goal.at.address_word-requires-in_default c).After-pass-at

pub returns-in_err-address-in_default : goal.returns-in_err-address-in_default
returns-in_err-address-in_default c =
    let a = c.args in
    let s = a.body.now in
    let l = prefix_in a.prefix in
    let q = other (goal.at.returns-in_err-address-in_default c).In_default in
    let h = c.in_err-address-in_default.ensures in
    let r : c.from_residual-in_err-address-in_default.result ≡ Err c.in_err-address-in_default.field-0.0 = search rules in
    rw r (h.0, address_missed s a.from c.pass-at.result c.requires c.pass-at.ensures l (full_kept s a.from c.pass-at.result c.requires c.pass-at.ensures l q.1) (λ z. let k = h.1 in omega arith))

pub name_word-requires-in_default : goal.name_word-requires-in_default
name_word-requires-in_default c =
    let s = c.args.body.now in
    at_within s (word_end s c.pass-at.result) c.pass.result (end_within s c.pass-at.result (within (goal.at.name_word-requires-in_default c).After-pass-at)) (c.pass.ensures ∙ ap (passed s) c.in_ok-address-in_default.ensures.2)

pub returns-in_err-target-in_default : goal.returns-in_err-target-in_default
returns-in_err-target-in_default c =
    let a = c.args in
    let s = a.body.now in
    let l = prefix_in a.prefix in
    let q = other (goal.at.returns-in_err-target-in_default c).In_default in
    let h = c.in_ok-address-in_default.ensures in
    let t = c.in_err-target-in_default.ensures in
    let r : c.from_residual-in_err-target-in_default.result ≡ Err c.in_err-target-in_default.field-0.0 = search rules in
    rw r (t.0, full_unformed s a.from c.pass-at.result c.requires c.pass-at.ensures l q.0 (full_kept s a.from c.pass-at.result c.requires c.pass-at.ensures l q.1) (address_zero _ h.0) c.pass.result (c.pass.ensures ∙ ap (passed s) h.2) t.1)

pub returns-then-target-body : goal.returns-then-target-body
returns-then-target-body c =
    let a = c.args in
    let s = a.body.now in
    let l = prefix_in a.prefix in
    let q = other (goal.at.returns-then-target-body c).In_default in
    let h = c.in_ok-address-in_default.ensures in
    let t = c.in_ok-target-in_default.ensures in
    let o = c.pass.ensures ∙ ap (passed s) h.2 in
    let w = end_within s c.pass.result (at_within s (word_end s c.pass-at.result) c.pass.result (end_within s c.pass-at.result (within (goal.at.returns-then-target-body c).After-pass-at)) o) in
    (refl, full_more s a.from c.pass-at.result c.requires c.pass-at.ensures l q.0 (full_kept s a.from c.pass-at.result c.requires c.pass-at.ensures l q.1) (address_zero _ h.0) c.pass.result o t.0 (omega (arith, t.2, c.if-target-body.true)))

-- an address that has its form has its value
pub returns-in_err-address-in_default-2 : goal.returns-in_err-address-in_default-2
returns-in_err-address-in_default-2 c =
    let h = c.in_ok-address-in_default.ensures in
    let v = value_done _ _ (address_zero _ h.0) ∙ sym h.1 ∙ c.in_err-address-in_default-2.was in cc

pub returns-in_ok-address-in_default-2 : goal.returns-in_ok-address-in_default-2
returns-in_ok-address-in_default-2 c =
    let a = c.args in
    let s = a.body.now in
    let l = prefix_in a.prefix in
    let q = other (goal.at.returns-in_ok-address-in_default-2 c).In_default in
    let h = c.in_ok-address-in_default.ensures in
    let t = c.in_ok-target-in_default.ensures in
    let v = value_given _ _ _ (sym h.1 ∙ c.in_ok-address-in_default-2.was) in
    full_is s a.from c.pass-at.result c.requires c.pass-at.ensures l q.0 (full_kept s a.from c.pass-at.result c.requires c.pass-at.ensures l q.1) (address_zero _ h.0) c.pass.result (c.pass.ensures ∙ ap (passed s) h.2) t.0 (sym t.2 ∙ c.if-target-body.false)
    (record { address = c.in_ok-address-in_default-2.field-0; target = c.in_ok-target-in_default.target.value }) (sym v.1) t.1
