-- `line::reading::read_words` meets its contract: what is known after each word, and one law for each return.
use Prim.Native.Nat.{◌≤◌}
use mathlib.Core.Path.{◌≡◌, ap, sym, ◌∙◌}
use lib.ListN.{length}
use borrow.Author.Rules.{rules}
use native.Mathlib.Omega.{arith}
use mathlib.Core.Bool.{true, false}
use Rattle.std.specs.Prelude.{Ok, Err}
use Rattle.octets.specs.Octets.{blank}
use Rattle.octets.specs.declared.Refusal.TheVariants.{Range}
use Rattle.line.proofs.WalkLaws.{end_within}
use Rattle.line.proofs.ValueLaws.{value_done, value_given, value_some, value_passed, value_refused, value_formless, value_range}
use Rattle.line.proofs.RestLaws.{late_known}
use Rattle.line.proofs.ReadLaws.{decimal_low}
use Rattle.line.proofs.ReadingLaws.{missed_owner, missed_lived, length_within, missed_length, rest_within, missed_rest, over_lived, over_length, over_target, none_owner, none_target, all_zero, all_fields}
use Rattle.line.proofs.reading.read_words.Goals.{in-Err-Range, in_default, in_default-2}
use Rattle.line.proofs.reading.read_words.Goals as goal

pub returns-in_err-owner : goal.returns-in_err-owner
returns-in_err-owner c =
    let s = c.args.body.now in
    let r : c.from_residual.result ≡ Err c.in_err-owner.field-0.0 = search rules in
    r ∙ value_formless _ _ _ c.in_err-owner.ensures.0 (missed_owner s c.in_err-owner.ensures.1)

pub lived_words-requires : goal.lived_words-requires
lived_words-requires c = rw c.in_ok-owner.ensures.2 (end_within c.args.body.now 0 (omega arith))

pub returns-in_err-lived : goal.returns-in_err-lived
returns-in_err-lived c =
    let s = c.args.body.now in
    let r : c.from_residual-in_err-lived.result ≡ Err c.in_err-lived.field-0.0 = search rules in
    r ∙ value_formless _ _ _ c.in_err-lived.ensures.0 (missed_lived s c.in_ok-owner.owner.next c.in_ok-owner.ensures.2 c.in_err-lived.ensures.1)

pub decimal_word-requires : goal.decimal_word-requires
decimal_word-requires c =
    rw c.pass.ensures (length_within c.args.body.now c.in_ok-owner.owner.next c.in_ok-owner.ensures.2 c.in_ok-lived.lived.next c.in_ok-lived.ensures.2)

pub returns-in_err-length : goal.returns-in_err-length
returns-in_err-length c =
    let s = c.args.body.now in
    let r : c.from_residual-in_err-length.result ≡ Err c.in_err-length.field-0.0 = search rules in
    r ∙ value_formless _ _ _ c.in_err-length.ensures.0 (missed_length s c.in_ok-owner.owner.next c.in_ok-owner.ensures.2 c.in_ok-lived.lived.next c.in_ok-lived.ensures.2 c.pass.result c.pass.ensures c.in_err-length.ensures.1)

pub rest_words-requires : goal.rest_words-requires
rest_words-requires c =
    let s = c.args.body.now in
    let l = c.in_ok-length in
    let w : c.pass.result ≤ length s = rw c.pass.ensures (length_within s c.in_ok-owner.owner.next c.in_ok-owner.ensures.2 c.in_ok-lived.lived.next c.in_ok-lived.ensures.2) in
    rest_within s c.in_ok-owner.owner.next c.in_ok-owner.ensures.2 c.in_ok-lived.lived.next c.in_ok-lived.ensures.2 c.pass.result c.pass.ensures l.length.next l.ensures.2 l.ensures.0 l.length.value l.ensures.1 w

pub returns-in_err-rest : goal.returns-in_err-rest
returns-in_err-rest c =
    let s = c.args.body.now in
    let l = c.in_ok-length in
    let r : c.from_residual-in_err-rest.result ≡ Err c.in_err-rest.field-0.0 = search rules in
    r ∙ value_formless _ _ _ c.in_err-rest.ensures.0 (missed_rest s c.in_ok-owner.owner.next c.in_ok-owner.ensures.2 c.in_ok-lived.lived.next c.in_ok-lived.ensures.2 c.pass.result c.pass.ensures l.length.next l.ensures.2 l.ensures.0 l.length.value l.ensures.1 c.in_err-rest.ensures.1)

pub returns-in_err-ttl : goal.returns-in_err-ttl
returns-in_err-ttl c =
    let s = c.args.body.now in
    let o = c.in_ok-owner in
    let v = c.in_ok-lived in
    let l = c.in_ok-length in
    let x = c.in_ok-rest in
    let e = sym v.ensures.1 ∙ c.in_err-ttl.was in
    let r : c.from_residual-in_err-ttl.result ≡ Err c.in_err-ttl.field-0.0 = search rules in
    r ∙ value_passed _ _ _ _ _ e (over_lived s o.owner.next o.ensures.2 v.lived.next v.ensures.2 c.pass.result c.pass.ensures l.length.next l.ensures.2 l.ensures.0 l.length.value l.ensures.1 o.ensures.0 v.ensures.0 x.ensures.0 (value_some _ _ _ e))

pub returns-in_err-prefix : goal.returns-in_err-prefix
returns-in_err-prefix c =
    let s = c.args.body.now in
    let o = c.in_ok-owner in
    let v = c.in_ok-lived in
    let l = c.in_ok-length in
    let x = c.in_ok-rest in
    let t = value_given _ _ _ (sym v.ensures.1 ∙ c.in_ok-ttl.was) in
    let e = sym l.ensures.1 ∙ c.in_err-prefix.was in
    let r : c.from_residual-in_err-prefix.result ≡ Err c.in_err-prefix.field-0.0 = search rules in
    r ∙ value_passed _ _ _ _ _ e (over_length s o.owner.next o.ensures.2 v.lived.next v.ensures.2 c.pass.result c.pass.ensures l.length.next l.ensures.2 l.ensures.0 l.length.value l.ensures.1 o.ensures.0 v.ensures.0 x.ensures.0 t.0 (value_some _ _ _ e))

pub overflow_cast-prefix : goal.overflow_cast-prefix
overflow_cast-prefix c =
    let g = value_given _ _ _ (sym c.in_ok-length.ensures.1 ∙ c.in_ok-prefix.was) in
    let k = decimal_low 128 _ g.0 in
    let e = g.1 in
    search rules

pub returns-then-matches : goal.returns-then-matches
returns-then-matches c =
    let s = c.args.body.now in
    let o = c.in_ok-owner in
    let v = c.in_ok-lived in
    let l = c.in_ok-length in
    let x = c.in_ok-rest in
    let t = value_given _ _ _ (sym v.ensures.1 ∙ c.in_ok-ttl.was) in
    let p = value_given _ _ _ (sym l.ensures.1 ∙ c.in_ok-prefix.was) in
    elim c.match-matches.branch [
      | in-Err-Range w ↦ let y : x.rest.target ≡ Err Range = search rules in value_refused _ _ Range (sym (over_target s o.owner.next o.ensures.2 v.lived.next v.ensures.2 c.pass.result c.pass.ensures l.length.next l.ensures.2 l.ensures.0 l.length.value l.ensures.1 o.ensures.0 v.ensures.0 x.ensures.0 t.0 p.0 (value_range _ _ (late_known _ _) (sym x.ensures.2 ∙ y))))
      | in_default w ↦ let z : true ≡ false = sym c.if-matches.true ∙ w.matches-is in cc
      | in_default-2 w ↦ let z : true ≡ false = sym c.if-matches.true ∙ w.matches-is in cc
    ]

pub returns-in_err-owner-2 : goal.returns-in_err-owner-2
returns-in_err-owner-2 c =
    let s = c.args.body.now in
    let o = c.in_ok-owner in
    let v = c.in_ok-lived in
    let l = c.in_ok-length in
    let x = c.in_ok-rest in
    let t = value_given _ _ _ (sym v.ensures.1 ∙ c.in_ok-ttl.was) in
    let p = value_given _ _ _ (sym l.ensures.1 ∙ c.in_ok-prefix.was) in
    let e = sym o.ensures.1 ∙ c.in_err-owner-2.was in
    let r : c.from_residual-in_err-owner-2.result ≡ Err c.in_err-owner-2.field-0.0 = search rules in
    let n : x.rest.target ≡ Err Range → ⊥ = λ y. elim c.match-matches.branch [
      | in-Err-Range w ↦ let y : true ≡ false = sym w.matches-is ∙ c.if-matches.false in cc
      | in_default w ↦ search rules
      | in_default-2 w ↦ search rules
    ] in
    r ∙ value_passed _ _ _ _ _ e (none_owner s o.owner.next o.ensures.2 v.lived.next v.ensures.2 c.pass.result c.pass.ensures l.length.next l.ensures.2 l.ensures.0 l.length.value l.ensures.1 o.ensures.0 v.ensures.0 x.ensures.0 t.0 p.0 (value_some _ _ _ e) (λ z. n (x.ensures.2 ∙ sym (value_refused _ _ Range (sym z)))))

pub returns-in_err-target : goal.returns-in_err-target
returns-in_err-target c =
    let s = c.args.body.now in
    let o = c.in_ok-owner in
    let v = c.in_ok-lived in
    let l = c.in_ok-length in
    let x = c.in_ok-rest in
    let t = value_given _ _ _ (sym v.ensures.1 ∙ c.in_ok-ttl.was) in
    let p = value_given _ _ _ (sym l.ensures.1 ∙ c.in_ok-prefix.was) in
    let n = value_given _ _ _ (sym o.ensures.1 ∙ c.in_ok-owner-2.was) in
    let e = sym x.ensures.2 ∙ c.in_err-target.was in
    let r : c.from_residual-in_err-target.result ≡ Err c.in_err-target.field-0.0 = search rules in
    r ∙ value_passed _ _ _ _ _ e (none_target s o.owner.next o.ensures.2 v.lived.next v.ensures.2 c.pass.result c.pass.ensures l.length.next l.ensures.2 l.ensures.0 l.length.value l.ensures.1 o.ensures.0 v.ensures.0 x.ensures.0 t.0 p.0 n.0)

pub returns : goal.returns
unfolding blank
returns c =
    let s = c.args.body.now in
    let o = c.in_ok-owner in
    let v = c.in_ok-lived in
    let l = c.in_ok-length in
    let x = c.in_ok-rest in
    let t = value_given _ _ _ (sym v.ensures.1 ∙ c.in_ok-ttl.was) in
    let p = value_given _ _ _ (sym l.ensures.1 ∙ c.in_ok-prefix.was) in
    let n = value_given _ _ _ (sym o.ensures.1 ∙ c.in_ok-owner-2.was) in
    let d = value_given _ _ _ (sym x.ensures.2 ∙ c.in_ok-target.was) in
    let k = c.in_ok-prefix.field-0 in
    ap Ok ((λ i. record { prefix = k; address = c.join-address.ensures i; owner = c.in_ok-owner-2.owner; target = c.in_ok-target.target; ttl = c.in_ok-ttl.ttl })
    ∙ all_fields s o.owner.next o.ensures.2 v.lived.next v.ensures.2 c.pass.result c.pass.ensures l.length.next l.ensures.2 l.ensures.0 l.length.value l.ensures.1 o.ensures.0 v.ensures.0 x.ensures.0 t.0 p.0 n.0 d.0 k c.in_ok-ttl.ttl x.rest.address c.in_ok-owner-2.owner c.in_ok-target.target p.1 t.1 x.ensures.1 n.1 d.1)
    ∙ value_done _ _ (all_zero s o.owner.next o.ensures.2 v.lived.next v.ensures.2 c.pass.result c.pass.ensures l.length.next l.ensures.2 l.ensures.0 l.length.value l.ensures.1 o.ensures.0 v.ensures.0 x.ensures.0 t.0 p.0 n.0 d.0)
