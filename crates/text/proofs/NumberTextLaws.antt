-- Laws of writing a number digit by digit.
use Prim.Native.Nat.{ℕ, ◌+◌, ◌-◌, ◌/◌, ◌%◌, ◌≤◌, ◌<◌}
use mathlib.Core.Path.{◌≡◌, ap, sym, ◌∙◌}
use mathlib.Core.List.{List, [], ◌∷◌, ◌++◌, append-nil, append_assoc}
use lib.ListN.{length, set, length-append, length-map}
use native.Mathlib.Omega.{arith}
use Rattle.text.specs.Digits.{digits_of, digit_octet, number_text}
use Rattle.text.specs.Written.{written}
use Rattle.text.proofs.DigitLaws.{text_last, text_more, digits_some}
use Rattle.text.proofs.WrittenLaws.{written_none, written_length, written_before}

pub text_one : (base n : ℕ) → n < base → length (number_text base n) ≡ 1
text_one base n h = ap length (text_last base n h)

pub text_some : (base n : ℕ) → 0 < length (number_text base n)
unfolding number_text
text_some base n = let l = length-map (digits_of base n) digit_octet in let k = digits_some base n in omega arith

pub text_length : (base n : ℕ) → 2 ≤ base → base ≤ n → length (number_text base n) ≡ length (number_text base (n / base)) + 1
text_length base n b h = ap length (text_more base n b h) ∙ length-append (number_text base (n / base)) (digit_octet (n % base) ∷ [])

-- a number is being written from its last digit on: what is left of it comes before the place, and what stands after the place was put
pub record Putting (base n at : ℕ) (old out : List ℕ) (last left : ℕ) : Type 0 where
  pub after : List ℕ
  pub text : number_text base n ≡ number_text base left ++ after
  pub place : last + 1 ≡ at + length (number_text base left)
  pub put : out ≡ written old (last + 1) after

pub putting_start : (base n at : ℕ) (old : List ℕ) (last : ℕ) → last + 1 ≡ at + length (number_text base n) → Putting base n at old old last n
putting_start base n at old last e = record { after = []; text = sym (append-nil (number_text base n)); place = e; put = sym (written_none old (last + 1)) }

module _ {base n at : ℕ} {old out : List ℕ} {last left : ℕ} (p : Putting base n at old out last left) (r : at + length (number_text base n) ≤ length old) where
  putting_size : last + 1 + length p.after ≤ length old
  putting_size = let l = ap length p.text ∙ length-append (number_text base left) p.after in omega (arith, p.place)

  pub putting_within : last < length out
  putting_within = let s = putting_size in let l = ap length p.put ∙ written_length old (last + 1) p.after s in omega arith

  putting_set : (v d : ℕ) → v ≡ d → set out last v ≡ written old last (d ∷ p.after)
  putting_set v d e = rw (e, p.put) (written_before old last d p.after putting_size)

  pub putting_turn : (v : ℕ) → 2 ≤ base → base ≤ left → v ≡ digit_octet (left % base) → Putting base n at old (set out last v) (last - 1) (left / base)
  putting_turn v b h e =
      let l = text_length base left b h in
      let s = text_some base (left / base) in
      let q = p.place in
      let k : last - 1 + 1 ≡ last = omega arith in
      record {
        after = digit_octet (left % base) ∷ p.after;
        text = p.text ∙ ap (λ (t : List ℕ). t ++ p.after) (text_more base left b h) ∙ append_assoc (number_text base (left / base)) (digit_octet (left % base) ∷ []) p.after;
        place = omega arith;
        put = rw k (putting_set v (digit_octet (left % base)) e);
      }

  pub putting_end : (v : ℕ) → left < base → v ≡ digit_octet left → set out last v ≡ written old at (number_text base n)
  putting_end v h e =
      let o = text_one base left h in
      let q = p.place in
      let k : last ≡ at = omega arith in
      let t : digit_octet left ∷ p.after ≡ number_text base n = ap (λ (t : List ℕ). t ++ p.after) (sym (text_last base left h)) ∙ sym p.text in
      putting_set v (digit_octet left) e ∙ ap (λ (m : ℕ). written old m (digit_octet left ∷ p.after)) k ∙ ap (written old at) t
