-- Laws of digits: a number is what its digits write.
use Prim.Native.Nat.{ℕ, zero, suc, ◌+◌, ◌-◌, ◌*◌, ◌/◌, ◌%◌, ◌^◌, ◌≤◌, ◌<◌}
use mathlib.Core.Path.{◌≡◌, refl, ap, sym, ◌∙◌}
use mathlib.Core.Bool.{Bool, true, false, ◌&&◌, ◌||◌}
use mathlib.Core.List.{List, [], ◌∷◌, ◌++◌, append-nil, append_assoc, map-append}
use lib.Dec.{ltb, leb, eqb}
use lib.ListN.{length, get_or, length-append}
use native.Mathlib.Omega.{arith}
use native.Mathlib.Nat.{div-add-mod', mod-lt, div-lt_self, div-lt_iff_lt-mul, zero-mul, zero-add, one-mul, pow-zero, pow-suc, add-zero, mul-le-mul_right, mul-add-div_right, mul-add-mod_self_right, div-eq_of_lt, mod-eq_of_lt, le-div_iff_mul-le}
use borrow.Author.Tests.{lt-ltb, le-ltb, ltb-true, ltb-false, le-leb, lt-leb, ne_eqb, eqb-true, eqb-false}
use Rattle.octets.specs.Each.{Under}
use Rattle.octets.proofs.OctetLaws.{under_append, under_cons}
use Rattle.octets.proofs.BoolLaws.{or_true}
use Rattle.text.specs.Digits.{between, digits_up_to, digits_of, number_from, digit_octet, digit_in, number_text}

-- a number below the base is its own digit
pub digits_last : (most base n : ℕ) → n < base → digits_up_to (suc most) base n ≡ n ∷ []
unfolding digits_up_to
digits_last most base n h = rw (lt-ltb n base h, digits_up_to)

-- any other number ends in its remainder
pub digits_more : (most base n : ℕ) → base ≤ n → digits_up_to (suc most) base n ≡ digits_up_to most base (n / base) ++ (n % base ∷ [])
unfolding digits_up_to
digits_more most base n h = rw (le-ltb n base h, digits_up_to)

pub number_snoc : (base v d : ℕ) (ds : List ℕ) → number_from base v (ds ++ (d ∷ [])) ≡ number_from base v ds * base + d
unfolding number_from
number_snoc base v d [] = refl
number_snoc base v d (e ∷ ds) = number_snoc base (v * base + e) d ds

number_one : (base n : ℕ) → number_from base 0 (n ∷ []) ≡ n
unfolding number_from
number_one base n = rw (zero-mul base) (zero-add n)

-- what the digits of a number write is the number
pub number_digits_up : (most base n : ℕ) → 2 ≤ base → n < most → number_from base 0 (digits_up_to most base n) ≡ n
number_digits_up zero base n b h = let z : ⊥ = omega arith in absurd z
number_digits_up (suc most) base n b h = go (ltb n base) refl (number_digits_up most base (n / base) b)
  where
    go : (t : Bool) → ltb n base ≡ t → (n / base < most → number_from base 0 (digits_up_to most base (n / base)) ≡ n / base) → number_from base 0 (digits_up_to (suc most) base n) ≡ n
    go true e k = rw (digits_last most base n (ltb-true n base e)) (number_one base n)
    go false e k =
        let o : base ≤ n = ltb-false n base e in
        let p : 0 < n = omega arith in
        let q : n / base < n = div-lt_self p b in
        rw (digits_more most base n o, number_snoc base 0 (n % base) (digits_up_to most base (n / base)), k (omega arith)) (div-add-mod' n base)

pub number_digits : (base n : ℕ) → 2 ≤ base → number_from base 0 (digits_of base n) ≡ n
unfolding digits_of
number_digits base n b = number_digits_up (suc n) base n b (omega arith)

-- each digit is below the base
pub digits_under_up : (most base n : ℕ) → 0 < base → Under base (digits_up_to most base n)
unfolding digits_up_to
digits_under_up zero base n b = λ i. b
digits_under_up (suc most) base n b = go (ltb n base) refl (digits_under_up most base (n / base) b)
  where
    one : (d : ℕ) → d < base → Under base (d ∷ [])
    one d h = under_cons base d [] h (λ i. b)

    go : (t : Bool) → ltb n base ≡ t → Under base (digits_up_to most base (n / base)) → Under base (digits_up_to (suc most) base n)
    go true e k = rw (digits_last most base n (ltb-true n base e)) (one n (ltb-true n base e))
    go false e k = rw (digits_more most base n (ltb-false n base e)) (under_append base (digits_up_to most base (n / base)) (n % base ∷ []) k (one (n % base) (mod-lt n b)))

pub digits_under : (base n : ℕ) → 0 < base → Under base (digits_of base n)
unfolding digits_of
digits_under base n b = digits_under_up (suc n) base n b

-- a number below a power of the base has no more digits than the power
pub digits_few_up : (most base n k : ℕ) → 0 < base → n < base ^ suc k → length (digits_up_to most base n) ≤ suc k
unfolding digits_up_to
digits_few_up zero base n k b h = omega arith
digits_few_up (suc most) base n zero b h =
    let l : n < base = rw (pow-suc base 0, pow-zero base, one-mul base) at h in
    rw (digits_last most base n l) (omega arith)
digits_few_up (suc most) base n (suc k) b h = go (ltb n base) refl (digits_few_up most base (n / base) k b)
  where
    go : (t : Bool) → ltb n base ≡ t → (n / base < base ^ suc k → length (digits_up_to most base (n / base)) ≤ suc k) → length (digits_up_to (suc most) base n) ≤ suc (suc k)
    go true e r = rw (digits_last most base n (ltb-true n base e)) (omega arith)
    go false e r =
        let f = r ((div-lt_iff_lt-mul b).1 (rw (pow-suc base (suc k)) at h)) in
        rw (digits_more most base n (ltb-false n base e), length-append) (omega arith)

pub digits_few : (base n k : ℕ) → 0 < base → n < base ^ suc k → length (digits_of base n) ≤ suc k
unfolding digits_of
digits_few base n k b h = digits_few_up (suc n) base n k b h

-- there is at least one digit
pub digits_some : (base n : ℕ) → 0 < length (digits_of base n)
unfolding digits_of
digits_some base n = go (ltb n base) refl
  where
    go : (t : Bool) → ltb n base ≡ t → 0 < length (digits_up_to (suc n) base n)
    go true e = rw (digits_last n base n (ltb-true n base e)) (omega arith)
    go false e = rw (digits_more n base n (ltb-false n base e), length-append) (omega arith)

-- the digit of an octet, by its kind
pub in_figure : (c : ℕ) → 48 ≤ c → c ≤ 57 → digit_in c ≡ c - 48
unfolding digit_in
in_figure c l h = rw (le-leb 48 c l, le-leb c 57 h, digit_in)

pub in_small : (c : ℕ) → 97 ≤ c → c ≤ 102 → digit_in c ≡ c - 87
unfolding digit_in
in_small c l h = rw (le-leb 48 c (omega arith), lt-leb c 57 (omega arith), digit_in, le-leb 97 c l, le-leb c 102 h)

pub in_capital : (c : ℕ) → 65 ≤ c → c ≤ 70 → digit_in c ≡ c - 55
unfolding digit_in
in_capital c l h = rw (le-leb 48 c (omega arith), lt-leb c 57 (omega arith), digit_in, lt-leb 97 c (omega arith), le-leb 65 c l, le-leb c 70 h)

pub octet_figure : (d : ℕ) → d < 10 → digit_octet d ≡ 48 + d
unfolding digit_octet
octet_figure d h = rw (lt-ltb d 10 h, digit_octet)

pub octet_letter : (d : ℕ) → 10 ≤ d → digit_octet d ≡ 87 + d
unfolding digit_octet
octet_letter d h = rw (le-ltb d 10 h, digit_octet)

-- an octet written of a digit is that digit when read
pub digit_octet_lem : (d : ℕ) → d < 16 → digit_in (digit_octet d) ≡ d
digit_octet_lem d h = go (ltb d 10) refl
  where
    go : (t : Bool) → ltb d 10 ≡ t → digit_in (digit_octet d) ≡ d
    go true e =
        let l : d < 10 = ltb-true d 10 e in
        rw (octet_figure d l, in_figure (48 + d) (omega arith) (omega arith)) (omega arith)
    go false e =
        let l : 10 ≤ d = ltb-false d 10 e in
        rw (octet_letter d l, in_small (87 + d) (omega arith) (omega arith)) (omega arith)

-- and it is no colon
pub digit_colon : (d : ℕ) → d < 16 → eqb (digit_octet d) 58 ≡ false
digit_colon d h = go (ltb d 10) refl
  where
    go : (t : Bool) → ltb d 10 ≡ t → eqb (digit_octet d) 58 ≡ false
    go true e = let l : d < 10 = ltb-true d 10 e in rw (octet_figure d l) (ne_eqb (48 + d) 58 (omega arith))
    go false e = let l : 10 ≤ d = ltb-false d 10 e in rw (octet_letter d l) (ne_eqb (87 + d) 58 (omega arith))

-- more places than the number needs change nothing
digits_most : (m k base n : ℕ) → 2 ≤ base → n < m → n < k → digits_up_to m base n ≡ digits_up_to k base n
digits_most zero k base n b h l = let z : ⊥ = omega arith in absurd z
digits_most (suc m) zero base n b h l = let z : ⊥ = omega arith in absurd z
digits_most (suc m) (suc k) base n b h l = go (ltb n base) refl (digits_most m k base (n / base) b)
  where
    go : (t : Bool) → ltb n base ≡ t → (n / base < m → n / base < k → digits_up_to m base (n / base) ≡ digits_up_to k base (n / base)) → digits_up_to (suc m) base n ≡ digits_up_to (suc k) base n
    go true e r = let o = ltb-true n base e in digits_last m base n o ∙ sym (digits_last k base n o)
    go false e r =
        let o : base ≤ n = ltb-false n base e in
        let p : 0 < n = omega arith in
        let q : n / base < n = div-lt_self p b in
        digits_more m base n o ∙ ap (λ (l : List ℕ). l ++ (n % base ∷ [])) (r (omega arith) (omega arith)) ∙ sym (digits_more k base n o)

-- the digits of a number, by whether it is below the base
pub digits_of_last : (base n : ℕ) → n < base → digits_of base n ≡ n ∷ []
unfolding digits_of
digits_of_last base n h = digits_last n base n h

pub digits_of_more : (base n : ℕ) → 2 ≤ base → base ≤ n → digits_of base n ≡ digits_of base (n / base) ++ (n % base ∷ [])
unfolding digits_of
digits_of_more base n b h =
    let p : 0 < n = omega arith in
    let q : n / base < n = div-lt_self p b in
    digits_more n base n h ∙ ap (λ (l : List ℕ). l ++ (n % base ∷ [])) (digits_most n (suc (n / base)) base (n / base) b q (omega arith))

-- a digit written after a number that is not zero
digits_push : (base v d : ℕ) → 2 ≤ base → 0 < v → d < base → digits_of base (v * base + d) ≡ digits_of base v ++ (d ∷ [])
digits_push base v d b p h =
    let z : 0 < base = omega arith in
    let m : 1 * base ≤ v * base = mul-le-mul_right base p in
    let o : 1 * base ≡ base = one-mul base in
    let f : (v * base + d) / base ≡ v = mul-add-div_right z v d ∙ ap (λ (k : ℕ). v + k) (div-eq_of_lt h) ∙ add-zero v in
    let r : (v * base + d) % base ≡ d = mul-add-mod_self_right v base d ∙ mod-eq_of_lt h in
    digits_of_more base (v * base + d) b (omega arith) ∙ ap (λ (k : ℕ). digits_of base k ++ ((v * base + d) % base ∷ [])) f ∙ ap (λ (k : ℕ). digits_of base v ++ (k ∷ [])) r

pub digits_number_from : (base v : ℕ) (ds : List ℕ) → 2 ≤ base → 0 < v → Under base ds → digits_of base (number_from base v ds) ≡ digits_of base v ++ ds
unfolding number_from
digits_number_from base v [] b p u = sym (append-nil (digits_of base v))
digits_number_from base v (d ∷ ds) b p u =
    let m : 1 * base ≤ v * base = mul-le-mul_right base p in
    let o : 1 * base ≡ base = one-mul base in
    digits_number_from base (v * base + d) ds b (omega arith) (λ i. u (suc i))
    ∙ ap (λ (l : List ℕ). l ++ ds) (digits_push base v d b p (u 0))
    ∙ append_assoc (digits_of base v) (d ∷ []) ds

-- digits with no needless zero are the digits of what they write
pub digits_number : (base d : ℕ) (ds : List ℕ) → 2 ≤ base → Under base (d ∷ ds) → (d ≡ 0 → ds ≡ []) → digits_of base (number_from base 0 (d ∷ ds)) ≡ d ∷ ds
digits_number base d ds b u h = go (eqb d 0) refl
  where
    from : number_from base 0 (d ∷ ds) ≡ number_from base d ds
    from = unfold number_from in ap (λ (k : ℕ). number_from base k ds) (ap (λ (k : ℕ). k + d) (zero-mul base) ∙ zero-add d)

    go : (t : Bool) → eqb d 0 ≡ t → digits_of base (number_from base 0 (d ∷ ds)) ≡ d ∷ ds
    go true e = rw (h (eqb-true d 0 e), number_one base d) (digits_of_last base d (u 0))
    go false e =
        let n = eqb-false d 0 e in
        ap (digits_of base) from ∙ digits_number_from base d ds b (omega arith) (λ i. u (suc i)) ∙ ap (λ (l : List ℕ). l ++ ds) (digits_of_last base d (u 0))

-- the first digit of a number that is not zero is not zero
pub digits_lead_up : (most base n : ℕ) → 2 ≤ base → 0 < n → n < most → 0 < get_or (digits_up_to most base n) 0 0
digits_lead_up zero base n b p h = let z : ⊥ = omega arith in absurd z
digits_lead_up (suc most) base n b p h = go (ltb n base) refl (digits_lead_up most base (n / base) b)
  where
    go : (t : Bool) → ltb n base ≡ t → (0 < n / base → n / base < most → 0 < get_or (digits_up_to most base (n / base)) 0 0) → 0 < get_or (digits_up_to (suc most) base n) 0 0
    go true e r = rw (digits_last most base n (ltb-true n base e)) p
    go false e r =
        let o : base ≤ n = ltb-false n base e in
        let q : n / base < n = div-lt_self p b in
        let z : 0 < base = omega arith in
        let i : 1 ≤ n / base = (le-div_iff_mul-le z).1 (rw (one-mul base) o) in
        let f = r i (omega arith) in
        rw (digits_more most base n o) (first (digits_up_to most base (n / base)) f)
      where
        first : (l : List ℕ) → 0 < get_or l 0 0 → 0 < get_or (l ++ (n % base ∷ [])) 0 0
        first [] f = let z : ⊥ = omega arith in absurd z
        first (x ∷ l) f = f

pub digits_lead : (base n : ℕ) → 2 ≤ base → 0 < n → 0 < get_or (digits_of base n) 0 0
unfolding digits_of
digits_lead base n b p = digits_lead_up (suc n) base n b p (omega arith)

-- the octets of digits are figures and small letters
pub octet_lower : (d : ℕ) → d < 16 → (between 48 57 (digit_octet d) || between 97 102 (digit_octet d)) ≡ true
octet_lower d h = go (ltb d 10) refl
  where
    go : (t : Bool) → ltb d 10 ≡ t → (between 48 57 (digit_octet d) || between 97 102 (digit_octet d)) ≡ true
    go true e = let l : d < 10 = ltb-true d 10 e in rw (octet_figure d l, le-leb 48 (48 + d) (omega arith), le-leb (48 + d) 57 (omega arith))
    go false e = let l : 10 ≤ d = ltb-false d 10 e in rw (octet_letter d l, le-leb 97 (87 + d) (omega arith), le-leb (87 + d) 102 (omega arith)) (or_true (leb 48 (87 + d) && leb (87 + d) 57))

-- the text of a number, by whether it is below the base
pub text_last : (base n : ℕ) → n < base → number_text base n ≡ digit_octet n ∷ []
unfolding number_text
text_last base n h = rw (digits_of_last base n h)

pub text_more : (base n : ℕ) → 2 ≤ base → base ≤ n → number_text base n ≡ number_text base (n / base) ++ (digit_octet (n % base) ∷ [])
unfolding number_text
text_more base n b h = rw (digits_of_more base n b h) (map-append digit_octet (digits_of base (n / base)) (n % base ∷ []))
