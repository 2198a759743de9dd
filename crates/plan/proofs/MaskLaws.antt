-- Laws of masked words: one mask takes the bit of weight 32 from each octet of a word.
use Prim.Native.Nat.{ℕ, ◌+◌, ◌*◌, ◌/◌, ◌%◌, ◌<◌}
use mathlib.Core.Path.{◌≡◌, ap, ◌∙◌}
use mathlib.Core.List.{List}
use lib.Bits.{bit_and, and_block, and_mask}
use lib.ListN.{get_or}
use native.Mathlib.Omega.{arith}
use Rattle.octets.specs.Octets.{Small}
use Rattle.plan.specs.Marks.{word_at, caseless, masked_at}

-- the mask of an octet
mask_octet : (x : ℕ) → x < 256 → bit_and x 223 ≡ caseless x
unfolding caseless
mask_octet x h =
    let e : x ≡ x / 64 * 64 + x % 64 = omega arith in
    let p = and_mask (x / 64) 2 in
    let q = and_mask (x % 64) 5 in
    ap (λ (w : ℕ). bit_and w 223) e ∙ and_block 6 (x / 64) 3 (x % 64) 31 (omega arith) (omega arith) ∙ rw (p, q) (omega arith)

-- the lowest octet of a number is masked apart from the rest
mask_lowest : (w m x : ℕ) → x < 256 → bit_and (w * 256 + x) (m * 256 + 223) ≡ bit_and w m * 256 + caseless x
mask_lowest w m x h = and_block 8 w m x 223 h (omega arith) ∙ ap (λ (r : ℕ). bit_and w m * 256 + r) (mask_octet x h)

-- Theorem: a word masked by 0xDFDFDFDF is its octets without that bit
pub mask_word : (s : List ℕ) → Small s → (i : ℕ) → bit_and (word_at s i) 3755991007 ≡ masked_at s i
unfolding word_at masked_at
mask_word s m i =
    let a = get_or s i 0 in
    let b = get_or s (i + 1) 0 in
    let c = get_or s (i + 2) 0 in
    let d = get_or s (i + 3) 0 in
    let e : word_at s i ≡ ((d * 256 + c) * 256 + b) * 256 + a = omega arith in
    let p = mask_octet d (m (i + 3)) in
    let q = mask_lowest d 223 c (m (i + 2)) in
    let r = mask_lowest (d * 256 + c) 57311 b (m (i + 1)) in
    ap (λ (w : ℕ). bit_and w 3755991007) e ∙ mask_lowest ((d * 256 + c) * 256 + b) 14671839 a (m i) ∙ rw (r, q, p) (omega arith)
