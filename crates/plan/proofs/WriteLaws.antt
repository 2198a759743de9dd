-- Laws of writing a record field by field.
use Prim.Native.Nat.{ℕ, ◌+◌, ◌/◌, ◌%◌, ◌≤◌}
use mathlib.Core.Path.{◌≡◌, refl, sym, ap, ◌∙◌}
use mathlib.Core.List.{List, [], ◌∷◌, ◌++◌, append_assoc}
use lib.ListN.{length, take, drop, length-append}
use lib.Seq.{paste, take_at, drop-drop, take-append-add, drop-append-add, take_all, length-take-le}
use native.Mathlib.Omega.{arith}
use Rattle.octets.specs.Numbers.{octets_of}
use Rattle.plan.specs.Layout.{record_size, address_size, slot_size, ttl_size, address_place, owner_place, target_place, ttl_place, record_of}

-- a copy just after a copy is one copy
paste_next : (d : List ℕ) (at : ℕ) (s₁ s₂ : List ℕ) (n₁ n₂ : ℕ) → at + n₁ ≤ length d → length s₁ ≡ n₁ → paste (paste d at s₁ n₁) (at + n₁) s₂ n₂ ≡ paste d at (s₁ ++ s₂) (n₁ + n₂)
paste_next d at s₁ s₂ n₁ n₂ h e =
    let t = take_all n₁ s₁ (omega arith) in
    let g : at + n₁ + n₂ ≡ at + (n₁ + n₂) = omega arith in
    let f : length (take at d ++ s₁) ≡ at + n₁ = length-append (take at d) s₁ ∙ omega (arith, length-take-le at d (omega arith)) in
    let u : take (n₁ + n₂) (s₁ ++ s₂) ≡ s₁ ++ take n₂ s₂ = ap (λ (k : ℕ). take (k + n₂) (s₁ ++ s₂)) (sym e) ∙ take-append-add s₁ s₂ n₂ in
    let v : drop (at + n₁ + n₂) (take at d ++ s₁ ++ drop (at + n₁) d) ≡ drop (at + (n₁ + n₂)) d =
    ap (λ (k : ℕ). drop (k + n₂) (take at d ++ s₁ ++ drop (at + n₁) d)) (sym f) ∙ drop-append-add (take at d ++ s₁) (drop (at + n₁) d) n₂
    ∙ drop-drop n₂ (at + n₁) d ∙ ap (λ (k : ℕ). drop k d) g in
    rw (t, take_at (take at d ++ s₁) (drop (at + n₁) d) (at + n₁) f, v, u, append_assoc (take at d) s₁ (take n₂ s₂))

-- the five copies that write a record
pub record_written : (out o₁ o₂ o₃ o₄ o₅ address owner target : List ℕ) (kind prefix ttl to : ℕ)
    → length address ≡ address_size → length owner ≡ slot_size → length target ≡ slot_size → to + record_size ≤ length out
    → o₁ ≡ paste out to (kind / 256 ∷ kind % 256 ∷ prefix ∷ 0 ∷ []) address_place → o₂ ≡ paste o₁ (to + address_place) address address_size
    → o₃ ≡ paste o₂ (to + owner_place) owner slot_size → o₄ ≡ paste o₃ (to + target_place) target slot_size → o₅ ≡ paste o₄ (to + ttl_place) (octets_of ttl_size ttl) ttl_size
    → o₅ ≡ paste out to (record_of kind prefix address owner target ttl) record_size
unfolding record_of
record_written out o₁ o₂ o₃ o₄ o₅ address owner target kind prefix ttl to la lo lt h k₁ k₂ k₃ k₄ k₅ =
    let head : List ℕ = kind / 256 ∷ kind % 256 ∷ prefix ∷ 0 ∷ [] in
    let life = octets_of ttl_size ttl in
    let n = length-append address owner in
    let m₂ : o₂ ≡ paste out to (head ++ address) owner_place = k₂ ∙ ap (λ (o : List ℕ). paste o (to + address_place) address address_size) k₁
    ∙ paste_next out to head address address_place address_size (omega arith) refl in
    let m₃ : o₃ ≡ paste out to (head ++ address ++ owner) target_place = k₃ ∙ ap (λ (o : List ℕ). paste o (to + owner_place) owner slot_size) m₂
    ∙ paste_next out to (head ++ address) owner owner_place slot_size (omega arith) (omega arith) in
    let m₄ : o₄ ≡ paste out to (head ++ address ++ owner ++ target) ttl_place = k₄ ∙ ap (λ (o : List ℕ). paste o (to + target_place) target slot_size) m₃
    ∙ paste_next out to (head ++ address ++ owner) target target_place slot_size (omega arith) (omega arith) in
    k₅ ∙ ap (λ (o : List ℕ). paste o (to + ttl_place) life ttl_size) m₄
    ∙ paste_next out to (head ++ address ++ owner ++ target) life ttl_place ttl_size (omega arith) (omega (arith, length-append (address ++ owner) target))
