-- All the words of a line, read one after the other.
use Prim.Native.Nat.{ℕ, ◌≤◌, ◌<◌, min}
use mathlib.Core.Path.{◌≡◌, refl, ap, sym, ◌∙◌}
use mathlib.Core.Bool.{Bool, true, false, not, ◌&&◌}
use mathlib.Core.List.{List, [], ◌∷◌}
use lib.Dec.{ltb, eqb}
use lib.ListN.{length, drop}
use native.Mathlib.Omega.{arith}
use borrow.Author.Tests.{eq-eqb, ne_eqb, eqb-true, eqb-false, ltb-true, ltb-false}
use Rattle.octets.specs.Octets.{blank}
use Rattle.address.specs.Address.{join_of}
use Rattle.chains.specs.Graph.{max_ttl}
use mathlib.Core.Logic.{◌⊎◌, inl, inr}
use Rattle.std.specs.Prelude.{Result}
use Rattle.octets.specs.Answers.{earns}
use Rattle.octets.specs.declared.Refusal.{Refusal}
use Rattle.names.specs.declared.Name.{Name}
use Rattle.plan.specs.declared.inside.Fields.{Fields}
use Rattle.text.specs.Decimal.{digit_count, decimal_of, is_decimal}
use Rattle.text.specs.AddressText.{read_address}
use Rattle.text.proofs.Computing.{text_compute}
use Rattle.nametext.specs.Reading.{text_number, name_held}
use Rattle.line.specs.Words.{words_of, word}
use Rattle.line.specs.Reading.{decimal_number, type_number, address_number, with_ttl, length_in, with_address, rest_number, worst, fields_in}
use Rattle.line.specs.Walk.{word_at, word_end, passed, next, tail_from, ttl_word, type_place, lived_number, worse, full_of, end_number, late_number, word_numbers}
use Rattle.line.specs.Walked.{value_by, prefix_in}
use Rattle.line.proofs.OrderLaws.{Known, name_known, decimal_known, type_known, address_known, rest_known}
use Rattle.line.proofs.WorseLaws.{worse_20, 20_worse, worse_known, Formed, formed, formed_worse, worse_21, 21_worse, worse_kept}
use Rattle.line.proofs.WalkedLaws.{worse_left}
use Rattle.line.proofs.RestLaws.{late_known}
use Rattle.line.proofs.WalkLaws.{end_within, next_within}
use Rattle.line.proofs.LivedLaws.{decimal_ranges, lived_ranged, passed_end}
use Rattle.line.proofs.BodyLaws.{timed, timed_length, timed_rest, front, Ended, ended, numbers_worse}

-- a prefix length is looked at as 0, 128 or another one: over 128 they are all alike
module _ (v l : ℕ) (e : v ≡ min 129 l) where
  capped_eqb : (k : ℕ) → k < 129 → eqb v k ≡ eqb l k
  capped_eqb k h = go (eqb l k) refl
    where
      go : (b : Bool) → eqb l k ≡ b → eqb v k ≡ eqb l k
      go true q = let f = eqb-true l k q in eq-eqb v k (omega arith) ∙ sym q
      go false q = let f = eqb-false l k q in ne_eqb v k (λ z. f (omega arith)) ∙ sym q

  capped_full : (ts : List (List ℕ)) → full_of v ts ≡ full_of l ts
  unfolding full_of
  capped_full ts = rw (full_of, capped_eqb 128 (omega arith))

  capped_end : (us : List (List ℕ)) → end_number v us ≡ end_number l us
  unfolding end_number
  capped_end us = rw (end_number, capped_eqb 0 (omega arith))

  capped : (ts : List (List ℕ)) → late_number v (full_of v ts) ≡ worse (address_number (word (full_of l ts) 0)) (end_number l (full_of l ts))
  unfolding late_number
  capped ts = ap (λ (us : List (List ℕ)). worse (address_number (word us 0)) (end_number v us)) (capped_full ts) ∙ ap (worse (address_number (word (full_of l ts) 0))) (capped_end (full_of l ts))

-- words that have a prefix length are four or more
four_words : (vs : List (List ℕ)) → (decimal_number 128 (word vs 3) ≡ 20 → ⊥) → 4 ≤ length vs
unfolding text_compute decimal_number
four_words [] h = absurd (h refl)
four_words (a ∷ []) h = absurd (h refl)
four_words (a ∷ b ∷ []) h = absurd (h refl)
four_words (a ∷ b ∷ c ∷ []) h = absurd (h refl)
four_words (a ∷ b ∷ c ∷ d ∷ vs) h = omega arith

-- a prefix length as it is looked at
prefix_by : (w : List ℕ) → (decimal_number 128 w ≡ 20 → ⊥) → prefix_in (value_by (decimal_number 128 w) (decimal_of w)) ≡ min 129 (decimal_of w)
unfolding value_by decimal_number
prefix_by w h = go (not (is_decimal w && eqb (digit_count w) (length w))) (ltb 128 (decimal_of w)) refl h
  where
    go : (a b : Bool) → ltb 128 (decimal_of w) ≡ b → (earns a 20 (earns b 21 0) ≡ 20 → ⊥) → prefix_in (value_by (earns a 20 (earns b 21 0)) (decimal_of w)) ≡ min 129 (decimal_of w)
    go true b e k = absurd (k refl)
    go false true e k = let l = ltb-true 128 (decimal_of w) e in omega arith
    go false false e k = let l = ltb-false 128 (decimal_of w) e in omega arith

length_ranged : (w : List ℕ) → (decimal_number 128 w ≡ 20 → ⊥) → (decimal_number 128 w ≡ 0 → ⊥) → decimal_number 128 w ≡ 21
length_ranged w h k = go (decimal_ranges 128 w)
  where
    go : (decimal_number 128 w ≡ 0) ⊎ ((decimal_number 128 w ≡ 20) ⊎ (decimal_number 128 w ≡ 21)) → decimal_number 128 w ≡ 21
    go (inl z) = absurd (k z)
    go (inr (inl z)) = absurd (h z)
    go (inr (inr z)) = z

lived_known : (s : List ℕ) (e : ℕ) → Known (lived_number s e)
lived_known s e = worse_known _ _ (decimal_known max_ttl (ttl_word s e)) (type_known (word_at s (type_place s e)))

module _ (s : List ℕ) where
  abbrev vs : List (List ℕ)
  vs = with_ttl (words_of s)

  abbrev us : List (List ℕ)
  us = with_address (with_ttl (words_of s))

  abbrev kind : ℕ
  kind = type_place s (word_end s 0)

  -- what the words earn, by their places
  abbrev late : ℕ
  late = worse (address_number (word us 4)) (rest_number us)

  by_places : worst (word_numbers us)
      ≡ worse (text_number (word_at s 0)) (worse (worse (decimal_number max_ttl (ttl_word s (word_end s 0))) (type_number (word_at s kind))) (worse (decimal_number 128 (word_at s (next s kind))) late))
  by_places =
      let t = timed s in
      numbers_worse us
      ∙ (λ i. worse (text_number ((front vs 0 (omega arith) ∙ t.owner) i))
      (worse (worse (decimal_number max_ttl ((front vs 1 (omega arith) ∙ t.ttl) i)) (type_number ((front vs 2 (omega arith) ∙ t.kind) i)))
      (worse (decimal_number 128 ((front vs 3 (omega arith) ∙ timed_length s vs t) i)) late)))

  -- what the owner, the TTL and type, and the prefix length earn; they all hide nothing worse than 20
  abbrev owner : ℕ
  owner = text_number (word_at s 0)

  -- the words in the order in which they are read, each from where the one before it ends
  pub missed_owner : text_number (word_at s 0) ≡ 20 → worst (word_numbers us) ≡ 20
  missed_owner h = by_places ∙ ap (λ (n : ℕ). worse n rest_owner) h ∙ worse_20 rest_owner known_owner
    where
      rest_owner : ℕ
      rest_owner = worse (lived_number s (word_end s 0)) (worse (decimal_number 128 (word_at s (next s kind))) late)

      known_owner : Known rest_owner
      known_owner = worse_known _ _ (lived_known s (word_end s 0)) (worse_known _ _ (decimal_known 128 _) (worse_known _ _ (address_known _) (rest_known us)))

  module _ (e : ℕ) (he : e ≡ word_end s 0) where
    -- no TTL and type
    pub missed_lived : lived_number s e ≡ 20 → worst (word_numbers us) ≡ 20
    missed_lived h =
        by_places
        ∙ ap (λ (n : ℕ). worse owner (worse n (worse (decimal_number 128 (word_at s (next s kind))) late))) (ap (lived_number s) (sym he) ∙ h)
        ∙ ap (worse owner) (worse_20 _ (worse_known _ _ (decimal_known 128 (word_at s (next s kind))) (worse_known _ _ (address_known (word us 4)) (rest_known us))))
        ∙ 20_worse owner (name_known (word_at s 0))

    module _ (f : ℕ) (hf : f ≡ word_end s (type_place s e)) where
      pub length_within : passed s f ≤ length s
      length_within = rw (hf, he, passed_end s kind (word_end s kind) refl) (next_within s kind (timed s).within)

      module _ (at : ℕ) (hat : at ≡ passed s f) where
        length_place : at ≡ next s kind
        length_place = hat ∙ ap (passed s) (hf ∙ ap (λ (x : ℕ). word_end s (type_place s x)) he) ∙ passed_end s kind (word_end s kind) refl

        counted : decimal_number 128 (word_at s (next s kind)) ≡ decimal_number 128 (word_at s at)
        counted = ap (λ (p : ℕ). decimal_number 128 (word_at s p)) (sym length_place)

        -- no prefix length
        pub missed_length : decimal_number 128 (word_at s at) ≡ 20 → worst (word_numbers us) ≡ 20
        missed_length h =
            by_places
            ∙ ap (λ (n : ℕ). worse owner (worse (lived_number s (word_end s 0)) (worse n late))) (counted ∙ h)
            ∙ ap (λ (n : ℕ). worse owner (worse (lived_number s (word_end s 0)) n)) (worse_20 late (worse_known _ _ (address_known (word us 4)) (rest_known us)))
            ∙ ap (worse owner) (20_worse (lived_number s (word_end s 0)) (lived_known s (word_end s 0)))
            ∙ 20_worse owner (name_known (word_at s 0))

        module _ (g : ℕ) (hg : g ≡ word_end s at) (nl : decimal_number 128 (word_at s at) ≡ 20 → ⊥) (prefix : Result ℕ Refusal)
            (pl : prefix ≡ value_by (decimal_number 128 (word_at s at)) (decimal_of (word_at s at))) where
          pub rest_within : at ≤ length s → g ≤ length s
          rest_within h = rw hg (end_within s at h)

          length_is : length_in vs ≡ decimal_of (word_at s at)
          unfolding length_in
          length_is = ap decimal_of (timed_length s vs (timed s)) ∙ ap (λ (p : ℕ). decimal_of (word_at s p)) (sym length_place)

          -- the prefix length as it is looked at
          value_is : prefix_in prefix ≡ min 129 (length_in vs)
          value_is = ap prefix_in pl ∙ prefix_by (word_at s at) nl ∙ ap (min 129) (sym length_is)

          rest_is : tail_from s g ≡ drop 4 vs
          rest_is = ap (tail_from s) (hg ∙ ap (word_end s) length_place) ∙ sym (timed_rest s vs (timed s))

          closing : Ended vs
          closing = ended vs (four_words vs (λ z. nl (sym counted ∙ sym (ap (decimal_number 128) (timed_length s vs (timed s))) ∙ z)))

          -- what the words after it are, and what they earn
          abbrev last : ℕ
          last = late_number (prefix_in prefix) (full_of (prefix_in prefix) (tail_from s g))

          late_is : last ≡ late
          late_is =
              ap (λ (ts : List (List ℕ)). late_number (prefix_in prefix) (full_of (prefix_in prefix) ts)) rest_is ∙ capped (prefix_in prefix) (length_in vs) value_is (drop 4 vs)
              ∙ sym (λ i. worse (address_number (closing.address i)) (closing.number i))

          -- the number of a line that was read to its end
          all_numbers : worst (word_numbers us) ≡ worse owner (worse (lived_number s e) (worse (decimal_number 128 (word_at s at)) last))
          all_numbers = by_places ∙ (λ i. worse owner (worse (lived_number s (sym he i)) (worse (counted i) (sym late_is i))))

          -- no address or target
          pub missed_rest : last ≡ 20 → worst (word_numbers us) ≡ 20
          missed_rest h =
              all_numbers
              ∙ ap (λ (n : ℕ). worse owner (worse (lived_number s e) (worse (decimal_number 128 (word_at s at)) n))) h
              ∙ ap (λ (n : ℕ). worse owner (worse (lived_number s e) n)) (20_worse (decimal_number 128 (word_at s at)) (decimal_known 128 (word_at s at)))
              ∙ ap (worse owner) (20_worse (lived_number s e) (lived_known s e)) ∙ 20_worse owner (name_known (word_at s 0))

          -- words that all have their form
          module _ (no : owner ≡ 20 → ⊥) (nv : lived_number s e ≡ 20 → ⊥) (nr : last ≡ 20 → ⊥) where
            fo : Formed owner
            fo = formed owner (name_known (word_at s 0)) no

            fl : Formed (decimal_number 128 (word_at s at))
            fl = formed (decimal_number 128 (word_at s at)) (decimal_known 128 (word_at s at)) nl

            fr : Formed last
            fr = formed last (late_known (prefix_in prefix) (full_of (prefix_in prefix) (tail_from s g))) nr

            -- a TTL out of range
            pub over_lived : (lived_number s e ≡ 0 → ⊥) → worst (word_numbers us) ≡ lived_number s e
            over_lived h =
                let k = lived_ranged s e nv h in
                all_numbers ∙ ap (λ (n : ℕ). worse owner (worse n (worse (decimal_number 128 (word_at s at)) last))) k
                ∙ ap (worse owner) (worse_21 _ (formed_worse _ _ fl fr)) ∙ 21_worse owner fo ∙ sym k

            module _ (zv : lived_number s e ≡ 0) where
              from_length : worst (word_numbers us) ≡ worse owner (worse (decimal_number 128 (word_at s at)) last)
              from_length = all_numbers ∙ ap (worse owner) (worse_left (lived_number s e) (worse (decimal_number 128 (word_at s at)) last) zv)

              -- a prefix length out of range
              pub over_length : (decimal_number 128 (word_at s at) ≡ 0 → ⊥) → worst (word_numbers us) ≡ decimal_number 128 (word_at s at)
              over_length h =
                  let k = length_ranged (word_at s at) nl h in
                  from_length ∙ ap (λ (n : ℕ). worse owner (worse n last)) k ∙ ap (worse owner) (worse_21 last fr) ∙ 21_worse owner fo ∙ sym k

              module _ (zl : decimal_number 128 (word_at s at) ≡ 0) where
                from_names : worst (word_numbers us) ≡ worse owner last
                from_names = from_length ∙ ap (worse owner) (worse_left (decimal_number 128 (word_at s at)) last zl)

                -- a number out of range in the target
                pub over_target : last ≡ 21 → worst (word_numbers us) ≡ 21
                over_target h = from_names ∙ ap (worse owner) h ∙ 21_worse owner fo

                -- an owner that is none, and then a target
                pub none_owner : (owner ≡ 0 → ⊥) → (last ≡ 21 → ⊥) → worst (word_numbers us) ≡ owner
                none_owner h k = from_names ∙ worse_kept owner last fo fr h k

                pub none_target : owner ≡ 0 → worst (word_numbers us) ≡ last
                none_target h = from_names ∙ worse_left owner last h

                -- all of them, and the fields
                module _ (zo : owner ≡ 0) (zr : last ≡ 0) where
                  pub all_zero : worst (word_numbers us) ≡ 0
                  all_zero = none_target zo ∙ zr

                  pub all_fields : (l t : ℕ) (a : List ℕ) (o d : Name) → decimal_of (word_at s at) ≡ l → decimal_of (ttl_word s e) ≡ t
                      → a ≡ read_address (word (full_of (prefix_in prefix) (tail_from s g)) 0) → name_held (word_at s 0) ≡ o → name_held (word (full_of (prefix_in prefix) (tail_from s g)) 1) ≡ d
                      → ◌≡◌ {A = Fields} (record { prefix = l; address = join_of (blank 16) a l; owner = o; target = d; ttl = t }) (fields_in us)
                  unfolding fields_in length_in
                  all_fields l t a o d hl ht ha ho hd =
                      let f3 : word us 3 ≡ word_at s at = front vs 3 (omega arith) ∙ timed_length s vs (timed s) ∙ ap (word_at s) (sym length_place) in
                      let f1 : word us 1 ≡ ttl_word s e = front vs 1 (omega arith) ∙ (timed s).ttl ∙ ap (ttl_word s) (sym he) in
                      let fu : full_of (prefix_in prefix) (tail_from s g) ≡ full_of (length_in vs) (drop 4 vs) = ap (full_of (prefix_in prefix)) rest_is ∙ capped_full (prefix_in prefix) (length_in vs) value_is (drop 4 vs) in
                      let p : l ≡ decimal_of (word us 3) = sym hl ∙ ap decimal_of (sym f3) in
                      let q : t ≡ decimal_of (word us 1) = sym ht ∙ ap decimal_of (sym f1) in
                      let x : a ≡ read_address (word us 4) = ha ∙ ap (λ (ts : List (List ℕ)). read_address (word ts 0)) fu ∙ ap read_address (sym closing.address) in
                      let y : d ≡ name_held (word us 5) = sym hd ∙ ap (λ (ts : List (List ℕ)). name_held (word ts 1)) fu ∙ ap name_held (sym closing.target) in
                      let n : o ≡ name_held (word us 0) = sym ho ∙ ap name_held (sym (front vs 0 (omega arith) ∙ (timed s).owner)) in
                      λ i. record { prefix = p i; address = join_of (blank 16) (x i) (p i); owner = n i; target = y i; ttl = q i }
