-- Two elements that begin at words i and j are equal if their words are.
use Prim.Native.Nat.{ℕ, ◌+◌, ◌≤◌}
use mathlib.Core.Bool.{Bool, false, ◌&&◌}
use mathlib.Core.List.{List}
use mathlib.Core.Path.{◌≡◌, sym, subst, ◌∙◌}
use lib.Dec.{eqb}
use lib.ListN.{length, get_or}
use borrow.Author.Tests.{eq-eqb, ne_eqb}
use Rattle.layouts.specs.Levels.{element_at}
use Rattle.definition.specs.Field.{Spelling, field_in, four, prime_field, prime_of, quartic, spelling_of, word_count}
use Rattle.domain.specs.Elements.{four_at}
use Rattle.widths.specs.ByField.{spelling_other, spelling_three}

module _ (w : List ℕ) (i j : ℕ) where
  module _ (hi : i + 4 ≤ length w) (hj : j + 4 ≤ length w) where
    word_by_word : (field_in four (prime_of 3)).equal (element_at four w i) (element_at four w j)
        ≡ (eqb (get_or w i 0) (get_or w j 0) && eqb (get_or w (i + 1) 0) (get_or w (j + 1) 0) && eqb (get_or w (i + 2) 0) (get_or w (j + 2) 0) && eqb (get_or w (i + 3) 0) (get_or w (j + 3) 0))
    unfolding field_in quartic prime_field
    word_by_word = λ k. (field_in four (prime_of 3)).equal (four_at w i hi k) (four_at w j hj k)

    pub other_a : (get_or w i 0 ≡ get_or w j 0 → ⊥) → false ≡ (field_in four (prime_of 3)).equal (element_at four w i) (element_at four w j)
    other_a a = sym (word_by_word ∙ simp (ne_eqb (get_or w i 0) (get_or w j 0) a))

    pub other_b : get_or w i 0 ≡ get_or w j 0 → (get_or w (i + 1) 0 ≡ get_or w (j + 1) 0 → ⊥) → false ≡ (field_in four (prime_of 3)).equal (element_at four w i) (element_at four w j)
    other_b a b = sym (word_by_word ∙ simp (eq-eqb (get_or w i 0) (get_or w j 0) a, ne_eqb (get_or w (i + 1) 0) (get_or w (j + 1) 0) b))

    pub other_c : get_or w i 0 ≡ get_or w j 0 → get_or w (i + 1) 0 ≡ get_or w (j + 1) 0 → (get_or w (i + 2) 0 ≡ get_or w (j + 2) 0 → ⊥) →
        false ≡ (field_in four (prime_of 3)).equal (element_at four w i) (element_at four w j)
    other_c a b c = sym (word_by_word ∙ simp (eq-eqb (get_or w i 0) (get_or w j 0) a, eq-eqb (get_or w (i + 1) 0) (get_or w (j + 1) 0) b, ne_eqb (get_or w (i + 2) 0) (get_or w (j + 2) 0) c))

    pub by_d : get_or w i 0 ≡ get_or w j 0 → get_or w (i + 1) 0 ≡ get_or w (j + 1) 0 → get_or w (i + 2) 0 ≡ get_or w (j + 2) 0 →
        eqb (get_or w (i + 3) 0) (get_or w (j + 3) 0) ≡ (field_in four (prime_of 3)).equal (element_at four w i) (element_at four w j)
    by_d a b c = sym (word_by_word ∙ simp (eq-eqb (get_or w i 0) (get_or w j 0) a, eq-eqb (get_or w (i + 1) 0) (get_or w (j + 1) 0) b, eq-eqb (get_or w (i + 2) 0) (get_or w (j + 2) 0) c))

  module _ (field : ℕ) where
    pub four_there : field ≡ 3 → (i + word_count (spelling_of field) 1 ≤ length w) × (j + word_count (spelling_of field) 1 ≤ length w) → (i + 4 ≤ length w) × (j + 4 ≤ length w)
    unfolding word_count
    four_there e h = subst (λ (σ : Spelling). (i + word_count σ 1 ≤ length w) × (j + word_count σ 1 ≤ length w)) (spelling_three field e) h

    pub of_four : {r : Bool} → field ≡ 3 → r ≡ (field_in four (prime_of 3)).equal (element_at four w i) (element_at four w j) →
        r ≡ (field_in (spelling_of field) (prime_of field)).equal (element_at (spelling_of field) w i) (element_at (spelling_of field) w j)
    unfolding spelling_of
    of_four {r} e h = subst (λ (n : ℕ). r ≡ (field_in (spelling_of n) (prime_of n)).equal (element_at (spelling_of n) w i) (element_at (spelling_of n) w j)) (sym e) h

    pub of_one : (field ≡ 3 → ⊥) →
        eqb (get_or w i 0) (get_or w j 0) ≡ (field_in (spelling_of field) (prime_of field)).equal (element_at (spelling_of field) w i) (element_at (spelling_of field) w j)
    unfolding field_in prime_field element_at
    of_one e = λ k. (field_in (sym (spelling_other field e) k) (prime_of field)).equal (element_at (sym (spelling_other field e) k) w i) (element_at (sym (spelling_other field e) k) w j)
