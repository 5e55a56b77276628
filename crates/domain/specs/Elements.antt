-- An element at a word, word by word: whether it is a number of the prime field, and that only such lie in a domain. Assumes nothing.
use Rattle.std.specs.Prelude.{ℕ, suc, ◌+◌, ◌/◌, ◌^◌, ◌≤◌, ◌≡◌, refl, Bool, true, false, ◌&&◌, List, eqb, length, get_or}
use Rattle.std.proofs.Common.{arith, sym, ap, ◌∙◌, drop-cons}
use Rattle.algebra.specs.InDomain.{in_domain_lem}
use Rattle.algebra.specs.PrimeField.{laws}
use Rattle.definition.specs.Domain.{in_domain}
use Rattle.definition.specs.Field.{Spelling, embed, field_in, field_of, four, number_in, one, prime_field, prime_of, quads, quartic, spelling_of, word_count}
use Rattle.definition.specs.Sheet.{Level}
use Rattle.layouts.specs.Levels.{element_at}
use Rattle.domain.specs.Powers.{Inside, Powers}

-- an element of four words
pub four_at : (w : List ℕ) (i : ℕ) → i + 4 ≤ length w → element_at four w i ≡ record { a = get_or w i 0; b = get_or w (i + 1) 0; c = get_or w (i + 2) 0; d = get_or w (i + 3) 0 }
unfolding element_at quads
four_at w i l =
    let b : suc i ≡ i + 1 = omega arith in
    let c : suc (suc i) ≡ i + 2 = omega arith in
    let d : suc (suc (suc i)) ≡ i + 3 = omega arith in
    rw (drop-cons w i 0 (omega arith), drop-cons w (suc i) 0 (omega arith), drop-cons w (suc (suc i)) 0 (omega arith), drop-cons w (suc (suc (suc i))) 0 (omega arith))
    (λ j. record { a = get_or w i 0; b = get_or w (b j) 0; c = get_or w (c j) 0; d = get_or w (d j) 0 })

-- does the element that begins at word i lie in the prime field: b = c = d = 0?
unfoldable pub number_at : Spelling → List ℕ → ℕ → Bool
number_at one w i = true
number_at four w i = eqb (get_or w (i + 1) 0) 0 && eqb (get_or w (i + 2) 0) 0 && eqb (get_or w (i + 3) 0) 0

-- it lies in a domain if it does, and its first word lies in that domain
pub inside_at : (σ : Spelling) (field ω : ℕ) (l : Level) (w : List ℕ) (i : ℕ) → i + word_count σ 1 ≤ length w →
    in_domain (field_in σ (prime_of field)) (number_in σ ω) l (element_at σ w i) ≡ (number_at σ w i && in_domain (field_of field) ω l (get_or w i 0))
unfolding field_in number_in element_at number_at field_of word_count embed prime_field
inside_at one field ω l w i h = refl
inside_at four field ω l w i h =
    ap (in_domain (quartic (prime_field (prime_of field)) 11) (number_in four ω) l) (four_at w i h)
    ∙ in_domain_lem (prime_field (prime_of field)) (laws field) 11 ω l (record { a = get_or w i 0; b = get_or w (i + 1) 0; c = get_or w (i + 2) 0; d = get_or w (i + 3) 0 })

-- r says whether the element that begins at word i lies in a domain: for every ω that the table is of, and every level with 2^i = scale and n_i = n0/scale
abbrev pub ElementInside : ℕ → List ℕ → ℕ → List ℕ → ℕ → Bool → Type 0
ElementInside field w i pw scale r =
    (ω : ℕ) (l : Level) → Powers field ω pw → 2 ^ l.number ≡ scale → l.size ≡ length pw / scale →
    r ≡ in_domain (field_in (spelling_of field) (prime_of field)) (number_in (spelling_of field) ω) l (element_at (spelling_of field) w i)

module _ (field : ℕ) (w : List ℕ) (i : ℕ) (pw : List ℕ) (scale : ℕ) (there : i + word_count (spelling_of field) 1 ≤ length w) where
  -- not in the prime field, so in no domain
  pub not_inside : number_at (spelling_of field) w i ≡ false → ElementInside field w i pw scale false
  not_inside e = λ ω l p q n. sym (inside_at (spelling_of field) field ω l w i there ∙ ap (λ (b : Bool). b && in_domain (field_of field) ω l (get_or w i 0)) e)

  pub as_first : number_at (spelling_of field) w i ≡ true → {r : Bool} → Inside pw scale (get_or w i 0) r → ElementInside field w i pw scale r
  as_first e h = λ ω l p q n.
      h field ω l p q n ∙ sym (inside_at (spelling_of field) field ω l w i there ∙ ap (λ (b : Bool). b && in_domain (field_of field) ω l (get_or w i 0)) e)
