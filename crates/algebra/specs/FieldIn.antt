-- The field of each number, in its spelling: its laws, -1 and 1, ω, and which elements are in range.
use Rattle.std.specs.Prelude.{ℕ, ◌%◌, ◌<◌, Bool, true, false, cond, ◌≡◌, refl, eqb}
use Rattle.std.proofs.Math.Nat
use Rattle.std.proofs.Common.{mod-eq_of_lt, mod-lt, sym, ap, ◌∙◌, subst, eqb-true}
use mathlib.Core.List.{List, [], ◌∷◌, flat_map}
use Rattle.definition.specs.Field.{Element, Spelling, elements_in, embed, field_in, four, number_in, one, power, prime_field, prime_of, quads, quartic, spelling_of, words_of}
use Rattle.list_laws.specs.All.{All}
use Rattle.algebra.specs.Field3.{laws₃}
use Rattle.algebra.specs.Laws.{FieldLaws}
use Rattle.algebra.specs.PrimeField.{prime_field_lem, signs_differ, suited}
use Rattle.algebra.specs.Quartic.{embed_root, embed_signs, quad_path}
use Rattle.algebra.specs.RootsOfUnity.{minus_one}

-- a field number and its spelling: four words are those of field 3, whose prime is field 2's
pub spelling_cases : (P : Spelling → ℕ → Type 0) (field : ℕ) → P one (prime_of field) → P four 2013265921 → P (spelling_of field) (prime_of field)
unfolding spelling_of prime_of
spelling_cases P field single several = go (eqb field 3) refl
  where
    go : (b : Bool) → eqb field 3 ≡ b → P (cond b four one) (prime_of field)
    go true e = subst (λ (n : ℕ). P four (prime_of n)) (sym (eqb-true field 3 e)) several
    go false e = single

-- Every field obeys the laws of a field.
pub laws_in : (field : ℕ) → FieldLaws (field_in (spelling_of field) (prime_of field))
unfolding field_in
laws_in field = spelling_cases (λ σ p. FieldLaws (field_in σ p)) field (prime_field_lem (prime_of field) (suited field).prime) laws₃

-- its 0, as a number
pub zero_in : (σ : Spelling) (p : ℕ) → (field_in σ p).𝟘 ≡ number_in σ 0
unfolding field_in number_in prime_field quartic embed
zero_in one p = refl
zero_in four p = refl

pub one_in : (σ : Spelling) (p : ℕ) → (field_in σ p).𝟙 ≡ number_in σ 1
unfolding field_in number_in prime_field quartic embed
one_in one p = refl
one_in four p = refl

-- what fits the prime field fits the field of four words over it: -1 is not 1, and ω^(n0/2) = -1
pub signs_in : (σ : Spelling) (p : ℕ) → FieldLaws (prime_field p) → 2 < p → minus_one (field_in σ p) ≡ (field_in σ p).𝟙 → ⊥
unfolding field_in
signs_in one p L large = signs_differ p large
signs_in four p L large = embed_signs (prime_field p) L 11 (signs_differ p large)

pub root_in : (σ : Spelling) (p : ℕ) → FieldLaws (prime_field p) → (ω h : ℕ) → power (prime_field p) ω h ≡ minus_one (prime_field p) →
    power (field_in σ p) (number_in σ ω) h ≡ minus_one (field_in σ p)
unfolding field_in number_in prime_field embed
root_in one p L ω h e = e
root_in four p L ω h e = embed_root (prime_field p) L 11 ω h e

-- An element in range: each of its words is below p.
abbrev pub Below : (σ : Spelling) → ℕ → Element σ → Type 0
Below one p x = x < p
Below four p x = (x.a < p) × (x.b < p) × (x.c < p) × (x.d < p)

-- it is its own spelling in range,
pub reduced_in : (σ : Spelling) (p : ℕ) (L : FieldLaws (field_in σ p)) (x : Element σ) → Below σ p x → L.reduce x ≡ x
unfolding field_in prime_field quartic embed
reduced_in one p L x l = sym (L.add_zero x) ∙ ap (λ (y : ℕ). y % p) (Nat.add-zero x) ∙ mod-eq_of_lt l
reduced_in four p L x l =
    sym (L.add_zero x)
    ∙ quad_path (ap (λ (n : ℕ). n % p) (Nat.add-zero x.a) ∙ mod-eq_of_lt l.0) (ap (λ (n : ℕ). n % p) (Nat.add-zero x.b) ∙ mod-eq_of_lt l.1)
    (ap (λ (n : ℕ). n % p) (Nat.add-zero x.c) ∙ mod-eq_of_lt l.2) (ap (λ (n : ℕ). n % p) (Nat.add-zero x.d) ∙ mod-eq_of_lt l.3)

-- and back; 0 and every sum are in range
pub zero_below : (σ : Spelling) (p : ℕ) → 0 < p → Below σ p (field_in σ p).𝟘
unfolding field_in prime_field quartic embed
zero_below one p h = h
zero_below four p h = (h, h, h, h)

pub sum_below : (σ : Spelling) (p : ℕ) → 0 < p → (x y : Element σ) → Below σ p ((field_in σ p).◌⊕◌ x y)
unfolding field_in prime_field quartic
sum_below one p h x y = mod-lt _ h
sum_below four p h x y = (mod-lt _ h, mod-lt _ h, mod-lt _ h, mod-lt _ h)

pub below_in : (σ : Spelling) (p : ℕ) (L : FieldLaws (field_in σ p)) → 0 < p → (x : Element σ) → L.reduce x ≡ x → Below σ p x
below_in σ p L positive x e = subst (Below σ p) (L.add_zero x ∙ e) (sum_below σ p positive x (field_in σ p).𝟘)

-- words below p spell elements in range, and elements in range are spelt by such words
pub read_below : (σ : Spelling) (p : ℕ) (w : List ℕ) → All (λ x. x < p) w → All (Below σ p) (elements_in σ w)
unfolding elements_in quads
read_below one p w h = h
read_below four p [] h = tt
read_below four p (a ∷ []) h = tt
read_below four p (a ∷ b ∷ []) h = tt
read_below four p (a ∷ b ∷ c ∷ []) h = tt
read_below four p (a ∷ b ∷ c ∷ d ∷ w) h = ((h.0, h.1.0, h.1.1.0, h.1.1.1.0), read_below four p w h.1.1.1.1)

pub words_below : (σ : Spelling) (p : ℕ) (xs : List (Element σ)) → All (Below σ p) xs → All (λ x. x < p) (words_of σ xs)
unfolding words_of flat_map
words_below one p xs h = h
words_below four p [] h = tt
words_below four p (x ∷ xs) h = (h.0.0, (h.0.1, (h.0.2, (h.0.3, words_below four p xs h.1))))
