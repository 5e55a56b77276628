-- Numerators divided at each spelling, by the field's number. Assumes nothing.
use Prim.Native.Nat.{ℕ, ◌≤◌}
use mathlib.Core.Path.{◌≡◌}
use mathlib.Core.List.{List}
use lib.ListN.{length}
use Rattle.definition.specs.Field.{prime_of, field_of, Spelling, spelling_of, field_in, quads, elements_in}
use Rattle.spelling.specs.Field3.{field3}
use Rattle.spelling.specs.ByField.{at_three, at_one, from_three, from_one}
use Rattle.root_values.specs.Dividing.{DividedOver, Divisible}

module _ (field : ℕ) (bottoms tops : List ℕ) where
  -- what is asked for, at a spelling over a prime
  abbrev pub Asked : Spelling → ℕ → Type 0
  Asked σ p = (length (elements_in σ tops) ≤ length (elements_in σ bottoms)) × Divisible (field_in σ p) (elements_in σ bottoms) (length (elements_in σ tops))

  pub asked_three : field ≡ 3 → Asked (spelling_of field) (prime_of field) → (length (quads tops) ≤ length (quads bottoms)) × Divisible field3 (quads bottoms) (length (quads tops))
  unfolding spelling_of prime_of field_in elements_in
  asked_three h p = from_three (λ n. Asked (spelling_of n) (prime_of n)) field h p

  pub asked_one : (field ≡ 3 → ⊥) → Asked (spelling_of field) (prime_of field) → (length tops ≤ length bottoms) × Divisible (field_of field) bottoms (length tops)
  unfolding field_in elements_in field_of
  asked_one h p = from_one (λ σ. Asked σ (prime_of field)) field h p

  module _ (new : List ℕ) where
    abbrev pub Answer : Spelling → ℕ → Type 0
    Answer σ p = DividedOver (field_in σ p) (elements_in σ bottoms) (elements_in σ tops) (elements_in σ new)

    pub divided_three : field ≡ 3 → DividedOver field3 (quads bottoms) (quads tops) (quads new) → Answer (spelling_of field) (prime_of field)
    unfolding spelling_of prime_of field_in elements_in
    divided_three h p = at_three (λ n. Answer (spelling_of n) (prime_of n)) field h p

    pub divided_one : (field ≡ 3 → ⊥) → DividedOver (field_of field) bottoms tops new → Answer (spelling_of field) (prime_of field)
    unfolding field_in elements_in field_of
    divided_one h p = at_one (λ σ. Answer σ (prime_of field)) field h p
