-- A sample put at each spelling, by the field's number. Assumes nothing.
use Prim.Native.Nat.{ℕ, ◌≤◌, ◌<◌}
use mathlib.Core.Path.{◌≡◌}
use mathlib.Core.List.{List}
use lib.ListN.{length, drop}
use Rattle.definition.specs.Field.{prime_field, prime_of, field_of, spelling_of, field_in, quads, elements_in}
use Rattle.definition.specs.Polynomial.{pair}
use Rattle.spelling.specs.Field3.{field3}
use Rattle.quartic.specs.Meaning.{quad_of}
use Rattle.quartic.specs.declared.Four.{Four}
use Rattle.spelling.specs.ByField.{field_at, elements_at, at_three, at_one, from_three, from_one}
use Rattle.elements.specs.Meaning.{value_in, value_at}
use Rattle.samples.specs.Samples.{Gathered, put, kept}

module _ (field : ℕ) (xs ys : List ℕ) (k : ℕ) where
  pub fits_three : field ≡ 3 → (0 < k) × ((k ≤ length (elements_at field xs)) × (length (elements_at field ys) ≡ length (elements_at field xs))) → (0 < k) × ((k ≤ length (quads xs)) × (length (quads ys) ≡ length (quads xs)))
  unfolding spelling_of elements_in
  fits_three h p = from_three (λ n. (0 < k) × ((k ≤ length (elements_at n xs)) × (length (elements_at n ys) ≡ length (elements_at n xs)))) field h p

  pub fits_one : (field ≡ 3 → ⊥) → (0 < k) × ((k ≤ length (elements_at field xs)) × (length (elements_at field ys) ≡ length (elements_at field xs))) → (0 < k) × ((k ≤ length xs) × (length ys ≡ length xs))
  unfolding elements_in
  fits_one h p = from_one (λ σ. (0 < k) × ((k ≤ length (elements_in σ xs)) × (length (elements_in σ ys) ≡ length (elements_in σ xs)))) field h p

  module _ (x y : Four) (r : Gathered) (xs' ys' : List ℕ) where
    pub pushed_three : field ≡ 3 → kept r (quads xs') (quads ys') ≡ put field3.equal (record { point = quad_of x; value = quad_of y }) (pair (drop k (quads xs)) (drop k (quads ys))) →
        kept r (elements_at field xs') (elements_at field ys') ≡ put (field_at field).equal (record { point = value_at field x; value = value_at field y }) (pair (drop k (elements_at field xs)) (drop k (elements_at field ys)))
    unfolding spelling_of prime_of field_in value_in elements_in
    pushed_three h p =
        at_three (λ n. kept r (elements_at n xs') (elements_at n ys') ≡ put (field_at n).equal (record { point = value_at n x; value = value_at n y }) (pair (drop k (elements_at n xs)) (drop k (elements_at n ys)))) field h p

    pub pushed_one : (field ≡ 3 → ⊥) → kept r xs' ys' ≡ put (field_of field).equal (record { point = x.a; value = y.a }) (pair (drop k xs) (drop k ys)) →
        kept r (elements_at field xs') (elements_at field ys') ≡ put (field_at field).equal (record { point = value_at field x; value = value_at field y }) (pair (drop k (elements_at field xs)) (drop k (elements_at field ys)))
    unfolding field_in value_in elements_in field_of prime_field
    pushed_one h p =
        at_one (λ σ. kept r (elements_in σ xs') (elements_in σ ys') ≡ put (field_in σ (prime_of field)).equal (record { point = value_in σ x; value = value_in σ y }) (pair (drop k (elements_in σ xs)) (drop k (elements_in σ ys)))) field h p
