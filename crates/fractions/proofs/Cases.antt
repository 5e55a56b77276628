-- The values gathered, at each spelling, by the field's number. Assumes nothing.
use Prim.Native.Nat.{ℕ, ◌+◌, ◌*◌, ◌<◌}
use mathlib.Core.Path.{◌≡◌}
use mathlib.Core.List.{List}
use lib.ListN.{length, get_or}
use Rattle.definition.specs.Field.{prime_field, prime_of, spelling_of, field_in, quads, elements_in}
use Rattle.spelling.specs.Field3.{field3}
use Rattle.list_laws.specs.Filled.{Filled, FilledOver}
use Rattle.spelling.specs.ByField.{field_at, elements_at, at_three, at_one, from_three, from_one}

module _ (field step j : ℕ) (table values : List ℕ) where
  pub inside_three : field ≡ 3 → ((m : ℕ) → m < length (elements_at field values) → j + step * m < length (elements_at field table)) → (m : ℕ) → m < length (quads values) → j + step * m < length (quads table)
  unfolding spelling_of elements_in
  inside_three h p = from_three (λ n. (m : ℕ) → m < length (elements_at n values) → j + step * m < length (elements_at n table)) field h p

  pub inside_one : (field ≡ 3 → ⊥) → ((m : ℕ) → m < length (elements_at field values) → j + step * m < length (elements_at field table)) → (m : ℕ) → m < length values → j + step * m < length table
  unfolding elements_in
  inside_one h p = from_one (λ σ. (m : ℕ) → m < length (elements_in σ values) → j + step * m < length (elements_in σ table)) field h p

  pub gathered_three : (new : List ℕ) → field ≡ 3 → FilledOver field3.𝟘 (λ m. get_or (quads table) (j + step * m) field3.𝟘) (quads values) (quads new) (length (quads values)) →
      FilledOver (field_at field).𝟘 (λ m. get_or (elements_at field table) (j + step * m) (field_at field).𝟘) (elements_at field values) (elements_at field new) (length (elements_at field values))
  unfolding spelling_of prime_of field_in elements_in
  gathered_three new h p =
      at_three (λ n. FilledOver (field_at n).𝟘 (λ m. get_or (elements_at n table) (j + step * m) (field_at n).𝟘) (elements_at n values) (elements_at n new) (length (elements_at n values))) field h p

  pub gathered_one : (new : List ℕ) → (field ≡ 3 → ⊥) → Filled (λ m. get_or table (j + step * m) 0) values new (length values) →
      FilledOver (field_at field).𝟘 (λ m. get_or (elements_at field table) (j + step * m) (field_at field).𝟘) (elements_at field values) (elements_at field new) (length (elements_at field values))
  unfolding field_in elements_in prime_field
  gathered_one new h p =
      at_one (λ σ. FilledOver (field_in σ (prime_of field)).𝟘 (λ m. get_or (elements_in σ table) (j + step * m) (field_in σ (prime_of field)).𝟘) (elements_in σ values) (elements_in σ new) (length (elements_in σ values))) field h p
