-- The fold at each spelling, by the field's number. Assumes nothing.
use Prim.Native.Nat.{ℕ, ◌^◌, ◌≤◌}
use mathlib.Core.Path.{◌≡◌, ◌∙◌, ap, subst}
use mathlib.Core.Option.{some}
use mathlib.Core.List.{List}
use lib.ListN.{length, get_or}
use Rattle.definition.specs.Field.{Quad, prime_field, prime_of, field_of, embed, spelling_of, field_in, number_in, quads, elements_in}
use Rattle.spelling.specs.Field3.{field3, base}
use Rattle.folds.specs.Halving.{halving, exponent_of}
use Rattle.folds.specs.OneHalf.{two, half_of}
use Rattle.folds.specs.PointsIn.{inverse_power_in}
use Rattle.quartic.specs.Meaning.{quad_of}
use Rattle.quartic.specs.declared.Four.{Four}
use Rattle.spelling.specs.ByField.{field_at, elements_at, at_three, at_one, from_three, from_one}
use Rattle.elements.specs.Meaning.{value_in, value_at}
use Rattle.element_folds.specs.Points.{inverse_four, inverse_at}
use Rattle.element_folds.proofs.HalfFour.{half_four}

module _ (field : ℕ) (values : List ℕ) where
  pub power_three : field ≡ 3 → (length (elements_at field values) ≡ 2 ^ exponent_of (length (elements_at field values))) × (length (elements_at field values) ≤ 16) →
      (length (quads values) ≡ 2 ^ exponent_of (length (quads values))) × (length (quads values) ≤ 16)
  unfolding spelling_of elements_in
  power_three h p = from_three (λ n. (length (elements_at n values) ≡ 2 ^ exponent_of (length (elements_at n values))) × (length (elements_at n values) ≤ 16)) field h p

  pub power_one : (field ≡ 3 → ⊥) → (length (elements_at field values) ≡ 2 ^ exponent_of (length (elements_at field values))) × (length (elements_at field values) ≤ 16) →
      (length values ≡ 2 ^ exponent_of (length values)) × (length values ≤ 16)
  unfolding elements_in
  power_one h p = from_one (λ σ. (length (elements_in σ values) ≡ 2 ^ exponent_of (length (elements_in σ values))) × (length (elements_in σ values) ≤ 16)) field h p

  module _ (pw : List ℕ) (e d : ℕ) (r v : Four) where
    pub fold_three : {half : ℕ} → field ≡ 3 → some half ≡ (field_of field).inverse (two (field_of field)) →
        quad_of v ≡ halving field3 (embed base half) (inverse_four pw) (exponent_of (length (quads values))) e d (quad_of r) (λ m. get_or (quads values) m field3.𝟘) →
        value_at field v ≡ halving (field_at field) (half_of (field_at field)) (inverse_at field pw) (exponent_of (length (elements_at field values))) e d (value_at field r) (λ m. get_or (elements_at field values) m (field_at field).𝟘)
    unfolding spelling_of prime_of field_in value_in elements_in number_in embed prime_field
    fold_three {half} h eh q =
        at_three (λ n. value_at n v ≡ halving (field_at n) (half_of (field_at n)) (inverse_at n pw) (exponent_of (length (elements_at n values))) e d (value_at n r) (λ m. get_or (elements_at n values) m (field_at n).𝟘))
        field h (q ∙ ap (λ (u : Quad ℕ). halving field3 u (inverse_four pw) (exponent_of (length (quads values))) e d (quad_of r) (λ m. get_or (quads values) m field3.𝟘)) (half_four (subst (λ (n : ℕ). some half ≡ (field_of n).inverse (two (field_of n))) h eh)))

    pub fold_one : {x : ℕ} → (field ≡ 3 → ⊥) → v.a ≡ x → x ≡ halving (field_of field) (half_of (field_of field)) (inverse_power_in 0 pw) (exponent_of (length values)) e d r.a (λ m. get_or values m 0) →
        value_at field v ≡ halving (field_at field) (half_of (field_at field)) (inverse_at field pw) (exponent_of (length (elements_at field values))) e d (value_at field r) (λ m. get_or (elements_at field values) m (field_at field).𝟘)
    unfolding field_in value_in elements_in number_in field_of prime_field
    fold_one h ev q =
        at_one (λ σ. value_in σ v ≡ halving (field_in σ (prime_of field)) (half_of (field_in σ (prime_of field))) (λ n. number_in σ (inverse_power_in 0 pw n)) (exponent_of (length (elements_in σ values))) e d (value_in σ r)
        (λ m. get_or (elements_in σ values) m (field_in σ (prime_of field)).𝟘)) field h (ev ∙ q)
