-- The public inverse of the three fields: none exactly for 0, and where it is found, an element whose product with x is 1.
use Rattle.std.specs.Prelude.{ℕ, ◌-◌, ◌*◌, ◌%◌, ◌≤◌, ◌<◌, true, false, ◌↔◌, ◌≡◌, eqb}
use Rattle.std.proofs.Common.{mod-lt, arith, sym, ◌∙◌}
use Rattle.std.proofs.Math.Nat.{mod-mod}
use Rattle.std.proofs.Math.Bool.{Bool, cond}
use Rattle.std.proofs.Math.Option.{none, some}
use Rattle.std.proofs.Math.Path.{refl, ap, subst}
use borrow.Author.Tests.{eq-eqb, eqb-true, le-ltb, lt-ltb, ne_eqb}
use Rattle.definition.specs.Field.{InverseAnswer, answer_found, element, field_of, found, in_field, inverse_of, known_field, no_inverse, power_mod, prime_field, prime_of, product, unknown_field}
use Rattle.algebra.specs.Fermat.{fermat_inverse}
use Rattle.algebra.specs.PowerBySquaring.{power_mod_is, power_mod_reduced}
use Rattle.algebra.specs.PrimeField.{suited}

found≢none : (u : ℕ) → found u ≡ no_inverse → ⊥
found≢none u e = let z : ◌≡◌ {A = ℕ} 1 0 = ap there e in omega arith
  where
    there : InverseAnswer → ℕ
    there (found v) = 1
    there no_inverse = 0
    there unknown_field = 0

module _ (field x : ℕ) where
  abbrev p : ℕ
  p = prime_of field

  abbrev y : ℕ
  y = x % prime_of field

  pub none_exactly : field < 3 → (inverse_of field x ≡ no_inverse) ↔ (x % p ≡ 0)
  unfolding inverse_of known_field answer_found field_of prime_field
  none_exactly known = (λ e. go (eqb (y % p) 0) refl (sym (ap there (lt-ltb field 3 known)) ∙ e), λ z. simp (lt-ltb field 3 known, eq-eqb (y % p) 0 (mod-mod x p ∙ z)))
    where
      there : Bool → InverseAnswer
      there b = cond b (answer_found (cond (eqb (y % p) 0) none (some (power_mod y (p - 2) p)))) unknown_field

      go : (b : Bool) → eqb (y % p) 0 ≡ b → answer_found (cond b none (some (power_mod y (p - 2) p))) ≡ no_inverse → x % p ≡ 0
      go true q e = sym (mod-mod x p) ∙ eqb-true (y % p) 0 q
      go false q e = absurd (found≢none _ e)

  pub inverse_there : field < 3 → (x % p ≡ 0 → ⊥) → (u : ℕ) × (inverse_of field x ≡ found u) × (u < p) × (product field x u ≡ element 1)
  unfolding inverse_of product in_field known_field answer_found field_of prime_field
  inverse_there known h =
      let nonzero : y % p ≡ 0 → ⊥ = λ z. h (sym (mod-mod x p) ∙ z) in
      let u = power_mod y (p - 2) p in
      let one : y * (u % p) % p ≡ 1 = ap (λ (n : ℕ). y * n % p) (power_mod_reduced y (p - 2) p ∙ power_mod_is y (p - 2) p) ∙ fermat_inverse p (suited field).prime y nonzero in
      (u, simp (lt-ltb field 3 known, ne_eqb (y % p) 0 nonzero), subst (λ (n : ℕ). n < p) (power_mod_reduced y (p - 2) p) (mod-lt u (omega (arith, (suited field).large))), simp (lt-ltb field 3 known, one))

  pub inverse_nowhere : 3 ≤ field → inverse_of field x ≡ unknown_field
  unfolding inverse_of known_field
  inverse_nowhere h = simp (le-ltb field 3 h)
