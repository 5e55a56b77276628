-- Divisors (02, CR 3): there is no inverse exactly for 0, and V, by which interpolation and quotient divide, differs from 0 off its points.
use Rattle.std.specs.Prelude.{ℕ, zero, suc, ◌-◌, ◌%◌, ◌^◌, ◌<◌, Bool, true, false, cond, List, ◌≡◌, refl, eqb}
use Rattle.std.proofs.Math.Nat
use Rattle.std.proofs.Common.{pow-suc, arith, sym, ap, ◌∙◌, eqb-true}
use Rattle.std.proofs.Math.Nat.{zero-mod}
use Rattle.std.proofs.Math.Option.{none, some}
use Rattle.definition.specs.Field.{Field, power_mod, prime_field, found_or, reciprocal}
use Rattle.definition.specs.Polynomial.{evaluate, vanishing}
use Rattle.list_laws.specs.Booleans.{some≢none}
use Rattle.algebra.specs.Different.{Differ}
use Rattle.algebra.specs.Division.{vanishing_nonzero}
use Rattle.algebra.specs.Evaluation.{reduce_evaluate}
use Rattle.algebra.specs.Laws.{FieldLaws}
use Rattle.list_laws.specs.All.{All}
use Rattle.algebra.specs.ModularArithmetic.{pow_mod}
use Rattle.algebra.specs.PowerBySquaring.{power_mod_is}

module _ {A : Type 0} (F : Field A) (L : FieldLaws F) where
  open F use {𝟘, inverse, equal}
  open L use {reduce, equal_refl, equal_true, inverse_found, inverse_none}

  -- x differs from 0
  abbrev pub Nonzero : A → Type 0
  Nonzero x = reduce x ≡ 𝟘 → ⊥

  -- what has an inverse differs from 0, what differs from 0 has one, and what has none is 0
  pub found_differs : (x : A) {u : A} → inverse x ≡ some u → Nonzero x
  found_differs x {u} e z = some≢none u (sym e ∙ inverse_none x z)

  pub never_none : (x : A) → Nonzero x → inverse x ≡ none → ⊥
  never_none x h e = some≢none (reciprocal F x) (sym (inverse_found x h) ∙ e)

  pub vanishing_differs : (xs : List A) (x : A) → All (λ a. Differ F x a) xs → Nonzero (evaluate F (vanishing F xs) x)
  vanishing_differs xs x h z = vanishing_nonzero F L xs x h (sym (reduce_evaluate F L _ _) ∙ z)

zero_power : (n : ℕ) → 0 < n → 0 ^ n ≡ 0
zero_power zero h = absurd (omega arith)
zero_power (suc n) h = pow-suc 0 n ∙ Nat.mul-zero (0 ^ n)

-- Interpolation and quotient multiply by the number by which they did when the inverse of 0 was 0; so no verdict and no block changed.
pub as_before : (p x : ℕ) → 2 < p → reciprocal (prime_field p) x ≡ x ^ (p - 2) % p
unfolding prime_field reciprocal found_or
as_before p x large = go (eqb (x % p) 0) refl
  where
    go : (b : Bool) → eqb (x % p) 0 ≡ b → found_or 0 (cond b none (some (power_mod x (p - 2) p))) ≡ x ^ (p - 2) % p
    go true e =
        sym (sym (pow_mod p x (p - 2)) ∙ ap (λ (n : ℕ). n ^ (p - 2) % p) (eqb-true (x % p) 0 e) ∙ ap (λ (n : ℕ). n % p) (zero_power (p - 2) (omega arith)) ∙ zero-mod p)
    go false e = power_mod_is x (p - 2) p
