-- A table of the powers of ω, which are words, as a table of elements: of their powers, back to words, and in size. Assumes nothing.
use Rattle.std.specs.Prelude.{ℕ, ◌+◌, ◌*◌, ◌/◌, ◌<◌, ◌≡◌, List, length, get_or}
use Rattle.std.proofs.Common.{arith, sym, ap, ◌∙◌, subst}
use Rattle.definition.specs.Field.{Field, field_of, number_in, power, prime_field, prime_of, spelling_of}
use Rattle.algebra.specs.FieldIn.{one_in}
use Rattle.algebra.specs.RootsOfUnity.{minus_one, power_mul}
use Rattle.spelling.specs.ByField.{ElementOf, field_at, laws_at, points_at}
use Rattle.spelling.specs.Points.{length_points, number_minus_one, number_power, number_same, points_get}
use Rattle.domain.specs.Powers.{Powers, PowersOver}
use Rattle.fractions.specs.declared.Oracle.{Oracle}
use Rattle.fractions.specs.Values.{Fits}

pub powers_as_elements : (field : ℕ) {ω : ℕ} {pw : List ℕ} → Powers field ω pw → PowersOver (field_at field) (number_in (spelling_of field) ω) (points_at field pw)
unfolding field_of prime_field
powers_as_elements field {ω} {pw} h =
    let number = number_in (spelling_of field) in
    let size = length_points field pw in
    record {
      entry = λ e l. points_get field pw e ∙ ap number (h.entry e (omega (arith, l, size))) ∙ sym (number_power field ω (1 + e));
      round = ap (power (field_at field) (number ω)) size ∙ number_power field ω (length pw) ∙ ap number h.round ∙ sym (one_in (spelling_of field) (prime_of field));
      half = ap (λ (n : ℕ). power (field_at field) (number ω) (n / 2)) size ∙ number_power field ω (length pw / 2) ∙ ap number h.half ∙ sym (number_minus_one field);
    }

-- where the elements are powers of any ω, the words are powers of the first of them
pub powers_as_words : (field : ℕ) (pw : List ℕ) {ω : ElementOf field} → 0 < length pw → PowersOver (field_at field) ω (points_at field pw) → Powers field (get_or pw 0 0) pw
unfolding field_of prime_field
powers_as_words field pw {ω} some h = record {
  entry = λ e l. number_same (spelling_of field) (get_or pw e 0) (power (field_of field) (get_or pw 0 0) (1 + e))
      (sym (points_get field pw e) ∙ h.entry e (omega (arith, l, size)) ∙ sym (same (1 + e)));
  round = number_same (spelling_of field) (power (field_of field) (get_or pw 0 0) (length pw)) 1
      (same (length pw) ∙ ap (power F ω) (sym size) ∙ h.round ∙ one_in (spelling_of field) (prime_of field));
  half = number_same (spelling_of field) (power (field_of field) (get_or pw 0 0) (length pw / 2)) (minus_one (field_of field))
      (same (length pw / 2) ∙ ap (λ (n : ℕ). power F ω (n / 2)) (sym size) ∙ h.half ∙ number_minus_one field);
}
  where
    F : Field (ElementOf field)
    F = field_at field

    size : length (points_at field pw) ≡ length pw
    size = length_points field pw

    first : number_in (spelling_of field) (get_or pw 0 0) ≡ power F ω 1
    first = sym (points_get field pw 0) ∙ h.entry 0 (omega (arith, size))

    same : (n : ℕ) → number_in (spelling_of field) (power (field_of field) (get_or pw 0 0) n) ≡ power F ω n
    same n =
        sym (number_power field (get_or pw 0 0) n) ∙ ap (λ (x : ElementOf field). power F x n) first
        ∙ power_mul F (laws_at field) ω 1 n ∙ ap (power F ω) (let e : 1 * n ≡ n = omega arith in e)

-- as many elements as words
pub fits_points : (field : ℕ) (pw : List ℕ) {n : ℕ} {oracle : Oracle} {k : ℕ} → Fits (length pw) n oracle k → Fits (length (points_at field pw)) n oracle k
fits_points field pw {n} {oracle} {k} fits = subst (λ (m : ℕ). Fits m n oracle k) (sym (length_points field pw)) fits
