-- Elements of one word: the laws of their field, and words as the elements that they are. Assumes nothing.
use Rattle.std.specs.Prelude.{ℕ, Bool, true, false, cond, eqb, List, ◌≡◌, ◌-◌, ◌*◌, ◌/◌, ◌%◌, ◌<◌, length, take, drop}
use Rattle.std.proofs.Common.{arith, ap, sym, ◌∙◌, mul-one}
use Rattle.std.proofs.Math.Option.{none, some}
use Rattle.definition.specs.Field.{power_mod, prime_field, prime_of, field_of, found_or, reciprocal}
use Rattle.algebra.specs.Laws.{FieldLaws}
use Rattle.algebra.specs.PowerBySquaring.{power_mod_reduced}
use Rattle.algebra.specs.PrimeField.{laws}

abbrev pub laws_of : (field : ℕ) → FieldLaws (field_of field)
laws_of field = laws field

pub counted_by_one : (w : List ℕ) → length w / 1 ≡ length w
counted_by_one w = omega arith

once : (n : ℕ) → 1 * n ≡ n
once n = omega arith

pub first_by_one : (n : ℕ) (w : List ℕ) → take (1 * n) w ≡ take n w
first_by_one n w = ap (λ (m : ℕ). take m w) (once n)

pub behind_by_one : (n : ℕ) (w : List ℕ) → drop (1 * n) w ≡ drop n w
behind_by_one n w = ap (λ (m : ℕ). drop m w) (once n)

pub wide_one : 0 < 1
wide_one = omega arith

-- an inverse is below p
pub reduced_by_one : (field x : ℕ) → (laws field).reduce (reciprocal (field_of field) x) ≡ reciprocal (field_of field) x
unfolding field_of prime_field reciprocal found_or
reduced_by_one field x = go (eqb (x % prime_of field) 0)
  where
    u : ℕ
    u = power_mod x (prime_of field - 2) (prime_of field)

    go : (b : Bool) → (laws field).reduce (found_or 0 (cond b none (some u))) ≡ found_or 0 (cond b none (some u))
    go true = (laws field).reduce_zero
    go false = sym ((laws field).mul_one u) ∙ ap (λ (n : ℕ). n % prime_of field) (mul-one u) ∙ power_mod_reduced x (prime_of field - 2) (prime_of field)
