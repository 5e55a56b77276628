-- The inverse by Euclid's division: what stands between two divisions, and what a division keeps, over any field with the laws; then at words.
-- Assumes nothing.
use mathlib.Core.Path.{◌≡◌, sym, ap, ◌∙◌}
use Prim.Native.Nat.{ℕ, ◌+◌, ◌-◌, ◌*◌, ◌/◌, ◌%◌, ◌≤◌, ◌<◌}
use native.Mathlib.Nat as N
use native.Mathlib.Omega.{arith}
use Rattle.definition.specs.Field.{Field, prime_field, prime_of, field_of, power}
use Rattle.algebra.specs.Laws.{FieldLaws}
use Rattle.algebra.specs.RingLaws.{zero_mul, one_mul, reduce_power}
use Rattle.algebra.specs.Solver.{:0, :1, ◌:+◌, ◌:*◌, :-◌, ◌:=◌, given, solve}
use Rattle.algebra.specs.Fermat.{fermat_inverse}
use Rattle.algebra.specs.PrimeField.{suited, laws}
use Rattle.field.proofs.ByNumber.{prime_big, power_by}

module _ {A : Type 0} (F : Field A) (L : FieldLaws F) where
  infixl 65 ◌⊕◌
  infixl 70 ◌⊗◌
  open F use {𝟘, 𝟙, ◌⊕◌, ◌⊗◌}
  open L use {reduce, mul_assoc, mul_one, mul-zero, add_zero, reduce_one, reduce_add, mul_reduce, one≢zero}

  -- two remainders in a row, `before` and `rest`, are s and t times x
  pub record Remainders (x before rest s t : A) : Type 0 where
    pub reduced : reduce t ≡ t
    pub behind : reduce before ≡ s ⊗ x
    pub here : reduce rest ≡ t ⊗ x

  -- at first p, which is 0 in the field, and x itself
  pub remainders_first : (x p : A) → reduce p ≡ 𝟘 → Remainders x p x 𝟘 𝟙
  remainders_first x p z = record { reduced = reduce_one; behind = z ∙ sym (zero_mul F L x); here = sym (one_mul F L x) }

  -- with the quotient q, and with m for -t
  pub remainders_again : {x before rest s t : A} (q next m : A) {u : A} → Remainders x before rest s t → next ⊕ q ⊗ rest ≡ reduce before → m ⊕ t ≡ 𝟘 → u ≡ s ⊕ q ⊗ m →
      Remainders x rest next t u
  remainders_again {x} {before} {rest} {s} {t} q next m d whole opposite eu =
      rw eu (record {
        reduced = reduce_add s (q ⊗ m);
        behind = d.here;
        here = sym
            (solve F L 7 (λ x rest s t q next m.
            given (next :+ q :* rest) (s :* x) (:- :1) (given (rest :+ :0) (t :* x) q (given (m :+ t) :0 (q :* x) ((s :+ q :* m) :* x := next))))
            tt x rest s t q next m (whole ∙ d.behind) (add_zero rest ∙ d.here) opposite);
      })

  -- where 1 is left, x is not 0, and t is what makes 1 with it
  remainders_one : {x before rest s t : A} → Remainders x before rest s t → rest ≡ 𝟙 → t ⊗ x ≡ 𝟙
  remainders_one d e = sym d.here ∙ ap reduce e ∙ reduce_one

  pub remainders_nonzero : {x before rest s t : A} → Remainders x before rest s t → rest ≡ 𝟙 → reduce x ≡ 𝟘 → ⊥
  remainders_nonzero {x} {t = t} d e z = one≢zero (sym (remainders_one d e) ∙ sym (mul_reduce t x) ∙ ap (λ (v : A). t ⊗ v) z ∙ mul-zero t)

  pub remainders_last : {x before rest s t : A} (v : A) → Remainders x before rest s t → rest ≡ 𝟙 → x ⊗ v ≡ 𝟙 → t ≡ reduce v
  remainders_last {x} {t = t} v d e unit =
      sym (mul_one t ∙ d.reduced) ∙ ap (λ (w : A). t ⊗ w) (sym unit) ∙ sym (mul_assoc t x v) ∙ ap (λ (w : A). w ⊗ v) (remainders_one d e) ∙ one_mul F L v

-- at the words of a field, p its prime
module _ (field : ℕ) where
  abbrev F : Field ℕ
  F = field_of field

  abbrev L : FieldLaws F
  L = laws field

  abbrev p : ℕ
  p = prime_of field

  reduce_is : (x : ℕ) → L.reduce x ≡ x % p
  unfolding field_of prime_field
  reduce_is x = sym (L.add_zero x) ∙ ap (λ (n : ℕ). n % p) (N.add-zero x)

  pub euclid_first : (a : ℕ) {m : ℕ} → m ≡ p → Remainders F L a m a 0 1
  unfolding field_of prime_field
  euclid_first a {m} e = remainders_first F L a m (reduce_is m ∙ ap (λ (n : ℕ). n % p) e ∙ N.mod_self p)

  -- so that p - t does not go below zero
  pub euclid_below : {a before rest s t : ℕ} → Remainders F L a before rest s t → t ≤ p
  euclid_below {t = t} d =
      let less : t % p < p = N.mod-lt t (omega (arith, prime_big field)) in
      omega (arith, sym d.reduced ∙ reduce_is t)

  pub euclid_again : {a before rest s t u m : ℕ} → Remainders F L a before rest s t → m ≡ p → u ≡ F.◌⊕◌ s (F.◌⊗◌ (before / rest) (m - t)) →
      Remainders F L a rest (before % rest) t u
  unfolding field_of prime_field
  euclid_again {a} {before} {rest} {s} {t} {u} {m} d e eu =
      remainders_again F L (before / rest) (before % rest) (m - t) d whole opposite eu
    where
      whole : (before % rest + before / rest * rest % p) % p ≡ L.reduce before
      whole = N.add-mod-mod (before % rest) (before / rest * rest) p ∙ ap (λ (n : ℕ). n % p) (N.mod-add-div' before rest) ∙ sym (reduce_is before)

      back : m - t + t ≡ p
      back = omega (arith, e, euclid_below d)

      opposite : (m - t + t) % p ≡ 0
      opposite = ap (λ (n : ℕ). n % p) back ∙ N.mod_self p

  pub euclid_last : {a before rest s t : ℕ} → Remainders F L a before rest s t → rest ≡ 1 → t ≡ power F a (p - 2)
  unfolding field_of prime_field
  euclid_last {a} d e =
      let nonzero : a % p ≡ 0 → ⊥ = λ z. remainders_nonzero F L d e (reduce_is a ∙ z) in
      let unit : a * power F a (p - 2) % p ≡ 1 = ap (λ (n : ℕ). a * n % p) (power_by field a (p - 2)) ∙ fermat_inverse p (suited field).prime a nonzero in
      remainders_last F L (power F a (p - 2)) d e unit ∙ reduce_power F L a (p - 2)
