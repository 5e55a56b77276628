-- A fold by halves, with no inversion. Where a polynomial has the values v at x and w at -x, its even half has (v + w)/2 at x² and its odd half (v - w)/2x,
-- so that E + r·O has (v + w + r·(v - w)/x)/2 there. Its values at the squares are half as many, and it has at r² what the polynomial has at r.
use Rattle.std.specs.Prelude.{ℕ, zero, suc, ◌+◌, ◌*◌, ◌/◌, ◌^◌, cond, ltb}
use Rattle.definition.specs.Field.{Field}

module _ {A : Type 0} (F : Field A) where
  infixl 65 ◌⊕◌ ◌⊖◌
  infixl 70 ◌⊗◌
  open F use {◌⊕◌, ◌⊖◌, ◌⊗◌}

  -- the values v at x and w at -x, joined with r: y is 1/x, and half is 1/2
  unfoldable pub joined : A → A → A → A → A → A
  joined half r y v w = half ⊗ (v ⊕ w ⊕ r ⊗ y ⊗ (v ⊖ w))

  -- 2^a values, value m at the power e + m·d of some ω, folded with r; inverse_power n is 1/ω^n
  unfoldable pub halving : A → (ℕ → A) → ℕ → ℕ → ℕ → A → (ℕ → A) → A
  halving half inverse_power zero e d r v = v 0
  halving half inverse_power (suc a) e d r v = halving half inverse_power a (2 * e) (2 * d) (r ⊗ r) (λ m. joined half r (inverse_power (e + m * d)) (v m) (v (2 ^ a + m)))

-- how often a number can be halved, in at most `most` turns, before it is 1
unfoldable pub halvings : ℕ → ℕ → ℕ
halvings zero k = 0
halvings (suc most) k = cond (ltb 1 k) (suc (halvings most (k / 2))) 0

-- the exponent of a power of two
unfoldable pub exponent_of : ℕ → ℕ
exponent_of k = halvings k k
