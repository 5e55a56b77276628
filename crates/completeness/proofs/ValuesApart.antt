-- Where values some way apart differ, equal values stand at equal numbers.
use Prim.Native.Nat.{ℕ, ◌+◌, ◌-◌, ◌<◌}
use Rattle.std.proofs.Math.Decide.{dec_lt}
use Rattle.std.proofs.Common.{◌∙◌}
use native.Mathlib.Omega.{arith}
use Rattle.std.specs.Prelude.{◌≡◌}
use Rattle.std.proofs.Math.Path.{sym, ap}
use Rattle.definition.specs.Field.{Field}
use Rattle.algebra.specs.Different.{Differ}
use Rattle.algebra.specs.Laws.{FieldLaws}
use Rattle.algebra.specs.RingLaws

module _ {A : Type 0} (F : Field A) (L : FieldLaws F) where
  infixl 65 ◌⊖◌
  open F use {𝟘, ◌⊖◌}

  pub numbers_equal : (g : ℕ → A) (n : ℕ) → ((a c : ℕ) → c < n → 0 < c → Differ F (g (a + c)) (g a)) → (a b : ℕ) → a < n → b < n → g a ≡ g b → a ≡ b
  numbers_equal g n h a b la lb e = go (dec_lt a b) (dec_lt b a)
    where
      apart : (x y : ℕ) → x < y → y < n → g x ≡ g y → ⊥
      apart x y l u q =
          let d : x + (y - x) ≡ y = omega arith in
          h x (y - x) (omega arith) (omega arith) (ap (λ (m : ℕ). g m ⊖ g x) d ∙ ap (λ (v : A). v ⊖ g x) (sym q) ∙ RingLaws.sub_self F L (g x))

      go : Dec (a < b) → Dec (b < a) → a ≡ b
      go (yes l) r = absurd (apart a b l lb e)
      go (no l) (yes m) = absurd (apart b a m la (sym e))
      go (no l) (no m) = omega arith
