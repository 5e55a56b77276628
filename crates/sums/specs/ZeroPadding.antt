-- Coefficient lists with zeros at their end: they have the values of the list without them.
use Prim.Native.Nat.{ℕ, zero, suc, ◌≤◌, zero-le, suc-le-suc}
use Rattle.std.specs.Prelude.{◌≡◌, get_or, take}
use Rattle.std.proofs.Math.Path.{refl, sym, ap, ap₂}
use Rattle.std.proofs.Common.{◌∙◌}
use mathlib.Core.List.{List, [], ◌∷◌, ◌++◌}
use Rattle.definition.specs.Field.{Field}
use Rattle.definition.specs.Polynomial.{evaluate}
use Rattle.algebra.specs.Laws.{FieldLaws}
use Rattle.algebra.specs.Solver.{:0, ◌:+◌, ◌:*◌, ◌:=◌, solve₁}

module _ {A : Type 0} (F : Field A) where
  open F use {𝟘}

  -- nothing but zeros from number n on
  abbrev pub ZeroFrom : List A → ℕ → Type 0
  ZeroFrom f n = (m : ℕ) → n ≤ m → get_or f m 𝟘 ≡ 𝟘

module _ {A : Type 0} (F : Field A) (L : FieldLaws F) where
  infixl 65 ◌⊕◌
  infixl 70 ◌⊗◌
  open F use {𝟘, ◌⊕◌, ◌⊗◌}

  pub zeros_at : (f : List A) (x : A) → ZeroFrom F f 0 → evaluate F f x ≡ 𝟘
  unfolding evaluate
  zeros_at [] x h = refl
  zeros_at (a ∷ f) x h =
      ap₂ (λ (b e : A). b ⊕ x ⊗ e) (h zero zero-le) (zeros_at f x (λ m l. h (suc m) zero-le)) ∙ solve₁ F L (λ x. :0 :+ x :* :0 := :0) tt x

  -- they may be left out, or put behind
  pub zeros_taken : (f : List A) (n : ℕ) (x : A) → ZeroFrom F f n → evaluate F (take n f) x ≡ evaluate F f x
  unfolding evaluate
  zeros_taken f zero x h = sym (zeros_at f x h)
  zeros_taken [] (suc n) x h = refl
  zeros_taken (a ∷ f) (suc n) x h = ap (λ (e : A). a ⊕ x ⊗ e) (zeros_taken f n x (λ m l. h (suc m) (suc-le-suc l)))

  pub zeros_behind : (f g : List A) (x : A) → ZeroFrom F g 0 → evaluate F (f ++ g) x ≡ evaluate F f x
  unfolding evaluate
  zeros_behind [] g x h = zeros_at g x h
  zeros_behind (a ∷ f) g x h = ap (λ (e : A). a ⊕ x ⊗ e) (zeros_behind f g x h)
