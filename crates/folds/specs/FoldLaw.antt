-- The definition's fold by halves: at the k roots of a shift point the polynomial through the values has just those values, so that halving them gives it at r.
use Prim.Native.Nat.{ℕ, suc, ◌+◌, ◌*◌, ◌^◌, ◌<◌}
use Rattle.std.proofs.Math.Nat
use Rattle.std.proofs.Common.{le_of_eq, pow-suc, ◌∙◌, subst}
use native.Mathlib.Omega.{arith}
use Rattle.std.specs.Prelude.{◌≡◌}
use Rattle.std.proofs.Math.Path.{sym, ap}
use mathlib.Core.List.{List, map, map-map}
use Rattle.std.proofs.lemmas.List.{length-map}
use Rattle.definition.specs.Lists.{range}
use Rattle.definition.specs.Field.{Field, power}
use Rattle.definition.specs.Sheet.{Level, shift_count}
use Rattle.definition.specs.Polynomial.{Sample, points, evaluate, interpolate}
use Rattle.definition.specs.Domain.{point, root_numbers, fold_at}
use Rattle.algebra.specs.Laws.{FieldLaws}
use Rattle.list_laws.specs.All.{all_at, all_in_map}
use Rattle.algebra.specs.RingLaws.{power_add}
use Rattle.algebra.specs.RootsOfUnity.{minus_one, power_mul, powers_differ}
use Rattle.algebra.specs.Different.{Apart, Differ, apart_range}
use Rattle.algebra.specs.Lengths.{length_interpolate}
use Rattle.algebra.specs.Interpolation.{interpolate_through}
use Rattle.algebra.specs.Solver.{:0, :1, ◌:-◌, ◌:*◌, :-◌, ◌:=◌, given, solve₄}
use Rattle.list_laws.specs.Lists.{range_length}
use Rattle.folds.specs.Halving.{halving}
use Rattle.folds.specs.HalvingLaw.{halving_is}

module _ {A : Type 0} (F : Field A) (L : FieldLaws F) (ω half : A) (inverse_power : ℕ → A) (signs : minus_one F ≡ F.𝟙 → ⊥)
    (halves : F.◌⊗◌ (F.◌⊕◌ F.𝟙 F.𝟙) half ≡ F.𝟙) (inverses : (n : ℕ) → F.◌⊗◌ (power F ω n) (inverse_power n) ≡ F.𝟙) where
  infixl 65 ◌⊖◌
  infixl 70 ◌⊗◌
  open F use {𝟘, 𝟙, ◌⊖◌, ◌⊗◌}
  open L use {reduce}

  -- multiples by u of different elements are different, where u has an inverse
  multiples_differ : (u y s t : A) → u ⊗ y ≡ 𝟙 → Differ F s t → Differ F (u ⊗ s) (u ⊗ t)
  multiples_differ u y s t unit differ z =
      differ (solve₄ F L (λ u y s t. given (u :* y) :1 (:- (s :- t)) (given (u :* s :- u :* t) :0 y (s :- t := :0))) tt u y s t unit z)

  -- the powers e, e + d, e + 2d, .. of ω, of which the 2^a-th after each is its opposite, are 2^(a+1) different points
  module _ (a e d : ℕ) (turn : power F ω (2 ^ a * d) ≡ minus_one F) where
    split : (m : ℕ) → power F ω (e + m * d) ≡ power F ω e ⊗ power F (power F ω d) m
    split m = power_add F L ω e (m * d) ∙ ap (λ (v : A). power F ω e ⊗ v) (ap (power F ω) (Nat.mul_comm m d) ∙ sym (power_mul F L ω d m))

    full : power F (power F ω d) (2 ^ a) ≡ minus_one F
    full = power_mul F L ω d (2 ^ a) ∙ ap (power F ω) (Nat.mul_comm d (2 ^ a)) ∙ turn

    roots_apart : Apart F (map (λ m. power F ω (e + m * d)) (range 0 (2 ^ suc a)))
    roots_apart = apart_range F L (λ m. power F ω (e + m * d)) 0 (2 ^ suc a)
        (λ b c u k. subst (λ (v : A). Differ F v (power F ω (e + b * d))) (sym (split (b + c)))
        (subst (λ (v : A). Differ F (power F ω e ⊗ power F (power F ω d) (b + c)) v) (sym (split b))
        (multiples_differ (power F ω e) (inverse_power e) _ _ (inverses e) (powers_differ F L signs a (power F ω d) b c full k (below b c u)))))
      where
        below : (b c : ℕ) → b + c < 0 + 2 ^ suc a → c < 2 ^ a + 2 ^ a
        below b c u = omega (arith, pow-suc 2 a)

  module _ (b : Level) (f : ℕ → A) (r : A) (j a : ℕ) (folds : b.fold ≡ 2 ^ suc a) (turn : power F ω (2 ^ a * (2 ^ b.number * shift_count b)) ≡ minus_one F) where
    abbrev sample : ℕ → Sample A
    sample m = record { point = power F ω (1 + 2 ^ b.number * j + m * (2 ^ b.number * shift_count b)); value = f (j + m * shift_count b) }

    abbrev q : List A
    q = interpolate F (map sample (range 0 (2 ^ suc a)))

    -- the definition's samples
    definition : fold_at F ω b f r j ≡ evaluate F q r
    unfolding fold_at root_numbers point
    definition =
        ap (λ (s : List (Sample A)). evaluate F (interpolate F s) r)
        (map-map (λ m. record { point = point F ω b m; value = f m }) (λ m. j + m * shift_count b) (range 0 b.fold)
        ∙ (λ i. map (λ m. record { point = power F ω (exponent m i); value = f (j + m * shift_count b) }) (range 0 (folds i))))
      where
        exponent : (m : ℕ) → 1 + 2 ^ b.number * (j + m * shift_count b) ≡ 1 + 2 ^ b.number * j + m * (2 ^ b.number * shift_count b)
        exponent m = omega arith

    through : (m : ℕ) → m < 2 ^ suc a → reduce (f (j + m * shift_count b)) ≡ evaluate F q (power F ω (1 + 2 ^ b.number * j + m * (2 ^ b.number * shift_count b)))
    unfolding points
    through m l =
        let P : ℕ → Type 0 = λ m. evaluate F q (sample m).point ≡ reduce (sample m).value in
        sym (subst P (Nat.zero-add m) (all_at P 0 (2 ^ suc a)
        (all_in_map {B = Sample A} (λ p. evaluate F q p.point ≡ reduce p.value) sample (range 0 (2 ^ suc a))
        (interpolate_through F L (map sample (range 0 (2 ^ suc a)))
        (rw (map-map {B = Sample A} (λ p. p.point) sample (range 0 (2 ^ suc a))) (roots_apart a (1 + 2 ^ b.number * j) (2 ^ b.number * shift_count b) turn)))) m l))

    pub fold_by_halves : halving F half inverse_power (suc a) (1 + 2 ^ b.number * j) (2 ^ b.number * shift_count b) r (λ m. f (j + m * shift_count b)) ≡ fold_at F ω b f r j
    fold_by_halves =
        halving_is F L ω half inverse_power halves inverses a (1 + 2 ^ b.number * j) (2 ^ b.number * shift_count b) r (λ m. f (j + m * shift_count b)) q turn
        (le_of_eq (length_interpolate F (map sample (range 0 (2 ^ suc a))) ∙ length-map {B = Sample A} (range 0 (2 ^ suc a)) sample ∙ range_length 0 (2 ^ suc a))) through
        ∙ sym definition
