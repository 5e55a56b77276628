-- Interpolation passes through its samples, and polynomials with at most n coefficients that agree at n points agree everywhere.
use Rattle.std.specs.Prelude.{◌≤◌, ◌≡◌, length}
use Rattle.std.proofs.Common.{sym, ◌∙◌}
use mathlib.Core.List.{List, [], ◌∷◌}
use Rattle.definition.specs.Field.{Field, reciprocal}
use Rattle.definition.specs.Polynomial.{Sample, points, evaluate, sub_poly, vanishing, interpolate}
use Rattle.list_laws.specs.All.{All, all_map, all_map₂, all_of_map, all_in_map}
use Rattle.algebra.specs.Laws.{FieldLaws}
use Rattle.algebra.specs.RingLaws.{sub_self, sub_add, sub_zero}
use Rattle.algebra.specs.Lengths.{length_sub_le}
use Rattle.algebra.specs.Evaluation.{reduce_evaluate, evaluate_scale, evaluate_add, evaluate_sub}
use Rattle.algebra.specs.Different.{Apart}
use Rattle.algebra.specs.Division.{vanishing_nonzero, vanishing_roots, vanishes}

-- a property of the point of each sample is one of each point
pub all_of_points : {A : Type 0} (P : A → Type 0) (ps : List (Sample A)) → All (λ p. P p.point) ps → All P (points ps)
unfolding points
all_of_points P ps h = all_of_map P (λ p. p.point) ps h

module _ {A : Type 0} (F : Field A) (L : FieldLaws F) where
  infixl 65 ◌⊕◌ ◌⊖◌
  infixl 70 ◌⊗◌
  open F use {𝟘, ◌⊕◌, ◌⊖◌, ◌⊗◌}
  open L use {reduce, add_comm, mul_comm, mul_assoc, add_zero, mul_one, mul-zero, add_reduce, mul_inverse}

  -- Newton's step at a point: the new sample is met, and where the other points vanish nothing changes
  pub interpolate_cons : (p : Sample A) (ps : List (Sample A)) (x : A) →
      evaluate F (interpolate F (p ∷ ps)) x
      ≡ evaluate F (interpolate F ps) x ⊕ ((p.value ⊖ evaluate F (interpolate F ps) p.point) ⊗ reciprocal F (evaluate F (vanishing F (points ps)) p.point)) ⊗ evaluate F (vanishing F (points ps)) x
  unfolding interpolate
  interpolate_cons p ps x = evaluate_add F L (interpolate F ps) _ x ∙ rw (evaluate_scale F L)

  pub interpolate_head : (p : Sample A) (ps : List (Sample A)) → (evaluate F (vanishing F (points ps)) p.point ≡ 𝟘 → ⊥) →
      evaluate F (interpolate F (p ∷ ps)) p.point ≡ reduce p.value
  interpolate_head p ps h =
      interpolate_cons p ps p.point
      ∙ newton_step (evaluate F (interpolate F ps) p.point) p.value (evaluate F (vanishing F (points ps)) p.point) (λ e. h (sym (reduce_evaluate F L _ _) ∙ e))
    where
      newton_step : (q y v : A) → (reduce v ≡ 𝟘 → ⊥) → q ⊕ ((y ⊖ q) ⊗ reciprocal F v) ⊗ v ≡ reduce y
      newton_step q y v k = rw (mul_assoc, mul_comm (reciprocal F v) v, mul_inverse v k, mul_one, add_reduce, add_comm, sub_add F L)

  pub interpolate_tail : (p : Sample A) (ps : List (Sample A)) (x : A) → evaluate F (vanishing F (points ps)) x ≡ 𝟘 →
      evaluate F (interpolate F (p ∷ ps)) x ≡ evaluate F (interpolate F ps) x
  interpolate_tail p ps x e = interpolate_cons p ps x ∙ rw (e, mul-zero, add_zero, reduce_evaluate F L)

  -- A passes through its samples, where their points are different
  pub interpolate_through : (ps : List (Sample A)) → Apart F (points ps) → All (λ p. evaluate F (interpolate F ps) p.point ≡ reduce p.value) ps
  unfolding points
  interpolate_through [] h = tt
  interpolate_through (p ∷ ps) h = (
    interpolate_head p ps (vanishing_nonzero F L (points ps) p.point h.0),
    all_map₂ ps (interpolate_through ps h.1) (all_in_map (λ x. evaluate F (vanishing F (points ps)) x ≡ 𝟘) (λ q. q.point) ps (vanishing_roots F L (points ps))) (λ q e z. interpolate_tail p ps q.point z ∙ e),
  )

  -- two polynomials with at most n coefficients that agree at n points agree everywhere
  pub agree : (xs f g : List A) → length f ≤ length xs → length g ≤ length xs → Apart F xs → All (λ a. evaluate F f a ≡ evaluate F g a) xs →
      (x : A) → evaluate F f x ≡ evaluate F g x
  agree xs f g hf hg h e x =
      sym (reduce_evaluate F L f x)
      ∙ sub_zero F L _ _ (sym (evaluate_sub F L f g x) ∙ vanishes F L xs (sub_poly F f g) (length_sub_le F f g (length xs) hf hg) h
      (all_map xs e (λ a z. evaluate_sub F L f g a ∙ rw (z, sub_self F L))) x)
      ∙ reduce_evaluate F L g x
