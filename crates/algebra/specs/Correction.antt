-- The prover's corrected polynomial has the verifier's corrected value off the points of G.
use Rattle.std.specs.Prelude.{◌≡◌, List, length}
use Rattle.std.proofs.Math.Path.{sym, ap}
use Rattle.std.proofs.Common.{◌∙◌}
use Rattle.definition.specs.Field.{Field, reciprocal}
use Rattle.definition.specs.Polynomial.{Sample, points, evaluate, sub_poly, vanishing, interpolate, quotient, geometric, corrected_value, corrected_poly}
use Rattle.list_laws.specs.All.{All, all_map₂}
use Rattle.algebra.specs.Laws.{FieldLaws}
use Rattle.algebra.specs.RingLaws.{sub_self}
use Rattle.algebra.specs.Evaluation.{reduce_evaluate, evaluate_mul, evaluate_sub}
use Rattle.algebra.specs.Different.{Differ, Apart}
use Rattle.algebra.specs.Division.{vanishing_nonzero, quotient_exact}
use Rattle.algebra.specs.Interpolation.{all_of_points, interpolate_through}

module _ {A : Type 0} (F : Field A) (L : FieldLaws F) where
  infixl 65 ◌⊖◌
  infixl 70 ◌⊗◌
  open F use {𝟘, ◌⊖◌, ◌⊗◌}
  open L use {reduce, mul_comm, mul_assoc, mul_one, mul_inverse}

  pub corrected : (ps : List (Sample A)) (c : A) (f : List A) (x : A) → Apart F (points ps) →
      All (λ p. p.value ≡ evaluate F f p.point) ps → All (λ b. Differ F x b) (points ps) →
      corrected_value F ps c x (evaluate F f x) ≡ evaluate F (corrected_poly F ps c f) x
  unfolding corrected_value corrected_poly
  corrected ps c f x apart values off =
      ap (λ (v : A). v ⊗ evaluate F (geometric F c (length ps)) x) divided ∙ sym (evaluate_mul F L _ _ x)
    where
      meets : (p : Sample A) → p.value ≡ evaluate F f p.point → evaluate F (interpolate F ps) p.point ≡ reduce p.value →
          evaluate F (sub_poly F f (interpolate F ps)) p.point ≡ 𝟘
      meets p e i = evaluate_sub F L f (interpolate F ps) p.point ∙ rw (i, e, reduce_evaluate F L, sub_self F L)

      roots : All (λ a. evaluate F (sub_poly F f (interpolate F ps)) a ≡ 𝟘) (points ps)
      roots = all_of_points (λ a. evaluate F (sub_poly F f (interpolate F ps)) a ≡ 𝟘) ps (all_map₂ ps values (interpolate_through F L ps apart) meets)

      exact : (q v : A) → (reduce v ≡ 𝟘 → ⊥) → (v ⊗ q) ⊗ reciprocal F v ≡ reduce q
      exact q v k = rw (mul_comm v q, mul_assoc, mul_inverse v k, mul_one)

      divided : (evaluate F f x ⊖ evaluate F (interpolate F ps) x) ⊗ reciprocal F (evaluate F (vanishing F (points ps)) x)
          ≡ evaluate F (quotient F (sub_poly F f (interpolate F ps)) (points ps)) x
      divided =
          ap (λ (v : A). v ⊗ reciprocal F (evaluate F (vanishing F (points ps)) x))
          (sym (evaluate_sub F L f (interpolate F ps) x) ∙ quotient_exact F L (sub_poly F f (interpolate F ps)) (points ps) apart roots x)
          ∙ exact _ _ (λ k. vanishing_nonzero F L (points ps) x off (sym (reduce_evaluate F L _ _) ∙ k)) ∙ reduce_evaluate F L _ x
