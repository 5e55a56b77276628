-- Division by X - a and by the vanishing polynomial of a list of points; a polynomial with as many roots as coefficients is 0 everywhere.
use Rattle.std.specs.Prelude.{◌≤◌, ◌≡◌, length, get_or}
use Rattle.std.proofs.Math.Path.{refl, sym, ap}
use Rattle.std.proofs.Common.{◌∙◌, le_of_suc-le-suc, not-suc-le-zero}
use mathlib.Core.List.{List, [], ◌∷◌}
use Rattle.definition.specs.Field.{Field}
use Rattle.definition.specs.Polynomial.{evaluate, vanishing, horner, divide, quotient}
use Rattle.list_laws.specs.All.{All, all_map, all_map₂}
use Rattle.algebra.specs.Laws.{FieldLaws}
use Rattle.algebra.specs.Solver.{◌:+◌, ◌:-◌, ◌:*◌, ◌:=◌, solve₅}
use Rattle.algebra.specs.RingLaws.{zero_add, zero_mul, sub_self, reduce_sub, cancel}
use Rattle.algebra.specs.Lengths.{length_horner}
use Rattle.algebra.specs.Evaluation.{evaluate_nil, evaluate_cons, reduce_evaluate, evaluate_mul}
use Rattle.algebra.specs.Different.{Differ, differ_sym, Apart}

module _ {A : Type 0} (F : Field A) (L : FieldLaws F) where
  infixl 65 ◌⊕◌ ◌⊖◌
  infixl 70 ◌⊗◌
  open F use {𝟘, 𝟙, ◌⊕◌, ◌⊖◌, ◌⊗◌}
  open L use {add_comm, mul_comm, mul_assoc, add_zero, mul_one, mul-zero, sub_def, reduce_one, reduce_add, reduce_mul, add_reduce, one≢zero}

  pub vanishing_nil : (x : A) → evaluate F (vanishing F []) x ≡ 𝟙
  unfolding vanishing
  vanishing_nil x = rw (evaluate_cons F 𝟙, evaluate_nil F, mul-zero, add_zero, reduce_one)

  -- x - a at the head of a vanishing polynomial
  pub evaluate_vanishing : (a : A) (xs : List A) (x : A) → evaluate F (vanishing F (a ∷ xs)) x ≡ (x ⊖ a) ⊗ evaluate F (vanishing F xs) x
  unfolding vanishing
  evaluate_vanishing a xs x =
      evaluate_mul F L ((𝟘 ⊖ a) ∷ 𝟙 ∷ []) (vanishing F xs) x
      ∙ rw (evaluate_cons F (𝟘 ⊖ a), evaluate_cons F 𝟙, evaluate_nil F, mul-zero x, add_zero 𝟙, reduce_one, mul_one, add_reduce, add_comm (𝟘 ⊖ a) x, ← sub_def)

  pub vanishing_nonzero : (xs : List A) (x : A) → All (λ b. Differ F x b) xs → evaluate F (vanishing F xs) x ≡ 𝟘 → ⊥
  unfolding vanishing
  vanishing_nonzero [] x h e = one≢zero (sym (rw (evaluate_cons F 𝟙, evaluate_nil F, mul-zero, add_zero, reduce_one)) ∙ e)
  vanishing_nonzero (a ∷ xs) x h e =
      vanishing_nonzero xs x h.1
      (sym (reduce_evaluate F L _ _) ∙ cancel F L (x ⊖ a) _ (λ k. h.0 (sym (reduce_sub F L x a) ∙ k)) (sym (evaluate_vanishing a xs x) ∙ e))

  pub vanishing_at_head : (a : A) (xs : List A) → evaluate F (vanishing F (a ∷ xs)) a ≡ 𝟘
  vanishing_at_head a xs = rw (evaluate_vanishing, sub_self F L, zero_mul F L)

  pub vanishing_roots : (xs : List A) → All (λ x. evaluate F (vanishing F xs) x ≡ 𝟘) xs
  vanishing_roots [] = tt
  vanishing_roots (a ∷ xs) =
      (vanishing_at_head a xs, all_map xs (vanishing_roots xs) (λ x e. evaluate_vanishing a xs x ∙ ap (λ (v : A). (x ⊖ a) ⊗ v) e ∙ mul-zero (x ⊖ a)))

  -- Horner's scheme: its head is the value, and it is the quotient
  pub horner_nil : (a : A) → horner F a [] ≡ []
  unfolding horner
  horner_nil a = refl

  pub horner_head : (a : A) (f : List A) → get_or (horner F a f) 0 𝟘 ≡ evaluate F f a
  unfolding horner evaluate
  horner_head a [] = refl
  horner_head a (c ∷ cs) = ap (λ (v : A). c ⊕ a ⊗ v) (horner_head a cs)

  pub horner_cons : (a c : A) (cs : List A) → horner F a (c ∷ cs) ≡ evaluate F (c ∷ cs) a ∷ horner F a cs
  unfolding horner evaluate
  horner_cons a c cs = ap (λ (v : A). (c ⊕ a ⊗ v) ∷ horner F a cs) (horner_head a cs)

  horner_step : (a c e q x : A) → c ⊕ x ⊗ ((x ⊖ a) ⊗ q ⊕ e) ≡ (x ⊖ a) ⊗ (e ⊕ x ⊗ q) ⊕ (c ⊕ a ⊗ e)
  horner_step = solve₅ F L (λ a c e q x. c :+ x :* ((x :- a) :* q :+ e) := (x :- a) :* (e :+ x :* q) :+ (c :+ a :* e)) tt

  pub horner_quotient : (a c : A) (cs : List A) (x : A) → evaluate F (c ∷ cs) x ≡ (x ⊖ a) ⊗ evaluate F (horner F a cs) x ⊕ evaluate F (c ∷ cs) a
  horner_quotient a c [] x = rw (evaluate_cons F c [] x, evaluate_cons F c [] a, horner_nil, evaluate_nil F, evaluate_nil F, mul-zero, mul-zero, mul-zero, zero_add F L, reduce_add)
  horner_quotient a c (d ∷ cs) x =
      rw (evaluate_cons F c (d ∷ cs) x, evaluate_cons F c (d ∷ cs) a, horner_quotient a d cs x, horner_cons, evaluate_cons F (evaluate F (d ∷ cs) a))
      (horner_step a c (evaluate F (d ∷ cs) a) (evaluate F (horner F a cs) x) x)

  pub factor : (a c : A) (cs : List A) (x : A) → evaluate F (c ∷ cs) a ≡ 𝟘 → evaluate F (c ∷ cs) x ≡ (x ⊖ a) ⊗ evaluate F (horner F a cs) x
  factor a c cs x ea = horner_quotient a c cs x ∙ rw (ea, add_zero, reduce_mul)

  -- a quotient vanishes where the polynomial does
  pub quotient_root : (a c : A) (cs : List A) (b : A) → evaluate F (c ∷ cs) a ≡ 𝟘 → Differ F a b → evaluate F (c ∷ cs) b ≡ 𝟘 → evaluate F (horner F a cs) b ≡ 𝟘
  quotient_root a c cs b ea d eb =
      sym (reduce_evaluate F L _ _)
      ∙ cancel F L (b ⊖ a) _ (λ k. differ_sym F L a b d (sym (reduce_sub F L b a) ∙ k))
      (sym (reduce_mul _ _) ∙ sym (add_zero _) ∙ ap (λ (v : A). (b ⊖ a) ⊗ evaluate F (horner F a cs) b ⊕ v) (sym ea) ∙ sym (horner_quotient a c cs b) ∙ eb)

  -- as many roots as coefficients: the polynomial is 0 everywhere
  pub vanishes : (xs f : List A) → length f ≤ length xs → Apart F xs → All (λ a. evaluate F f a ≡ 𝟘) xs → (x : A) → evaluate F f x ≡ 𝟘
  vanishes [] [] l h e x = evaluate_nil F x
  vanishes [] (c ∷ cs) l h e x = absurd (not-suc-le-zero l)
  vanishes (a ∷ xs) [] l h e x = evaluate_nil F x
  vanishes (a ∷ xs) (c ∷ cs) l h e x =
      factor a c cs x e.0
      ∙ ap (λ (v : A). (x ⊖ a) ⊗ v)
      (vanishes xs (horner F a cs) (rw (length_horner F) (le_of_suc-le-suc l)) h.1 (all_map₂ xs h.0 e.1 (λ b d z. quotient_root a c cs b e.0 d z)) x)
      ∙ mul-zero (x ⊖ a)

  -- the quotient by the vanishing polynomial
  pub divide_factor : (f : List A) (a x : A) → evaluate F f a ≡ 𝟘 → evaluate F f x ≡ (x ⊖ a) ⊗ evaluate F (divide F f a) x
  unfolding divide
  divide_factor [] a x e = rw (horner_nil, evaluate_nil F, mul-zero)
  divide_factor (c ∷ cs) a x e = factor a c cs x e

  pub divide_root : (f : List A) (a b : A) → evaluate F f a ≡ 𝟘 → Differ F a b → evaluate F f b ≡ 𝟘 → evaluate F (divide F f a) b ≡ 𝟘
  unfolding divide
  divide_root [] a b ea d eb = rw (horner_nil, evaluate_nil F)
  divide_root (c ∷ cs) a b ea d eb = quotient_root a c cs b ea d eb

  pub quotient_exact : (f xs : List A) → Apart F xs → All (λ a. evaluate F f a ≡ 𝟘) xs → (x : A) → evaluate F f x ≡ evaluate F (vanishing F xs) x ⊗ evaluate F (quotient F f xs) x
  unfolding quotient
  quotient_exact f [] h e x = sym (rw (vanishing_nil, mul_comm, mul_one) (reduce_evaluate F L f x))
  quotient_exact f (a ∷ xs) h e x =
      divide_factor f a x e.0
      ∙ ap (λ (v : A). (x ⊖ a) ⊗ v) (quotient_exact (divide F f a) xs h.1 (all_map₂ xs h.0 e.1 (λ b d z. divide_root f a b e.0 d z)) x)
      ∙ sym (mul_assoc _ _ _) ∙ ap (λ (v : A). v ⊗ evaluate F (quotient F (divide F f a) xs) x) (sym (evaluate_vanishing a xs x))
