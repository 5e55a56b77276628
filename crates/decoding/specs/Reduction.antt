-- Euclid's algorithm on two pairs (s, w) and (t, v), of which only values are followed: a multiple of one pair is added to the other. Lengths stand for degrees:
-- s has a coefficients and t has b, w has n + 2 - b and v has n + 2 - a, whatever they are, and no exact degree is needed.
use Prim.Native.Nat.{ℕ, zero, suc, ◌+◌, ◌-◌, ◌≤◌, ◌<◌}
use Rattle.std.proofs.Common.{arith, ◌∙◌, subst, length-take-le, get_or-take}
use Rattle.std.specs.Prelude.{◌≡◌, length, take, drop, get_or}
use Rattle.std.proofs.Math.Path.{refl, sym, ap, ap₂}
use mathlib.Core.List.{List, [], ◌∷◌}
use Rattle.definition.specs.Field.{Field, power, reciprocal}
use Rattle.definition.specs.Polynomial.{evaluate}
use Rattle.list_laws.specs.All.{All}
use Rattle.algebra.specs.Laws.{FieldLaws}
use Rattle.algebra.specs.Solver.{◌:+◌, ◌:*◌, ◌:=◌, solve₅}
use Rattle.algebra.specs.RingLaws.{add_cancel}
use Rattle.algebra.specs.Coefficients.{Elements}
use Rattle.decoding.specs.Adding.{added, drop_added, take_added, get_added, evaluate_added, elements_added}

module _ {A : Type 0} (F : Field A) where
  infixl 70 ◌⊗◌
  open F use {𝟘, ◌⊗◌}

  -- s(x) = w(x)·y
  abbrev pub Meets : List A → List A → A → A → Type 0
  Meets s w x y = evaluate F s x ≡ evaluate F w x ⊗ y

  abbrev pub Noughts : List A → Type 0
  Noughts l = All (λ c. c ≡ 𝟘) l

module _ {A : Type 0} (F : Field A) (L : FieldLaws F) where
  infixl 65 ◌⊕◌ ◌⊖◌
  infixl 70 ◌⊗◌
  open F use {𝟘, 𝟙, ◌⊕◌, ◌⊖◌, ◌⊗◌}
  open L use {reduce, add_comm, mul_comm, mul_assoc, mul_one, mul-zero, add_zero, neg_add, mul_inverse, reduce_zero, reduce_mul, add_reduce}

  -- Between two steps, s in its first a coefficients and t in its first b. `apart`: the two pairs are independent, as their values at 0 show.
  pub record Stage (n : ℕ) (s w : List A) (a : ℕ) (t v : List A) (b : ℕ) : Type 0 where
    pub above_w : Noughts F (drop (n + 2 - b) w)
    pub above_v : Noughts F (drop (n + 2 - a) v)
    pub elements_s : Elements F L s
    pub elements_t : Elements F L t
    pub apart : evaluate F (take a s) 𝟘 ⊗ evaluate F v 𝟘 ≡ evaluate F (take b t) 𝟘 ⊗ evaluate F w 𝟘 → ⊥

  pub turned : {n : ℕ} {s w : List A} {a : ℕ} {t v : List A} {b : ℕ} → Stage n s w a t v b → Stage n t v b s w a
  turned h = record { above_w = h.above_v; above_v = h.above_w; elements_s = h.elements_t; elements_t = h.elements_s; apart = λ e. h.apart (sym e) }

  noughts_value : (l : List A) (x : A) → Noughts F l → evaluate F l x ≡ 𝟘
  unfolding evaluate
  noughts_value [] x h = refl
  noughts_value (c ∷ l) x h = ap₂ (λ (u v : A). u ⊕ x ⊗ v) h.0 (noughts_value l x h.1) ∙ ap (λ (v : A). 𝟘 ⊕ v) (mul-zero x) ∙ add_zero 𝟘 ∙ reduce_zero

  -- noughts above the first q coefficients
  pub below_value : (q : ℕ) (l : List A) (x : A) → Noughts F (drop q l) → evaluate F (take q l) x ≡ evaluate F l x
  unfolding evaluate
  below_value zero l x h = sym (noughts_value l x h)
  below_value (suc q) [] x h = refl
  below_value (suc q) (c ∷ l) x h = ap (λ (v : A). c ⊕ x ⊗ v) (below_value q l x h)

  noughts_next : (q : ℕ) (l : List A) → Noughts F (drop q l) → Noughts F (drop (suc q) l)
  noughts_next zero [] h = tt
  noughts_next zero (c ∷ l) h = h.1
  noughts_next (suc q) [] h = tt
  noughts_next (suc q) (c ∷ l) h = noughts_next q l h

  -- a nought at the top
  top_value : (a : ℕ) (s : List A) (x : A) → get_or s a 𝟘 ≡ 𝟘 → evaluate F (take (suc a) s) x ≡ evaluate F (take a s) x
  unfolding evaluate
  top_value zero [] x e = refl
  top_value zero (c ∷ s) x e = ap (λ (v : A). v ⊕ x ⊗ 𝟘) e ∙ ap (λ (v : A). 𝟘 ⊕ v) (mul-zero x) ∙ add_zero 𝟘 ∙ reduce_zero
  top_value (suc a) [] x e = refl
  top_value (suc a) (c ∷ s) x e = ap (λ (v : A). c ⊕ x ⊗ v) (top_value a s x e)

  pub top_off : (a : ℕ) (s : List A) (x : A) → 0 < a → get_or s (a - 1) 𝟘 ≡ 𝟘 → evaluate F (take a s) x ≡ evaluate F (take (a - 1) s) x
  top_off a s x h e =
      let z : suc (a - 1) ≡ a = omega arith in
      ap (λ (m : ℕ). evaluate F (take m s) x) (sym z) ∙ top_value (a - 1) s x e

  above_next : (n a : ℕ) (v : List A) → 0 < a → a ≤ n + 2 → Noughts F (drop (n + 2 - a) v) → Noughts F (drop (n + 2 - (a - 1)) v)
  above_next n a v h g e =
      let z : suc (n + 2 - a) ≡ n + 2 - (a - 1) = omega arith in
      subst (λ (m : ℕ). Noughts F (drop m v)) z (noughts_next (n + 2 - a) v e)

  -- ---- the step where s has a nought at the top

  pub stripped : {n : ℕ} {s w : List A} {a : ℕ} {t v : List A} {b : ℕ} → Stage n s w a t v b → 0 < a → a ≤ n + 2 → get_or s (a - 1) 𝟘 ≡ 𝟘 → Stage n s w (a - 1) t v b
  stripped {n} {s} {w} {a} {t} {v} h p g e = record {
    above_w = h.above_w;
    above_v = above_next n a v p g h.above_v;
    elements_s = h.elements_s;
    elements_t = h.elements_t;
    apart = λ z. h.apart (ap (λ (u : A). u ⊗ evaluate F v 𝟘) (top_off a s 𝟘 p e) ∙ z);
  }

  -- ---- the step where a multiple of (t, v) takes the top of s away

  -- the factor: minus the top of s over that of t
  unfoldable pub factor : A → A → A
  factor p q = (𝟘 ⊖ p) ⊗ reciprocal F q

  pub factor_cancels : (p q : A) → reduce p ≡ p → (reduce q ≡ 𝟘 → ⊥) → p ⊕ factor p q ⊗ q ≡ 𝟘
  unfolding factor
  factor_cancels p q e h =
      ap (λ (u : A). p ⊕ u) (mul_assoc (𝟘 ⊖ p) (reciprocal F q) q ∙ ap (λ (u : A). (𝟘 ⊖ p) ⊗ u) (mul_comm (reciprocal F q) q ∙ mul_inverse q h) ∙ mul_one (𝟘 ⊖ p))
      ∙ add_reduce p (𝟘 ⊖ p) ∙ add_comm p (𝟘 ⊖ p) ∙ neg_add p

  module _ (n : ℕ) (s w : List A) (a : ℕ) (t v : List A) (b : ℕ) (c : A) where
    pub record Room : Type 0 where
      pub positive : 0 < b
      pub below : b ≤ a
      pub most : a ≤ n + 1
      pub room_s : a ≤ length s
      pub room_t : b ≤ length t
      pub room_w : n + 2 - b ≤ length w
      pub room_v : n + 2 - a ≤ length v

    abbrev pub next_s : List A
    next_s = added F (a - b) c (take b t) s

    abbrev pub next_w : List A
    next_w = added F (a - b) c (take (n + 2 - a) v) w

    module _ (r : Room) (h : Stage n s w a t v b) (top : get_or s (a - 1) 𝟘 ⊕ c ⊗ get_or t (b - 1) 𝟘 ≡ 𝟘) where
      long_t : length (take b t) ≡ b
      long_t = length-take-le b t r.room_t

      long_v : length (take (n + 2 - a) v) ≡ n + 2 - a
      long_v = length-take-le (n + 2 - a) v r.room_v

      fits_w : a - b + length (take (n + 2 - a) v) ≤ n + 2 - b
      fits_w = omega (arith, long_v, r.below, r.most)

      top_nought : get_or next_s (a - 1) 𝟘 ≡ 𝟘
      top_nought =
          get_added F (a - b) (b - 1) (a - 1) c (take b t) s (omega (arith, r.below, r.positive)) (omega (arith, long_t, r.positive)) (omega (arith, r.below, r.positive, r.room_s))
          ∙ ap (λ (u : A). get_or s (a - 1) 𝟘 ⊕ c ⊗ u) (get_or-take b t (b - 1) 𝟘 (omega (arith, r.positive))) ∙ top

      pub value_s : (x : A) → evaluate F (take (a - 1) next_s) x ≡ evaluate F (take a s) x ⊕ power F x (a - b) ⊗ (c ⊗ evaluate F (take b t) x)
      value_s x =
          sym (top_off a next_s x (omega (arith, r.below, r.positive)) top_nought)
          ∙ ap (λ (l : List A). evaluate F l x) (take_added F a (a - b) c (take b t) s (omega (arith, long_t, r.below)))
          ∙ evaluate_added F L (a - b) c (take b t) (take a s) x (omega (arith, long_t, length-take-le a s r.room_s, r.below))

      pub value_w : (x : A) → evaluate F next_w x ≡ evaluate F w x ⊕ power F x (a - b) ⊗ (c ⊗ evaluate F v x)
      value_w x =
          evaluate_added F L (a - b) c (take (n + 2 - a) v) w x (omega (arith, fits_w, r.room_w))
          ∙ ap (λ (u : A). evaluate F w x ⊕ power F x (a - b) ⊗ (c ⊗ u)) (below_value (n + 2 - a) v x h.above_v)

      -- what holds of both pairs at a point holds of the new pair
      pub reduced_meets : (x y : A) → Meets F (take a s) w x y → Meets F (take b t) v x y → Meets F (take (a - 1) next_s) next_w x y
      reduced_meets x y p q =
          value_s x ∙ ap₂ (λ (d e : A). d ⊕ power F x (a - b) ⊗ (c ⊗ e)) p q
          ∙ solve₅ F L (λ w y p c v. w :* y :+ p :* (c :* (v :* y)) := (w :+ p :* (c :* v)) :* y) tt (evaluate F w x) y (power F x (a - b)) c (evaluate F v x)
          ∙ ap (λ (u : A). u ⊗ y) (sym (value_w x))

      -- the two pairs stay independent: s·v - t·w is as it was
      still_apart : evaluate F (take (a - 1) next_s) 𝟘 ⊗ evaluate F v 𝟘 ≡ evaluate F (take b t) 𝟘 ⊗ evaluate F next_w 𝟘 → ⊥
      still_apart e = h.apart
          (sym (reduce_mul _ _)
          ∙ add_cancel F L _ _ (power F 𝟘 (a - b) ⊗ c ⊗ evaluate F (take b t) 𝟘 ⊗ evaluate F v 𝟘)
          (solve₅ F L (λ s v p c t. s :* v :+ p :* c :* t :* v := (s :+ p :* (c :* t)) :* v) tt (evaluate F (take a s) 𝟘) (evaluate F v 𝟘) (power F 𝟘 (a - b)) c (evaluate F (take b t) 𝟘)
          ∙ ap (λ (u : A). u ⊗ evaluate F v 𝟘) (sym (value_s 𝟘)) ∙ e ∙ ap (λ (u : A). evaluate F (take b t) 𝟘 ⊗ u) (value_w 𝟘)
          ∙ solve₅ F L (λ t w p c v. t :* (w :+ p :* (c :* v)) := t :* w :+ p :* c :* t :* v) tt (evaluate F (take b t) 𝟘) (evaluate F w 𝟘) (power F 𝟘 (a - b)) c (evaluate F v 𝟘))
          ∙ reduce_mul _ _)

      pub reduced_stage : Stage n next_s next_w (a - 1) t v b
      reduced_stage = record {
        above_w = subst (Noughts F) (sym (drop_added F (n + 2 - b) (a - b) c (take (n + 2 - a) v) w fits_w)) h.above_w;
        above_v = above_next n a v (omega (arith, r.below, r.positive)) (omega (arith, r.most)) h.above_v;
        elements_s = elements_added F L (a - b) c (take b t) s h.elements_s;
        elements_t = h.elements_t;
        apart = still_apart;
      }
