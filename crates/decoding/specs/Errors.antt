-- Where polynomials agree with a table, and what follows by the number of roots: at most one polynomial is near, and the key equation.
use Rattle.std.specs.Prelude.{ℕ, suc, ◌+◌, ◌≤◌, ◌<◌, ◌≡◌, refl, Bool, true, false, ◌||◌, length, get_or}
use Rattle.std.proofs.Common.{arith, sym, ◌∙◌}
use Rattle.std.proofs.Math.Path.{ap}
use Rattle.std.proofs.Math.Bool.{not}
use mathlib.Core.List.{List, [], ◌∷◌, map, zip_with}
use Rattle.definition.specs.Field.{Field}
use Rattle.definition.specs.Polynomial.{evaluate, mul_poly}
use Rattle.nearest_definition.specs.Nearest.{all_true, differing_points}
use Rattle.list_laws.specs.All.{All}
use Rattle.list_laws.specs.Booleans.{or_false}
use Rattle.algebra.specs.Laws.{FieldLaws}
use Rattle.algebra.specs.Different.{Differ, Apart}
use Rattle.algebra.specs.Lengths.{length_mul_pos}
use Rattle.algebra.specs.Evaluation.{evaluate_mul}
use Rattle.algebra.specs.Coefficients.{Elements, same_coefficients, elements_mul}
use Rattle.decoding.specs.AllTrue.{all_kept, count_either, kept, kept_count, zip_length, zip_map_left}

-- a relation of the elements of two lists, place by place
abbrev pub Each : {B C : Type 0} → (B → C → Type 0) → List B → List C → Type 0
Each P [] ys = Unit {0}
Each P (x ∷ xs) [] = Unit {0}
Each P (x ∷ xs) (y ∷ ys) = P x y × Each P xs ys

pub each_map : {B C : Type 0} {P Q : B → C → Type 0} (xs : List B) (ys : List C) → Each P xs ys → ((x : B) (y : C) → P x y → Q x y) → Each Q xs ys
each_map [] ys h e = tt
each_map (x ∷ xs) [] h e = tt
each_map (x ∷ xs) (y ∷ ys) h e = (e x y h.0, each_map xs ys h.1 e)

pub each_map₂ : {B C : Type 0} {P Q R : B → C → Type 0} (xs : List B) (ys : List C) → Each P xs ys → Each Q xs ys → ((x : B) (y : C) → P x y → Q x y → R x y) → Each R xs ys
each_map₂ [] ys h k e = tt
each_map₂ (x ∷ xs) [] h k e = tt
each_map₂ (x ∷ xs) (y ∷ ys) h k e = (e x y h.0 k.0, each_map₂ xs ys h.1 k.1 e)

pub each_of : {B C : Type 0} (P : B → C → Type 0) (xs : List B) (ys : List C) (d : B) (e : C) → ((j : ℕ) → j < length xs → P (get_or xs j d) (get_or ys j e)) → Each P xs ys
each_of P [] ys d e h = tt
each_of P (x ∷ xs) [] d e h = tt
each_of P (x ∷ xs) (y ∷ ys) d e h = (h 0 (omega arith), each_of P xs ys d e (λ j l. h (suc j) (omega arith)))

-- where the test is false
pub each_kept : {B C : Type 0} (P : B → Type 0) (t : B → C → Bool) (xs : List B) (ys : List C) → Each (λ x y. t x y ≡ false → P x) xs ys → All P (kept (zip_with t xs ys) xs)
unfolding zip_with
each_kept P t [] ys h = tt
each_kept P t (x ∷ xs) [] h = tt
each_kept P t (x ∷ xs) (y ∷ ys) h = go (t x y) h.0 (each_kept P t xs ys h.1)
  where
    go : (b : Bool) → (b ≡ false → P x) → All P (kept (zip_with t xs ys) xs) → All P (kept (b ∷ zip_with t xs ys) (x ∷ xs))
    go true k r = r
    go false k r = (k refl, r)

module _ {A : Type 0} (F : Field A) where
  open F use {equal}

  -- the numbers of the points where the polynomial f differs from a table ys over points xs
  abbrev pub wrong_at : List A → List A → List A → List ℕ
  wrong_at xs ys f = differing_points F (map (evaluate F f) xs) ys

  -- point by point
  pub wrong_tests : (xs ys f : List A) → wrong_at xs ys f ≡ all_true 0 (zip_with (λ x y. not (equal (evaluate F f x) y)) xs ys)
  unfolding differing_points
  wrong_tests xs ys f = ap (all_true 0) (zip_map_left (λ u y. not (equal u y)) (evaluate F f) xs ys)

module _ {A : Type 0} (F : Field A) (L : FieldLaws F) where
  infixl 70 ◌⊗◌
  open F use {◌⊗◌, equal}
  open L use {mul_comm, equal_true}

  apart_kept : (bs : List Bool) (xs : List A) → Apart F xs → Apart F (kept bs xs)
  apart_kept [] xs h = tt
  apart_kept (b ∷ bs) [] h = tt
  apart_kept (true ∷ bs) (x ∷ xs) h = apart_kept bs xs h.1
  apart_kept (false ∷ bs) (x ∷ xs) h = (all_kept (λ y. Differ F x y) bs xs h.0, apart_kept bs xs h.1)

  same : (a b : A) → not (equal a b) ≡ false → a ≡ b
  same a b e = equal_true a b (turn (equal a b) e)
    where
      turn : (c : Bool) → not c ≡ false → c ≡ true
      turn true e = refl
      turn false e = sym e

  module _ (xs ys : List A) (apart : Apart F xs) (long : length xs ≡ length ys) where
    -- THE KEY EQUATION. Where s(x) = w(x)·y at every entry y of the table, s has d + t coefficients and w has t + 1, a polynomial f of degree below d that
    -- differs from the table in at most e points, d + t + e ≤ n, has s = f·w: both agree wherever f agrees with the table, which is at d + t points.
    pub key : (f s w : List A) (t e : ℕ) → Each (λ x y. evaluate F s x ≡ evaluate F w x ⊗ y) xs ys → Elements F L s → 0 < length f → length w ≡ suc t →
        length s ≡ length f + t → length (wrong_at F xs ys f) ≤ e → length f + t + e ≤ length xs → s ≡ mul_poly F f w
    key f s w t e meets elements hf hw hs he hn =
        let bs = zip_with (λ x y. not (equal (evaluate F f x) y)) xs ys in
        let count : length (kept bs xs) + length (all_true 0 bs) ≡ length xs = kept_count 0 bs xs (zip_length _ xs ys long) in
        same_coefficients F L (kept bs xs) s (mul_poly F f w) (omega (arith, length_mul_pos F f w hf (omega arith))) (omega (arith, ap length (wrong_tests F xs ys f))) (apart_kept bs xs apart) elements (elements_mul F L f w)
        (each_kept (λ x. evaluate F s x ≡ evaluate F (mul_poly F f w) x) (λ x y. not (equal (evaluate F f x) y)) xs ys
        (each_map xs ys meets (λ x y m q. m ∙ ap (λ (v : A). evaluate F w x ⊗ v) (sym (same (evaluate F f x) y q)) ∙ mul_comm _ _ ∙ sym (evaluate_mul F L f w x))))

    any : {B C : Type 0} {P : B → C → Type 0} (us : List B) (vs : List C) → ((x : B) (y : C) → P x y) → Each P us vs
    any [] vs h = tt
    any (x ∷ us) [] h = tt
    any (x ∷ us) (y ∷ vs) h = (h x y, any us vs h)

    -- AT MOST ONE polynomial of degree below d differs from the table in at most e points, d + 2e ≤ n.
    pub near_unique : (f g : List A) (e : ℕ) → length f ≡ length g → Elements F L f → Elements F L g → length (wrong_at F xs ys f) ≤ e →
        length (wrong_at F xs ys g) ≤ e → length f + e + e ≤ length xs → f ≡ g
    near_unique f g e l ef eg hf hg hn =
        let s : A → A → Bool = λ x y. not (equal (evaluate F f x) y) in
        let t : A → A → Bool = λ x y. not (equal (evaluate F g x) y) in
        let bs = zip_with (λ x y. s x y || t x y) xs ys in
        let count : length (kept bs xs) + length (all_true 0 bs) ≡ length xs = kept_count 0 bs xs (zip_length _ xs ys long) in
        same_coefficients F L (kept bs xs) f g l (omega (arith, count_either 0 s t xs ys, ap length (wrong_tests F xs ys f), ap length (wrong_tests F xs ys g))) (apart_kept bs xs apart) ef eg
        (each_kept (λ x. evaluate F f x ≡ evaluate F g x) (λ x y. s x y || t x y) xs ys
        (any xs ys (λ x y q. same (evaluate F f x) y (or_false (s x y) (t x y) q).0 ∙ sym (same (evaluate F g x) y (or_false (s x y) (t x y) q).1))))
