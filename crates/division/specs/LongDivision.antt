-- Division by many points at once. Let w be the coefficients of the product of 1 - aX over the points: the sum of w times the quotient's coefficients from
-- number j on is the dividend's coefficient of as much higher number as there are points. So each coefficient of the quotient is one sum of products.
use Prim.Native.Nat.{ℕ, zero, suc, ◌+◌, ◌<◌, zero-le, suc-le-suc}
use Rattle.std.proofs.Math.Nat
use Rattle.std.proofs.Common.{suc-add, add-suc, arith, ◌∙◌, get_or-drop}
use Rattle.std.specs.Prelude.{◌≡◌, drop}
use Rattle.std.proofs.Math.Path.{refl, sym, ap, ap₂}
use mathlib.Core.List.{List, [], ◌∷◌, tail}
use Rattle.std.proofs.Math.ListN.{length, get_or}
use Rattle.definition.specs.Field.{Field}
use Rattle.definition.specs.Polynomial.{horner, divide, quotient}
use Rattle.list_laws.specs.Lists.{tail_drop}
use Rattle.algebra.specs.Laws.{FieldLaws}
use Rattle.algebra.specs.RingLaws.{zero_add, zero_mul}
use Rattle.algebra.specs.Solver.{:0, :1, ◌:+◌, ◌:-◌, ◌:*◌, :-◌, ◌:=◌, solve₁, solve₂, solve₃, solve₆}
use Rattle.sums.specs.Sums.{products}
use Rattle.sums.specs.ZeroPadding.{ZeroFrom}

tail_get_d : {A : Type 0} (d : A) (i : ℕ) (l : List A) → get_or (tail l) i d ≡ get_or l (suc i) d
tail_get_d d i [] = refl
tail_get_d d i (x ∷ l) = refl

module _ {A : Type 0} (F : Field A) (L : FieldLaws F) where
  infixl 65 ◌⊕◌ ◌⊖◌
  infixl 70 ◌⊗◌
  open F use {𝟘, 𝟙, ◌⊕◌, ◌⊖◌, ◌⊗◌}
  open L use {reduce, mul-zero, add_zero, reduce_zero, reduce_add, reduce_mul}

  -- what the sums of w with the quotient by the points are
  abbrev pub QuotientSums : List A → List A → Type 0
  QuotientSums xs w = (f : List A) (j : ℕ) → products F w (drop j (quotient F f xs)) ≡ reduce (get_or f (length xs + j) 𝟘)

  products_reduced : (f l : List A) → reduce (products F f l) ≡ products F f l
  unfolding products
  products_reduced [] l = reduce_zero
  products_reduced (a ∷ f) [] = reduce_zero
  products_reduced (a ∷ f) (x ∷ l) = reduce_add (a ⊗ x) (products F f l)

  products_shift : (g l : List A) → products F (𝟘 ∷ g) l ≡ products F g (tail l)
  unfolding products
  products_shift [] [] = refl
  products_shift (b ∷ g) [] = refl
  products_shift g (x ∷ l) = ap (λ (v : A). v ⊕ products F g l) (zero_mul F L x) ∙ zero_add F L _ ∙ products_reduced g l

  products_zeros : (w l : List A) → ZeroFrom F w 0 → products F w l ≡ 𝟘
  unfolding products
  products_zeros [] l h = refl
  products_zeros (a ∷ w) [] h = refl
  products_zeros (a ∷ w) (x ∷ l) h =
      ap₂ (λ (b s : A). b ⊗ x ⊕ s) (h zero zero-le) (products_zeros w l (λ m u. h (suc m) zero-le)) ∙ solve₁ F L (λ x. :0 :* x :+ :0 := :0) tt x

  -- zeros behind the coefficients may be left out
  pub products_front : (v w l : List A) → ((m : ℕ) → get_or w m 𝟘 ≡ get_or v m 𝟘) → products F w l ≡ products F v l
  unfolding products
  products_front [] w l h = products_zeros w l (λ m u. h m)
  products_front (a ∷ v) [] l h = sym (products_zeros (a ∷ v) l (λ m u. sym (h m)))
  products_front (a ∷ v) (b ∷ w) [] h = refl
  products_front (a ∷ v) (b ∷ w) (x ∷ l) h = ap₂ (λ (c s : A). c ⊗ x ⊕ s) (h 0) (products_front v w l (λ m. h (suc m)))

  products_one : (w l : List A) → get_or w 0 𝟘 ≡ 𝟙 → ZeroFrom F w 1 → products F w l ≡ reduce (get_or l 0 𝟘)
  unfolding products
  products_one w l e h = products_front (𝟙 ∷ []) w l (one_only w e h) ∙ alone l
    where
      one_only : (w : List A) → get_or w 0 𝟘 ≡ 𝟙 → ZeroFrom F w 1 → (m : ℕ) → get_or w m 𝟘 ≡ get_or (𝟙 ∷ []) m 𝟘
      one_only w e h zero = e
      one_only w e h (suc m) = h (suc m) (suc-le-suc zero-le)

      alone : (l : List A) → products F (𝟙 ∷ []) l ≡ reduce (get_or l 0 𝟘)
      alone [] = sym reduce_zero
      alone (x ∷ l) = solve₂ F L (λ x z. :1 :* x :+ :0 := x) tt x x

  -- one factor 1 + dX more; the last coefficient of w is 0
  products_raised : (w r l : List A) (d below : A) → length r ≡ length w → ZeroFrom F (below ∷ w) (length w) →
      ((m : ℕ) → m < length w → get_or r m 𝟘 ≡ get_or w m 𝟘 ⊕ d ⊗ get_or (below ∷ w) m 𝟘) → products F r l ≡ products F w l ⊕ d ⊗ products F (below ∷ w) l
  unfolding products
  products_raised [] [] l d below e z h =
      solve₁ F L (λ d. :0 := :0 :+ d :* :0) tt d
      ∙ ap (λ (s : A). 𝟘 ⊕ d ⊗ s) (sym (products_zeros (below ∷ []) l (λ m u. z m zero-le)))
  products_raised [] (b ∷ r) l d below e z h = absurd (omega arith)
  products_raised (a ∷ w) [] l d below e z h = absurd (omega arith)
  products_raised (a ∷ w) (b ∷ r) [] d below e z h = solve₁ F L (λ d. :0 := :0 :+ d :* :0) tt d
  products_raised (a ∷ w) (b ∷ r) (x ∷ l) d below e z h =
      ap₂ (λ (c s : A). c ⊗ x ⊕ s) (h 0 (suc-le-suc zero-le)) (products_raised w r l d a (omega arith) (λ m u. z (suc m) (suc-le-suc u)) (λ m u. h (suc m) (suc-le-suc u)))
      ∙ solve₆ F L (λ a d b x s t. (a :+ d :* b) :* x :+ (s :+ d :* t) := a :* x :+ s :+ d :* (b :* x :+ t)) tt a d below x (products F w l) (products F (a ∷ w) l)

  -- Horner's scheme, number by number
  horner_number : (a : A) (f : List A) (i : ℕ) → get_or (horner F a f) i 𝟘 ≡ get_or f i 𝟘 ⊕ a ⊗ get_or (horner F a f) (suc i) 𝟘
  unfolding horner
  horner_number a [] i = sym (ap (λ (v : A). 𝟘 ⊕ v) (mul-zero a) ∙ add_zero 𝟘 ∙ reduce_zero)
  horner_number a (c ∷ f) zero = refl
  horner_number a (c ∷ f) (suc i) = horner_number a f i

  divide_number : (f : List A) (a : A) (i : ℕ) → get_or (divide F f a) i 𝟘 ⊕ (𝟘 ⊖ a) ⊗ get_or (divide F f a) (suc i) 𝟘 ≡ reduce (get_or f (suc i) 𝟘)
  unfolding divide
  divide_number f a i =
      let q : A = get_or (horner F a (tail f)) (suc i) 𝟘 in
      ap (λ (v : A). v ⊕ (𝟘 ⊖ a) ⊗ q) (horner_number a (tail f) i)
      ∙ solve₃ F L (λ c a q. c :+ a :* q :+ (:- a) :* q := c) tt (get_or (tail f) i 𝟘) a q
      ∙ ap reduce (tail_get_d 𝟘 i f)

  -- the coefficients of a quotient are reduced
  quotient_reduced : (f xs : List A) (j : ℕ) → 0 < length xs → reduce (get_or (quotient F f xs) j 𝟘) ≡ get_or (quotient F f xs) j 𝟘
  unfolding quotient divide
  quotient_reduced f [] j h = absurd (omega arith)
  quotient_reduced f (a ∷ []) j h = ap reduce (horner_number a (tail f) j) ∙ reduce_add _ _ ∙ sym (horner_number a (tail f) j)
  quotient_reduced f (a ∷ b ∷ xs) j h = quotient_reduced (divide F f a) (b ∷ xs) j (omega arith)

  -- no point, and one more
  pub sums_none : (w : List A) → get_or w 0 𝟘 ≡ 𝟙 → ZeroFrom F w 1 → QuotientSums [] w
  unfolding quotient
  sums_none w e h f j =
      products_one w (drop j f) e h ∙ ap reduce (get_or-drop j f 0 𝟘 ∙ ap (λ (n : ℕ). get_or f n 𝟘) (Nat.add-zero j ∙ sym (Nat.zero-add j)))

  pub sums_next : (a : A) (xs w r : List A) → length r ≡ length w → ZeroFrom F (𝟘 ∷ w) (length w) →
      ((m : ℕ) → m < length w → get_or r m 𝟘 ≡ get_or w m 𝟘 ⊕ (𝟘 ⊖ a) ⊗ get_or (𝟘 ∷ w) m 𝟘) → QuotientSums xs w → QuotientSums (a ∷ xs) r
  unfolding quotient
  sums_next a xs w r same z h t f j =
      let q = quotient F (divide F f a) xs in
      let e = length xs in
      products_raised w r (drop j q) (𝟘 ⊖ a) 𝟘 same z h
      ∙ ap₂ (λ (s t : A). s ⊕ (𝟘 ⊖ a) ⊗ t) (t (divide F f a) j)
      (products_shift w (drop j q) ∙ ap (products F w) (tail_drop j q) ∙ t (divide F f a) (suc j) ∙ ap (λ (n : ℕ). reduce (get_or (divide F f a) n 𝟘)) (add-suc e j))
      ∙ ap₂ (λ (s t : A). s ⊕ (𝟘 ⊖ a) ⊗ t) (sym (add_zero _)) (sym (add_zero _))
      ∙ solve₃ F L (λ s a t. (s :+ :0) :+ (:- a) :* (t :+ :0) := s :+ (:- a) :* t) tt (get_or (divide F f a) (e + j) 𝟘) a (get_or (divide F f a) (suc (e + j)) 𝟘)
      ∙ divide_number f a (e + j) ∙ ap (λ (n : ℕ). reduce (get_or f n 𝟘)) (sym (suc-add e j))

  -- THE SUMS: a coefficient of the quotient from those behind it
  pub coefficient_is : (f xs v : List A) (j : ℕ) (l : List A) → 0 < length xs → QuotientSums xs (𝟙 ∷ v) → drop j (quotient F f xs) ≡ get_or (quotient F f xs) j 𝟘 ∷ l →
      get_or (quotient F f xs) j 𝟘 ≡ get_or f (length xs + j) 𝟘 ⊖ products F v l
  unfolding products
  coefficient_is f xs v j l some t e =
      let c = get_or (quotient F f xs) j 𝟘 in
      let s = products F v l in
      let sum : 𝟙 ⊗ c ⊕ s ≡ reduce (get_or f (length xs + j) 𝟘) = sym (ap (products F (𝟙 ∷ v)) e) ∙ t f j in
      sym (quotient_reduced f xs j some) ∙ solve₂ F L (λ c s. c := :1 :* c :+ s :- s) tt c s ∙ ap (λ (u : A). u ⊖ s) (sum ∙ sym (add_zero _))
      ∙ solve₂ F L (λ u s. u :+ :0 :- s := u :- s) tt (get_or f (length xs + j) 𝟘) s

  -- w begins with 1, has zeros from behind the last of its coefficients on, and its sums with the quotient by the points are the dividend's coefficients
  pub record Dividing (xs w : List A) : Type 0 where
    pub one : get_or w 0 𝟘 ≡ 𝟙
    pub few : ZeroFrom F w (suc (length xs))
    pub sums : QuotientSums xs w

  -- v are such coefficients but for the first
  pub record Divides (xs v : List A) : Type 0 where
    pub some : 0 < length xs
    pub many : length v ≡ length xs
    pub sums : QuotientSums xs (𝟙 ∷ v)
