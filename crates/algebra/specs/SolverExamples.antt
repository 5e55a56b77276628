-- The ring solver in use. A proof names the number of variables and writes the equation once more with `:` before each sign; the solver's answer is a
-- function of the words that stand for the variables, which may be any terms.
use Rattle.std.specs.Prelude.{◌≡◌}
use Rattle.std.proofs.Common.{ap, ◌∙◌}
use Rattle.definition.specs.Field.{Field, power}
use Rattle.algebra.specs.Laws.{FieldLaws}
use Rattle.algebra.specs.Solver.{:0, :1, ◌:+◌, ◌:-◌, ◌:*◌, :-◌, ◌:^◌, ◌:=◌, given, solve₁, solve₂, solve₅, solve₈, lin₁}

module _ {A : Type 0} (F : Field A) (L : FieldLaws F) where
  infixl 65 ◌⊕◌ ◌⊖◌
  infixl 70 ◌⊗◌
  open F use {𝟘, 𝟙, ◌⊕◌, ◌⊖◌, ◌⊗◌}
  open L use {reduce}

  square_difference : (a b : A) → (a ⊕ b) ⊗ (a ⊖ b) ≡ a ⊗ a ⊖ b ⊗ b
  square_difference = solve₂ F L (λ a b. (a :+ b) :* (a :- b) := a :* a :- b :* b) tt

  -- a side that is a variable alone means the variable reduced
  difference_plus : (x y : A) → (x ⊖ y) ⊕ y ≡ reduce x
  difference_plus = solve₂ F L (λ x y. (x :- y) :+ y := x) tt

  neg_neg : (x : A) → 𝟘 ⊖ (𝟘 ⊖ x) ≡ reduce x
  neg_neg = solve₁ F L (λ x. :- (:- x) := x) tt

  newton_step : (a c e q x : A) → c ⊕ x ⊗ ((x ⊖ a) ⊗ q ⊕ e) ≡ (x ⊖ a) ⊗ (e ⊕ x ⊗ q) ⊕ (c ⊕ a ⊗ e)
  newton_step = solve₅ F L (λ a c e q x. c :+ x :* ((x :- a) :* q :+ e) := (x :- a) :* (e :+ x :* q) :+ (c :+ a :* e)) tt

  -- an exponent is a numeral; a power with any other exponent stands for a variable
  cube : (x : A) → power F (x ⊖ 𝟙) 3 ≡ power F x 3 ⊖ (𝟙 ⊕ 𝟙 ⊕ 𝟙) ⊗ (x ⊗ x ⊖ x) ⊖ 𝟙
  cube = solve₁ F L (λ x. (x :- :1) :^ 3 := x :^ 3 :- (:1 :+ :1 :+ :1) :* (x :* x :- x) :- :1) tt

  -- Euler: a product of sums of four squares is a sum of four squares
  four_squares : (a b c d e f g h : A) → (a ⊗ a ⊕ b ⊗ b ⊕ c ⊗ c ⊕ d ⊗ d) ⊗ (e ⊗ e ⊕ f ⊗ f ⊕ g ⊗ g ⊕ h ⊗ h)
      ≡ power F (a ⊗ e ⊕ b ⊗ f ⊕ c ⊗ g ⊕ d ⊗ h) 2 ⊕ power F (a ⊗ f ⊖ b ⊗ e ⊕ c ⊗ h ⊖ d ⊗ g) 2
      ⊕ power F (a ⊗ g ⊖ c ⊗ e ⊕ d ⊗ f ⊖ b ⊗ h) 2 ⊕ power F (a ⊗ h ⊖ d ⊗ e ⊕ b ⊗ g ⊖ c ⊗ f) 2
  four_squares = solve₈ F L (λ a b c d e f g h. (a :* a :+ b :* b :+ c :* c :+ d :* d) :* (e :* e :+ f :* f :+ g :* g :+ h :* h)
      := (a :* e :+ b :* f :+ c :* g :+ d :* h) :^ 2 :+ (a :* f :- b :* e :+ c :* h :- d :* g) :^ 2
      :+ (a :* g :- c :* e :+ d :* f :- b :* h) :^ 2 :+ (a :* h :- d :* e :+ b :* g :- c :* f) :^ 2) tt

  -- In a chain of equations the words are given: here u stands for f x.
  in_a_chain : (f : A → A) (x y : A) → f x ≡ 𝟘 → (f x ⊕ y) ⊗ (f x ⊕ y) ≡ y ⊗ y
  in_a_chain f x y h = solve₂ F L (λ u y. (u :+ y) :* (u :+ y) := u :* (u :+ y :+ y) :+ y :* y) tt (f x) y
      ∙ ap (λ u. u ⊗ (u ⊕ y ⊕ y) ⊕ y ⊗ y) h ∙ solve₁ F L (λ y. :0 :* (:0 :+ y :+ y) :+ y :* y := y :* y) tt y

  -- Under a hypothesis l = r: `given l r k` before an equation whose sides differ by k (l - r). Here a⁴ - b² = (a² + b) (a² - b).
  fourth_power : (a b : A) → a ⊗ a ≡ b → power F a 4 ≡ b ⊗ b
  fourth_power = solve₂ F L (λ a b. given (a :* a) b (a :* a :+ b) (a :^ 4 := b :* b)) tt

  -- The same by lin₁, which takes k, l, r, the two sides, l ≡ r and a proof of left + k r = right + k l. It answers with both sides reduced.
  fourth_power' : (a b : A) → a ⊗ a ≡ b → reduce (power F a 4) ≡ reduce (b ⊗ b)
  fourth_power' a b h =
      lin₁ F L (a ⊗ a ⊕ b) (a ⊗ a) b (power F a 4) (b ⊗ b) h
      (solve₂ F L (λ a b. a :^ 4 :+ (a :* a :+ b) :* b := b :* b :+ (a :* a :+ b) :* (a :* a)) tt a b)
