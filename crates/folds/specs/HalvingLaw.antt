-- The fold by halves of the values of a polynomial with at most k coefficients is its value at r, k = 2^a.
use Prim.Native.Nat.{ℕ, zero, suc, ◌+◌, ◌*◌, ◌/◌, ◌^◌, ◌≤◌, ◌<◌}
use Rattle.std.proofs.Math.Nat.{pow-suc}
use native.Mathlib.Omega.{arith}
use Rattle.std.specs.Prelude.{◌≡◌, length}
use Rattle.std.proofs.Math.Path.{refl, ap}
use Rattle.std.proofs.Common.{sym, ap₂, ◌∙◌, pow_pos, lt-ltb}
use mathlib.Core.List.{List, [], ◌∷◌}
use Rattle.definition.specs.Field.{Field, power}
use Rattle.definition.specs.Polynomial.{evaluate, scale, add_poly}
use Rattle.algebra.specs.Laws.{FieldLaws}
use Rattle.algebra.specs.RingLaws.{power_add}
use Rattle.algebra.specs.RootsOfUnity.{minus_one}
use Rattle.algebra.specs.Lengths.{length_scale, length_add_le}
use Rattle.algebra.specs.Evaluation.{evaluate_add, evaluate_scale, reduce_evaluate}
use Rattle.algebra.specs.Solver.{:0, :1, ◌:+◌, ◌:-◌, ◌:*◌, :-◌, ◌:=◌, given, solve₁, solve₂, solve₃, solve₅, solve₈}
use Rattle.folds.specs.Halving.{joined, halving, halvings, exponent_of}

-- the coefficients with even and with odd numbers
evens : {A : Type 0} → List A → List A
evens [] = []
evens (c ∷ []) = c ∷ []
evens (c ∷ b ∷ cs) = c ∷ evens cs

odds : {A : Type 0} → List A → List A
odds [] = []
odds (c ∷ []) = []
odds (c ∷ b ∷ cs) = b ∷ odds cs

evens_length : {A : Type 0} (q : List A) (n : ℕ) → length q ≤ n + n → length (evens q) ≤ n
unfolding evens
evens_length [] n h = omega arith
evens_length (c ∷ []) n h = omega arith
evens_length (c ∷ b ∷ cs) zero h = absurd (omega arith)
evens_length (c ∷ b ∷ cs) (suc n) h = omega (arith, evens_length cs n (omega arith))

odds_length : {A : Type 0} (q : List A) (n : ℕ) → length q ≤ n + n → length (odds q) ≤ n
unfolding odds
odds_length [] n h = omega arith
odds_length (c ∷ []) n h = omega arith
odds_length (c ∷ b ∷ cs) zero h = absurd (omega arith)
odds_length (c ∷ b ∷ cs) (suc n) h = omega (arith, odds_length cs n (omega arith))

module _ {A : Type 0} (F : Field A) (L : FieldLaws F) where
  infixl 65 ◌⊕◌ ◌⊖◌
  infixl 70 ◌⊗◌
  open F use {𝟘, 𝟙, ◌⊕◌, ◌⊖◌, ◌⊗◌}
  open L use {reduce, add_zero}

  -- q(x) = E(x²) + x·O(x²)
  even_odd : (q : List A) (x : A) → evaluate F q x ≡ evaluate F (evens q) (x ⊗ x) ⊕ x ⊗ evaluate F (odds q) (x ⊗ x)
  unfolding evaluate evens odds
  even_odd [] x = solve₁ F L (λ x. :0 := :0 :+ x :* :0) tt x
  even_odd (c ∷ []) x = solve₂ F L (λ c x. c :+ x :* :0 := c :+ x :* x :* :0 :+ x :* :0) tt c x
  even_odd (c ∷ b ∷ cs) x =
      ap (λ (v : A). c ⊕ x ⊗ (b ⊕ x ⊗ v)) (even_odd cs x)
      ∙ solve₅ F L (λ c b e o x. c :+ x :* (b :+ x :* (e :+ x :* o)) := (c :+ x :* x :* e) :+ x :* (b :+ x :* x :* o)) tt c b _ _ x

  -- E + r·O
  halved : A → List A → List A
  halved r q = add_poly F (evens q) (scale F r (odds q))

  halved_at : (q : List A) (r x : A) → evaluate F (halved r q) x ≡ evaluate F (evens q) x ⊕ r ⊗ evaluate F (odds q) x
  unfolding halved
  halved_at q r x = evaluate_add F L (evens q) (scale F r (odds q)) x ∙ ap (λ (v : A). evaluate F (evens q) x ⊕ v) (evaluate_scale F L r (odds q) x)

  halved_length : (q : List A) (r : A) (n : ℕ) → length q ≤ n + n → length (halved r q) ≤ n
  unfolding halved
  halved_length q r n h = length_add_le F (evens q) (scale F r (odds q)) n (evens_length q n h) (rw (length_scale F) (odds_length q n h))

  -- a polynomial with one coefficient is the same everywhere
  constant : (q : List A) (x r : A) → length q ≤ 1 → evaluate F q x ≡ evaluate F q r
  unfolding evaluate
  constant [] x r h = refl
  constant (c ∷ []) x r h = solve₃ F L (λ c x r. c :+ x :* :0 := c :+ r :* :0) tt c x r
  constant (c ∷ b ∷ cs) x r h = absurd (omega arith)

  module _ (ω half : A) (inverse_power : ℕ → A) (halves : (𝟙 ⊕ 𝟙) ⊗ half ≡ 𝟙) (inverses : (n : ℕ) → power F ω n ⊗ inverse_power n ≡ 𝟙) where
    -- the values E(x²) + x·O(x²) at x and E(x²) - x·O(x²) at -x, joined
    joined_is : (r x y v w e o : A) → x ⊗ y ≡ 𝟙 → reduce v ≡ e ⊕ x ⊗ o → reduce w ≡ e ⊕ (𝟘 ⊖ x) ⊗ o → joined F half r y v w ≡ e ⊕ r ⊗ o
    unfolding joined
    joined_is r x y v w e o inverse at_x at-minus =
        solve₈ F L (λ h r x y v w e o.
        given ((:1 :+ :1) :* h) :1 (e :+ r :* o)
        (given (x :* y) :1 ((:1 :+ :1) :* h :* r :* o)
        (given (v :+ :0) (e :+ x :* o) (h :* (:1 :+ r :* y))
        (given (w :+ :0) (e :+ (:- x) :* o) (h :* (:1 :- r :* y))
        (h :* (v :+ w :+ r :* y :* (v :- w)) := e :+ r :* o))))) tt half r x y v w e o
        halves inverse (add_zero v ∙ at_x) (add_zero w ∙ at-minus)

    -- the points of the next turn are the squares
    square : (e d m : ℕ) → power F ω (e + m * d) ⊗ power F ω (e + m * d) ≡ power F ω (2 * e + m * (2 * d))
    square e d m = let s : e + m * d + (e + m * d) ≡ 2 * e + m * (2 * d) = omega arith in sym (power_add F L ω (e + m * d) (e + m * d)) ∙ ap (power F ω) s

    -- h places on stands -x, where ω^(h·d) = -1
    opposite : (e d h m : ℕ) → power F ω (h * d) ≡ minus_one F → power F ω (e + (h + m) * d) ≡ 𝟘 ⊖ power F ω (e + m * d)
    unfolding minus_one
    opposite e d h m turn =
        let s : e + (h + m) * d ≡ h * d + (e + m * d) = omega arith in
        ap (power F ω) s ∙ power_add F L ω (h * d) (e + m * d) ∙ ap (λ (u : A). u ⊗ power F ω (e + m * d)) turn
        ∙ solve₁ F L (λ x. (:- :1) :* x := :- x) tt (power F ω (e + m * d))

    -- one turn: from the values of q to those of E + r·O
    turn_is : (a e d : ℕ) (r : A) (v : ℕ → A) (q : List A) → power F ω (2 ^ a * d) ≡ minus_one F →
        ((m : ℕ) → m < 2 ^ suc a → reduce (v m) ≡ evaluate F q (power F ω (e + m * d))) →
        (m : ℕ) → m < 2 ^ a → joined F half r (inverse_power (e + m * d)) (v m) (v (2 ^ a + m)) ≡ evaluate F (halved r q) (power F ω (2 * e + m * (2 * d)))
    turn_is a e d r v q turn values m l =
        let x : A = power F ω (e + m * d) in
        let z : A = power F ω (2 * e + m * (2 * d)) in
        let here : reduce (v m) ≡ evaluate F (evens q) z ⊕ x ⊗ evaluate F (odds q) z =
        values m (omega (arith, pow-suc 2 a)) ∙ even_odd q x ∙ ap (λ (u : A). evaluate F (evens q) u ⊕ x ⊗ evaluate F (odds q) u) (square e d m) in
        let minus : (𝟘 ⊖ x) ⊗ (𝟘 ⊖ x) ≡ z = solve₁ F L (λ x. (:- x) :* (:- x) := x :* x) tt x ∙ square e d m in
        let there : reduce (v (2 ^ a + m)) ≡ evaluate F (evens q) z ⊕ (𝟘 ⊖ x) ⊗ evaluate F (odds q) z =
        values (2 ^ a + m) (omega (arith, pow-suc 2 a)) ∙ ap (evaluate F q) (opposite e d (2 ^ a) m turn) ∙ even_odd q (𝟘 ⊖ x)
        ∙ ap (λ (u : A). evaluate F (evens q) u ⊕ (𝟘 ⊖ x) ⊗ evaluate F (odds q) u) minus in
        joined_is r x (inverse_power (e + m * d)) (v m) (v (2 ^ a + m)) (evaluate F (evens q) z) (evaluate F (odds q) z) (inverses (e + m * d)) here there
        ∙ sym (halved_at q r z)

    -- the halves of q at r² make q at r
    halved_whole : (q : List A) (r : A) → evaluate F (halved r q) (r ⊗ r) ≡ evaluate F q r
    halved_whole q r = halved_at q r (r ⊗ r) ∙ sym (even_odd q r)

    pub halving_is : (a e d : ℕ) (r : A) (v : ℕ → A) (q : List A) → power F ω (2 ^ a * d) ≡ minus_one F → length q ≤ 2 ^ suc a →
        ((m : ℕ) → m < 2 ^ suc a → reduce (v m) ≡ evaluate F q (power F ω (e + m * d))) → halving F half inverse_power (suc a) e d r v ≡ evaluate F q r
    unfolding halving
    halving_is zero e d r v q turn few values =
        turn_is zero e d r v q turn values 0 (pow_pos 0)
        ∙ constant (halved r q) _ (r ⊗ r) (halved_length q r 1 few) ∙ halved_whole q r
    halving_is (suc a) e d r v q turn few values =
        let s : 2 ^ suc a * d ≡ 2 ^ a * (2 * d) = ap (λ (k : ℕ). k * d) (pow-suc 2 a) ∙ omega arith in
        halving_is a (2 * e) (2 * d) (r ⊗ r) _ (halved r q) (ap (power F ω) (sym s) ∙ turn) (halved_length q r (2 ^ suc a) (omega (arith, pow-suc 2 (suc a))))
        (λ m l. ap reduce (turn_is (suc a) e d r v q turn values m l) ∙ reduce_evaluate F L (halved r q) _)
        ∙ halved_whole q r

-- the fold asks only for its 2^a values
pub halving_same : {A : Type 0} (F : Field A) (half : A) (inverse_power : ℕ → A) (a e d : ℕ) (r : A) (u v : ℕ → A) → ((m : ℕ) → m < 2 ^ a → u m ≡ v m) →
    halving F half inverse_power a e d r u ≡ halving F half inverse_power a e d r v
unfolding halving
halving_same F half inverse_power zero e d r u v h = h 0 (pow_pos 0)
halving_same F half inverse_power (suc a) e d r u v h =
    halving_same F half inverse_power a (2 * e) (2 * d) (F.◌⊗◌ r r) _ _
    (λ m l. ap₂ (joined F half r (inverse_power (e + m * d))) (h m (omega (arith, pow-suc 2 a))) (h (2 ^ a + m) (omega (arith, pow-suc 2 a))))

halvings_of : (most a : ℕ) → a ≤ most → halvings most (2 ^ a) ≡ a
unfolding halvings
halvings_of zero zero h = refl
halvings_of zero (suc a) h = absurd (omega arith)
halvings_of (suc most) zero h = refl
halvings_of (suc most) (suc a) h =
    let half : 2 ^ suc a / 2 ≡ 2 ^ a = omega (arith, pow-suc 2 a) in
    rw (lt-ltb 1 (2 ^ suc a) (omega (arith, pow-suc 2 a, pow_pos a)), half, halvings_of most a (omega arith))

-- 2^a has the exponent a
pub exponent_of_lem : (a : ℕ) → exponent_of (2 ^ a) ≡ a
unfolding exponent_of
exponent_of_lem a = halvings_of (2 ^ a) a (below a)
  where
    below : (a : ℕ) → a ≤ 2 ^ a
    below zero = omega arith
    below (suc a) = omega (arith, below a, pow-suc 2 a, pow_pos a)
