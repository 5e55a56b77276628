-- A solver for identities of commutative rings:
--
--     solve₂ F L (λ a b. (a :+ b) :* (a :- b) := a :* a :- b :* b) tt : (a b : A) → (a ⊕ b) ⊗ (a ⊖ b) ≡ a ⊗ a ⊖ b ⊗ b
--
-- Where P₁ - N₁ and P₂ - N₂ are the normal forms of two expressions, and P₁ + N₂ is the same list as P₂ + N₁, the expressions have one value in every
-- field. `tt` stands for the test of that, which the check computes.
-- What stands for a variable is used as it is, in any of its spellings. Sums, differences, products and powers are reduced; so a side of an equation that
-- is a variable alone means that variable reduced: `(a :- b) :+ b := a` is (a ⊖ b) ⊕ b ≡ reduce a.
-- SolverExamples shows the uses.
use Rattle.std.specs.Prelude.{◌≡◌, refl, Bool, List, [], ◌∷◌, T, get_or}
use Rattle.std.proofs.Common.{sym, ap, ap₂, ◌∙◌, subst}
use Prim.Native.Nat.{ℕ, zero, suc, ◌+◌, ◌*◌, Ordering}
use Rattle.std.proofs.Math.Nat as N
use Rattle.std.proofs.Math.Dec.{compare_is_eq}
use Rattle.definition.specs.Field.{Field, power}
use Rattle.algebra.specs.Laws.{FieldLaws}
use Rattle.algebra.specs.RingLaws.{add_left_comm, add_swap, mul_swap, add_mul, zero_add, zero_mul, one_mul, reduce_sub, add_cancel}
use Rattle.algebra.specs.RingLaws.{reduce_power, power_add}
pub use Rattle.algebra.specs.NormalForm.{Expr, var, :0, :1, ◌:+◌, ◌:-◌, ◌:*◌, :-◌, ◌:^◌}
use Rattle.algebra.specs.NormalForm.{Monomial, mul_m, var_m, compare_m, compare_m_eq, Poly, nil, term, insert, add_p, scale_p, mul_p, same_p_sound}
use Rattle.algebra.specs.NormalForm.{Difference, one_d, add_d, neg_d, mul_d, power_d, normal, same}

-- ---- claims

infix 20 ◌:=◌
-- `l := r`, and `given l r k c`: the claim c under the hypothesis l = r, used with the factor k: the two sides of c differ by k (l - r).
pub data Claim : Type 0 where
  ◌:=◌ : Expr → Expr → Claim
  given : Expr → Expr → Expr → Claim → Claim

-- a claim in n variables
abbrev pub Over : ℕ → Type 0
Over zero = Claim
Over (suc n) = Expr → Over n

-- p and q are what the hypotheses met so far add to the left and to the right side
abbrev pub provable : Claim → Expr → Expr → Bool
provable (x := y) p q = same (x :+ p) (y :+ q)
provable (given l r k c) p q = provable c (p :+ k :* r) (q :+ k :* l)

-- the variables are numbered from the last, which is variable 0
abbrev pub Provable : (n : ℕ) → Over n → Type 0
Provable zero c = T (provable c :0 :0)
Provable (suc n) c = Provable n (c (var n))

module _ {A : Type 0} (F : Field A) where
  infixl 65 ◌⊕◌ ◌⊖◌
  infixl 70 ◌⊗◌
  open F use {𝟘, 𝟙, ◌⊕◌, ◌⊖◌, ◌⊗◌}

  -- ---- values, where ρ i stands for variable i

  abbrev pub value : (ℕ → A) → Expr → A
  value ρ (var i) = ρ i
  value ρ :0 = 𝟘
  value ρ :1 = 𝟙
  value ρ (a :+ b) = value ρ a ⊕ value ρ b
  value ρ (a :- b) = value ρ a ⊖ value ρ b
  value ρ (a :* b) = value ρ a ⊗ value ρ b
  value ρ (:- a) = 𝟘 ⊖ value ρ a
  value ρ (a :^ n) = power F (value ρ a) n

  abbrev value_n : ℕ → A
  value_n zero = 𝟘
  value_n (suc n) = 𝟙 ⊕ value_n n

  abbrev value_m : (ℕ → A) → Monomial → A
  value_m ρ [] = 𝟙
  value_m ρ (e ∷ m) = power F (ρ 0) e ⊗ value_m (λ i. ρ (suc i)) m

  abbrev value_p : (ℕ → A) → Poly → A
  value_p ρ nil = 𝟘
  value_p ρ (term c m p) = value_n c ⊗ value_m ρ m ⊕ value_p ρ p

  module _ (L : FieldLaws F) where
    open L use {reduce, add_comm, add_assoc, mul_add, add_zero, mul_one, mul-zero, sub_def, neg_add}
    open L use {reduce_zero, reduce_one, reduce_add, reduce_mul}

    -- a side of an equation: its value, reduced. All but a variable's is reduced as it stands (reduce-value).
    abbrev pub side : (ℕ → A) → Expr → A
    side ρ (var i) = reduce (ρ i)
    side ρ :0 = 𝟘
    side ρ :1 = 𝟙
    side ρ (a :+ b) = value ρ (a :+ b)
    side ρ (a :- b) = value ρ (a :- b)
    side ρ (a :* b) = value ρ (a :* b)
    side ρ (:- a) = value ρ (:- a)
    side ρ (a :^ n) = value ρ (a :^ n)

    -- what a claim says
    abbrev pub Says : (ℕ → A) → Claim → Type 0
    Says ρ (x := y) = side ρ x ≡ side ρ y
    Says ρ (given l r k c) = value ρ l ≡ value ρ r → Says ρ c

    -- what a claim in n further variables says, of every choice of words for them; xs are the words for the variables before
    abbrev pub Always : (n : ℕ) → Over n → List A → Type 0
    Always zero c xs = Says (λ i. get_or xs i 𝟘) c
    Always (suc n) c xs = (x : A) → Always n (c (var n)) (x ∷ xs)

    reduce_value : (ρ : ℕ → A) (e : Expr) → reduce (value ρ e) ≡ side ρ e
    reduce_value ρ (var i) = refl
    reduce_value ρ :0 = reduce_zero
    reduce_value ρ :1 = reduce_one
    reduce_value ρ (a :+ b) = reduce_add (value ρ a) (value ρ b)
    reduce_value ρ (a :- b) = reduce_sub F L (value ρ a) (value ρ b)
    reduce_value ρ (a :* b) = reduce_mul (value ρ a) (value ρ b)
    reduce_value ρ (:- a) = reduce_sub F L 𝟘 (value ρ a)
    reduce_value ρ (a :^ n) = reduce_power F L (value ρ a) n

    -- ---- the values of normal forms are reduced, so that the unit laws hold of them as they stand

    reduce_n : (n : ℕ) → reduce (value_n n) ≡ value_n n
    reduce_n zero = reduce_zero
    reduce_n (suc n) = reduce_add 𝟙 (value_n n)

    reduce_m : (ρ : ℕ → A) (m : Monomial) → reduce (value_m ρ m) ≡ value_m ρ m
    reduce_m ρ [] = reduce_one
    reduce_m ρ (e ∷ m) = reduce_mul (power F (ρ 0) e) (value_m (λ i. ρ (suc i)) m)

    one_mul_m : (ρ : ℕ → A) (m : Monomial) → 𝟙 ⊗ value_m ρ m ≡ value_m ρ m
    one_mul_m ρ m = one_mul F L (value_m ρ m) ∙ reduce_m ρ m

    reduce_p : (ρ : ℕ → A) (p : Poly) → reduce (value_p ρ p) ≡ value_p ρ p
    reduce_p ρ nil = reduce_zero
    reduce_p ρ (term c m p) = reduce_add (value_n c ⊗ value_m ρ m) (value_p ρ p)

    zero_add_p : (ρ : ℕ → A) (p : Poly) → 𝟘 ⊕ value_p ρ p ≡ value_p ρ p
    zero_add_p ρ p = zero_add F L (value_p ρ p) ∙ reduce_p ρ p

    -- ---- how the operations on normal forms change the value

    value_n_one : value_n 1 ≡ 𝟙
    value_n_one = add_zero 𝟙 ∙ reduce_one

    value_n_add : (a b : ℕ) → value_n (a + b) ≡ value_n a ⊕ value_n b
    value_n_add zero b = ap value_n (N.zero-add b) ∙ sym (zero_add F L (value_n b) ∙ reduce_n b)
    value_n_add (suc a) b = ap value_n (N.suc-add a b) ∙ ap (λ v. 𝟙 ⊕ v) (value_n_add a b) ∙ sym (add_assoc 𝟙 (value_n a) (value_n b))

    value_n_mul : (a b : ℕ) → value_n (a * b) ≡ value_n a ⊗ value_n b
    value_n_mul zero b = ap value_n (N.zero-mul b) ∙ sym (zero_mul F L (value_n b))
    value_n_mul (suc a) b =
        ap value_n (N.suc-mul a b) ∙ value_n_add (a * b) b ∙ add_comm (value_n (a * b)) (value_n b)
        ∙ ap₂ ◌⊕◌ (sym (one_mul F L (value_n b) ∙ reduce_n b)) (value_n_mul a b) ∙ sym (add_mul F L 𝟙 (value_n a) (value_n b))

    value_m_mul : (ρ : ℕ → A) (m n : Monomial) → value_m ρ (mul_m m n) ≡ value_m ρ m ⊗ value_m ρ n
    value_m_mul ρ [] n = sym (one_mul_m ρ n)
    value_m_mul ρ (a ∷ m) [] = sym (mul_one (value_m ρ (a ∷ m)) ∙ reduce_m ρ (a ∷ m))
    value_m_mul ρ (a ∷ m) (b ∷ n) =
        ap₂ ◌⊗◌ (power_add F L (ρ 0) a b) (value_m_mul (λ i. ρ (suc i)) m n)
        ∙ mul_swap F L (power F (ρ 0) a) (power F (ρ 0) b) (value_m (λ i. ρ (suc i)) m) (value_m (λ i. ρ (suc i)) n)

    value_m_var : (ρ : ℕ → A) (i : ℕ) → value_m ρ (var_m i) ≡ reduce (ρ i)
    unfolding power
    value_m_var ρ zero = mul_one (ρ 0 ⊗ 𝟙) ∙ reduce_mul (ρ 0) 𝟙 ∙ mul_one (ρ 0)
    value_m_var ρ (suc i) = one_mul_m (λ j. ρ (suc j)) (var_m i) ∙ value_m_var (λ j. ρ (suc j)) i

    module _ (ρ : ℕ → A) where
      value_p_insert : (c : ℕ) (m : Monomial) (f : Poly → Poly) (s : A) (hf : (q : Poly) → value_p ρ (f q) ≡ s ⊕ value_p ρ q) (q : Poly)
          → value_p ρ (insert c m f q) ≡ value_n c ⊗ value_m ρ m ⊕ s ⊕ value_p ρ q
      value_p_insert c m f s hf nil = ap (λ v. value_n c ⊗ value_m ρ m ⊕ v) (hf nil) ∙ sym (add_assoc (value_n c ⊗ value_m ρ m) s 𝟘)
      value_p_insert c m f s hf (term d n q) = go (value_p_insert c m f s hf q) (compare_m m n) refl
        where
          first : A
          first = value_n c ⊗ value_m ρ m

          second : A
          second = value_n d ⊗ value_m ρ n

          go : value_p ρ (insert c m f q) ≡ first ⊕ s ⊕ value_p ρ q → (o : Ordering) → compare_m m n ≡ o
              → value_p ρ (elim o [
                | Ordering.lt ↦ term c m (f (term d n q))
                | Ordering.eq ↦ term (c + d) n (f q)
                | Ordering.gt ↦ term d n (insert c m f q)
              ]) ≡ first ⊕ s ⊕ (second ⊕ value_p ρ q)
          go ih Ordering.lt e = ap (λ v. first ⊕ v) (hf (term d n q)) ∙ sym (add_assoc first s (second ⊕ value_p ρ q))
          go ih Ordering.eq e =
              ap₂ ◌⊕◌ (ap (λ v. v ⊗ value_m ρ n) (value_n_add c d) ∙ add_mul F L (value_n c) (value_n d) (value_m ρ n)) (hf q)
              ∙ add_swap F L (value_n c ⊗ value_m ρ n) second s (value_p ρ q)
              ∙ ap (λ k. value_n c ⊗ value_m ρ k ⊕ s ⊕ (second ⊕ value_p ρ q)) (sym (compare_m_eq m n (subst (λ o. T (compare_is_eq o)) (sym e) tt)))
          go ih Ordering.gt e = ap (λ v. second ⊕ v) ih ∙ add_left_comm F L second (first ⊕ s) (value_p ρ q)

      value_p_add : (p q : Poly) → value_p ρ (add_p p q) ≡ value_p ρ p ⊕ value_p ρ q
      value_p_add nil q = sym (zero_add_p ρ q)
      value_p_add (term c m p) q = value_p_insert c m (λ r. add_p p r) (value_p ρ p) (λ r. value_p_add p r) q

      value_p_scale : (c : ℕ) (m : Monomial) (q : Poly) → value_p ρ (scale_p c m q) ≡ value_n c ⊗ value_m ρ m ⊗ value_p ρ q
      value_p_scale c m nil = sym (mul-zero (value_n c ⊗ value_m ρ m))
      value_p_scale c m (term d n q) =
          ap₂ ◌⊕◌ (ap₂ ◌⊗◌ (value_n_mul c d) (value_m_mul ρ m n) ∙ mul_swap F L (value_n c) (value_n d) (value_m ρ m) (value_m ρ n)) (value_p_scale c m q)
          ∙ sym (mul_add (value_n c ⊗ value_m ρ m) (value_n d ⊗ value_m ρ n) (value_p ρ q))

      value_p_mul : (p q : Poly) → value_p ρ (mul_p p q) ≡ value_p ρ p ⊗ value_p ρ q
      value_p_mul nil q = sym (zero_mul F L (value_p ρ q))
      value_p_mul (term c m p) q =
          value_p_add (scale_p c m q) (mul_p p q) ∙ ap₂ ◌⊕◌ (value_p_scale c m q) (value_p_mul p q)
          ∙ sym (add_mul F L (value_n c ⊗ value_m ρ m) (value_p ρ p) (value_p ρ q))

      -- ---- an expression has the value of its normal form

      abbrev Has : A → Difference → Type 0
      Has x d = x ⊕ value_p ρ d.minus ≡ value_p ρ d.plus

      has_one : Has 𝟙 one_d
      has_one = ap (λ v. v ⊕ 𝟘) (sym (mul_one (value_n 1) ∙ reduce_n 1 ∙ value_n_one))

      has_add : (x y : A) (d e : Difference) → Has x d → Has y e → Has (x ⊕ y) (add_d d e)
      has_add x y d e hx hy =
          ap (λ v. x ⊕ y ⊕ v) (value_p_add d.minus e.minus) ∙ add_swap F L x y (value_p ρ d.minus) (value_p ρ e.minus)
          ∙ ap₂ ◌⊕◌ hx hy ∙ sym (value_p_add d.plus e.plus)

      has_neg : (x : A) (d : Difference) → Has x d → Has (𝟘 ⊖ x) (neg_d d)
      has_neg x d hx =
          ap (λ v. (𝟘 ⊖ x) ⊕ v) (sym hx) ∙ sym (add_assoc (𝟘 ⊖ x) x (value_p ρ d.minus))
          ∙ ap (λ v. v ⊕ value_p ρ d.minus) (neg_add x) ∙ zero_add_p ρ d.minus

      has_mul : (x y : A) (d e : Difference) → Has x d → Has y e → Has (x ⊗ y) (mul_d d e)
      has_mul x y d e hx hy =
          ap (λ v. x ⊗ y ⊕ v) (value_p_add (mul_p d.plus e.minus) (mul_p d.minus e.plus)
          ∙ ap₂ ◌⊕◌ (value_p_mul d.plus e.minus ∙ ap (λ v. v ⊗ value_p ρ e.minus) (sym hx))
          (value_p_mul d.minus e.plus ∙ ap (λ v. value_p ρ d.minus ⊗ v) (sym hy)))
          ∙ expand (value_p ρ d.minus) (value_p ρ e.minus)
          ∙ sym (value_p_add (mul_p d.plus e.plus) (mul_p d.minus e.minus)
          ∙ ap₂ ◌⊕◌ (value_p_mul d.plus e.plus ∙ ap₂ ◌⊗◌ (sym hx) (sym hy)) (value_p_mul d.minus e.minus))
        where
          expand : (a b : A) → x ⊗ y ⊕ ((x ⊕ a) ⊗ b ⊕ a ⊗ (y ⊕ b)) ≡ (x ⊕ a) ⊗ (y ⊕ b) ⊕ a ⊗ b
          expand a b = simp (add_mul F L, mul_add, add_assoc, add_left_comm F L)

      has_power : (x : A) (d : Difference) → Has x d → (n : ℕ) → Has (power F x n) (power_d d n)
      unfolding power
      has_power x d hx zero = has_one
      has_power x d hx (suc n) = has_mul x (power F x n) d (power_d d n) hx (has_power x d hx n)

      has_normal : (e : Expr) → Has (value ρ e) (normal e)
      has_normal (var i) =
          add_zero (ρ i) ∙ sym (add_zero (value_n 1 ⊗ value_m ρ (var_m i)) ∙ reduce_mul (value_n 1) (value_m ρ (var_m i))
          ∙ ap (λ v. v ⊗ value_m ρ (var_m i)) value_n_one ∙ one_mul_m ρ (var_m i) ∙ value_m_var ρ i)
      has_normal :0 = zero_add_p ρ nil
      has_normal :1 = has_one
      has_normal (a :+ b) = has_add (value ρ a) (value ρ b) (normal a) (normal b) (has_normal a) (has_normal b)
      has_normal (a :- b) =
          ap (λ v. v ⊕ value_p ρ (normal (a :- b)).minus) (sub_def (value ρ a) (value ρ b))
          ∙ has_add (value ρ a) (𝟘 ⊖ value ρ b) (normal a) (neg_d (normal b)) (has_normal a) (has_neg (value ρ b) (normal b) (has_normal b))
      has_normal (a :* b) = has_mul (value ρ a) (value ρ b) (normal a) (normal b) (has_normal a) (has_normal b)
      has_normal (:- a) = has_neg (value ρ a) (normal a) (has_normal a)
      has_normal (a :^ n) = has_power (value ρ a) (normal a) (has_normal a) n

      same_sound : (a b : Expr) → T (same a b) → side ρ a ≡ side ρ b
      same_sound a b t =
          sym (reduce_value ρ a)
          ∙ add_cancel F L x y (u ⊕ v) (sym (add_assoc x u v) ∙ crossed ∙ add_assoc y v u ∙ ap (λ w. y ⊕ w) (add_comm v u))
          ∙ reduce_value ρ b
        where
          x : A
          x = value ρ a

          y : A
          y = value ρ b

          u : A
          u = value_p ρ (normal a).minus

          v : A
          v = value_p ρ (normal b).minus

          crossed : x ⊕ u ⊕ v ≡ y ⊕ v ⊕ u
          crossed =
              ap (λ w. w ⊕ v) (has_normal a) ∙ sym (value_p_add (normal a).plus (normal b).minus)
              ∙ ap (value_p ρ) (same_p_sound (add_p (normal a).plus (normal b).minus) (add_p (normal b).plus (normal a).minus) t)
              ∙ value_p_add (normal b).plus (normal a).minus ∙ ap (λ w. w ⊕ u) (sym (has_normal b))

      claim_sound : (c : Claim) (p q : Expr) → value ρ p ≡ value ρ q → T (provable c p q) → Says ρ c
      claim_sound (x := y) p q e t =
          sym (reduce_value ρ x)
          ∙ add_cancel F L (value ρ x) (value ρ y) (value ρ p) (same_sound (x :+ p) (y :+ q) t ∙ ap (λ v. value ρ y ⊕ v) (sym e))
          ∙ reduce_value ρ y
      claim_sound (given l r k c) p q e t =
          λ h. claim_sound c (p :+ k :* r) (q :+ k :* l) (ap₂ ◌⊕◌ e (ap (λ v. value ρ k ⊗ v) (sym h))) t

    -- ---- the solver

    always : (n : ℕ) (c : Over n) (xs : List A) → Provable n c → Always n c xs
    always zero c xs t = claim_sound (λ i. get_or xs i 𝟘) c :0 :0 refl t
    always (suc n) c xs t = λ x. always n (c (var n)) (x ∷ xs) t

    pub solve : (n : ℕ) (c : Over n) → Provable n c → Always n c []
    solve n c t = always n c [] t

    pub solve₁ : (c : Over 1) → Provable 1 c → Always 1 c []
    solve₁ = solve 1

    pub solve₂ : (c : Over 2) → Provable 2 c → Always 2 c []
    solve₂ = solve 2

    pub solve₃ : (c : Over 3) → Provable 3 c → Always 3 c []
    solve₃ = solve 3

    pub solve₄ : (c : Over 4) → Provable 4 c → Always 4 c []
    solve₄ = solve 4

    pub solve₅ : (c : Over 5) → Provable 5 c → Always 5 c []
    solve₅ = solve 5

    pub solve₆ : (c : Over 6) → Provable 6 c → Always 6 c []
    solve₆ = solve 6

    pub solve₈ : (c : Over 8) → Provable 8 c → Always 8 c []
    solve₈ = solve 8

    -- x = y follows from l = r where x - y is k (l - r). `given` does the same inside a claim; this is for terms that are not written as expressions.
    pub lin₁ : (k l r x y : A) → l ≡ r → x ⊕ k ⊗ r ≡ y ⊕ k ⊗ l → reduce x ≡ reduce y
    lin₁ k l r x y h e = add_cancel F L x y (k ⊗ r) (e ∙ ap (λ v. y ⊕ k ⊗ v) h)
