-- Ring expressions and their normal form, for the solver.
--
-- An expression is brought to the form P - N, where P and N are polynomials with coefficients in ℕ, as lists of terms sorted by monomial: two
-- polynomials over ℕ in place of one over ℤ, so that no integers are needed. The order of the terms matters for what the solver finds and for no
-- proof: a merge keeps the value whatever the comparison answers, save that "equal" must mean equal.
use Rattle.std.specs.Prelude.{◌≡◌, refl, Bool, true, false, ◌&&◌, List, [], ◌∷◌, T, eqb}
use Rattle.std.proofs.Common.{sym, ap₂, subst, eqb→eq}
use Prim.Native.Nat.{ℕ, zero, suc, ◌+◌, ◌*◌, compare, Ordering}
use Rattle.std.proofs.Math.Dec.{compare_is_eq}
use Rattle.list_laws.specs.Booleans.{and_left, and_right}

-- ---- expressions

infixl 65 ◌:+◌ ◌:-◌
infixl 70 ◌:*◌
infix 74 :-◌
infix 75 ◌:^◌
pub data Expr : Type 0 where
  var : ℕ → Expr
  :0 :1 : Expr
  ◌:+◌ ◌:-◌ ◌:*◌ : Expr → Expr → Expr
  :-◌ : Expr → Expr
  ◌:^◌ : Expr → ℕ → Expr

-- ---- the normal form

-- the exponents of variable 0, 1, …; the last is not 0
abbrev pub Monomial : Type 0
Monomial = List ℕ

-- a sum of terms, each a coefficient and a monomial
pub data Poly : Type 0 where
  nil : Poly
  term : ℕ → Monomial → Poly → Poly

abbrev pub mul_m : Monomial → Monomial → Monomial
mul_m [] n = n
mul_m (a ∷ m) [] = a ∷ m
mul_m (a ∷ m) (b ∷ n) = (a + b) ∷ mul_m m n

abbrev pub var_m : ℕ → Monomial
var_m zero = 1 ∷ []
var_m (suc i) = 0 ∷ var_m i

abbrev pub compare_m : Monomial → Monomial → Ordering
compare_m [] [] = Ordering.eq
compare_m [] (b ∷ n) = Ordering.lt
compare_m (a ∷ m) [] = Ordering.gt
compare_m (a ∷ m) (b ∷ n) = elim (compare a b) [ Ordering.lt ↦ Ordering.lt | Ordering.eq ↦ compare_m m n | Ordering.gt ↦ Ordering.gt ]

-- the sum of a term, of what `f` adds, and of a polynomial: `f` is the sum with the terms after the first
abbrev pub insert : ℕ → Monomial → (Poly → Poly) → Poly → Poly
insert c m f nil = term c m (f nil)
insert c m f (term d n q) =
    elim (compare_m m n) [
      | Ordering.lt ↦ term c m (f (term d n q))
      | Ordering.eq ↦ term (c + d) n (f q)
      | Ordering.gt ↦ term d n (insert c m f q)
    ]

abbrev pub add_p : Poly → Poly → Poly
add_p nil q = q
add_p (term c m p) q = insert c m (λ r. add_p p r) q

-- a term times a polynomial
abbrev pub scale_p : ℕ → Monomial → Poly → Poly
scale_p c m nil = nil
scale_p c m (term d n q) = term (c * d) (mul_m m n) (scale_p c m q)

abbrev pub mul_p : Poly → Poly → Poly
mul_p nil q = nil
mul_p (term c m p) q = add_p (scale_p c m q) (mul_p p q)

-- plus - minus
pub record Difference : Type 0 where
  pub plus : Poly
  pub minus : Poly

abbrev pub one_d : Difference
one_d = record { plus = term 1 [] nil; minus = nil }

abbrev pub add_d : Difference → Difference → Difference
add_d d e = record { plus = add_p d.plus e.plus; minus = add_p d.minus e.minus }

abbrev pub neg_d : Difference → Difference
neg_d d = record { plus = d.minus; minus = d.plus }

abbrev pub mul_d : Difference → Difference → Difference
mul_d d e = record {
  plus = add_p (mul_p d.plus e.plus) (mul_p d.minus e.minus);
  minus = add_p (mul_p d.plus e.minus) (mul_p d.minus e.plus);
}

abbrev pub power_d : Difference → ℕ → Difference
power_d d zero = one_d
power_d d (suc n) = mul_d d (power_d d n)

abbrev pub normal : Expr → Difference
normal (var i) = record { plus = term 1 (var_m i) nil; minus = nil }
normal :0 = record { plus = nil; minus = nil }
normal :1 = one_d
normal (a :+ b) = add_d (normal a) (normal b)
normal (a :- b) = add_d (normal a) (neg_d (normal b))
normal (a :* b) = mul_d (normal a) (normal b)
normal (:- a) = neg_d (normal a)
normal (a :^ n) = power_d (normal a) n

-- ---- the test

abbrev pub same_m : Monomial → Monomial → Bool
same_m [] [] = true
same_m [] (b ∷ n) = false
same_m (a ∷ m) [] = false
same_m (a ∷ m) (b ∷ n) = eqb a b && same_m m n

abbrev pub same_p : Poly → Poly → Bool
same_p nil nil = true
same_p nil (term d n q) = false
same_p (term c m p) nil = false
same_p (term c m p) (term d n q) = eqb c d && (same_m m n && same_p p q)

abbrev pub same : Expr → Expr → Bool
same a b = same_p (add_p (normal a).plus (normal b).minus) (add_p (normal b).plus (normal a).minus)

-- ---- the test means what it says

same_m_sound : (m n : Monomial) → T (same_m m n) → m ≡ n
same_m_sound [] [] t = refl
same_m_sound [] (b ∷ n) t = absurd t
same_m_sound (a ∷ m) [] t = absurd t
same_m_sound (a ∷ m) (b ∷ n) t =
    ap₂ {C = Monomial} ◌∷◌ (eqb→eq a b (and_left (eqb a b) (same_m m n) t)) (same_m_sound m n (and_right (eqb a b) (same_m m n) t))

pub same_p_sound : (p q : Poly) → T (same_p p q) → p ≡ q
same_p_sound nil nil t = refl
same_p_sound nil (term d n q) t = absurd t
same_p_sound (term c m p) nil t = absurd t
same_p_sound (term c m p) (term d n q) t =
    let u : T (same_m m n && same_p p q) = and_right (eqb c d) (same_m m n && same_p p q) t in
    let coefficients : c ≡ d = eqb→eq c d (and_left (eqb c d) (same_m m n && same_p p q) t) in
    let monomials : m ≡ n = same_m_sound m n (and_left (same_m m n) (same_p p q) u) in
    let rests : p ≡ q = same_p_sound p q (and_right (same_m m n) (same_p p q) u) in
    λ i. term (coefficients i) (monomials i) (rests i)

pub compare_m_eq : (m n : Monomial) → T (compare_is_eq (compare_m m n)) → m ≡ n
compare_m_eq [] [] t = refl
compare_m_eq [] (b ∷ n) t = absurd t
compare_m_eq (a ∷ m) [] t = absurd t
compare_m_eq (a ∷ m) (b ∷ n) t = go (λ u. compare_m_eq m n u) (compare a b) refl t
  where
    go : (T (compare_is_eq (compare_m m n)) → m ≡ n) → (o : Ordering) → compare a b ≡ o
        → T (compare_is_eq (elim o [ Ordering.lt ↦ Ordering.lt | Ordering.eq ↦ compare_m m n | Ordering.gt ↦ Ordering.gt ]))
        → a ∷ m ≡ b ∷ n
    go ih Ordering.lt e u = absurd u
    go ih Ordering.eq e u = ap₂ {C = Monomial} ◌∷◌ (eqb→eq a b (subst (λ o. T (compare_is_eq o)) (sym e) tt)) (ih u)
    go ih Ordering.gt e u = absurd u
