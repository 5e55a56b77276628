-- Another order of a round's samples: no clash comes or goes, and the next function is the same.
use Prim.Native.Nat.{suc}
use Rattle.std.proofs.Common.{arith, true≢false, sym, ◌∙◌, eq-eqb, eqb-true}
use Rattle.std.specs.Prelude.{Bool, cond, ◌&&◌, ◌||◌, ◌≡◌, eqb}
use Rattle.std.proofs.Math.Bool.{true, false, not}
use mathlib.Core.List.Permᴰ
use mathlib.Core.List.{List, ◌∷◌, map, Permᴰ}
use Rattle.std.proofs.Math.Path.{refl, ap, subst}
use Rattle.std.proofs.Math.ListN.{length}
use Rattle.definition.specs.Deciding.{Place, reads_of, same_place}
use Rattle.definition.specs.Field.{Field, reciprocal}
use Rattle.definition.specs.Lists.{different, member}
use Rattle.definition.specs.Polynomial.{Sample, points, evaluate, vanishing, interpolate, geometric, sampled_at, distinct, contradicts, clash, corrected_value}
use Rattle.algebra.specs.Different.{Apart}
use Rattle.algebra.specs.Division.{evaluate_vanishing}
use Rattle.algebra.specs.Interpolation.{agree, all_of_points, interpolate_through}
use Rattle.algebra.specs.Laws.{FieldLaws}
use Rattle.algebra.specs.Lengths.{length_interpolate, length_points}
use Rattle.algebra.specs.RingLaws.{mul_left_comm}
use Rattle.list_laws.specs.All.{All, all_map₂}
use Rattle.list_laws.specs.Booleans.{and_true, or_false}

or_swap : (a b c : Bool) → (a || (b || c)) ≡ (b || (a || c))
or_swap true true c = refl
or_swap true false c = refl
or_swap false true c = refl
or_swap false false c = refl

clash_swap : (d a b k : Bool) → ((d || a) || (b || k)) ≡ ((d || b) || (a || k))
clash_swap true a b k = refl
clash_swap false a b k = or_swap a b k

pub perm_map : {A B : Type 0} (f : A → B) {xs ys : List A} → Permᴰ xs ys → Permᴰ (map f xs) (map f ys)
perm_map f Permᴰ.nil = Permᴰ.nil
perm_map f (Permᴰ.cons e d) = Permᴰ.cons (ap f e) (perm_map f d)
perm_map f (Permᴰ.swap e₁ e₂) = Permᴰ.swap (ap f e₁) (ap f e₂)
perm_map f (Permᴰ.trans d₁ d₂) = Permᴰ.trans (perm_map f d₁) (perm_map f d₂)

pub perm_all : {A : Type 0} (P : A → Type 0) {xs ys : List A} → Permᴰ xs ys → All P xs → All P ys
perm_all P Permᴰ.nil h = tt
perm_all P (Permᴰ.cons e d) h = (subst P e h.0, perm_all P d h.1)
perm_all P (Permᴰ.swap e₁ e₂) h = (subst P e₂ h.1.0, (subst P e₁ h.0, h.1.1))
perm_all P (Permᴰ.trans d₁ d₂) h = perm_all P d₂ (perm_all P d₁ h)

pub perm_length : {A : Type 0} {xs ys : List A} → Permᴰ xs ys → length xs ≡ length ys
perm_length Permᴰ.nil = refl
perm_length (Permᴰ.cons e d) = ap suc (perm_length d)
perm_length (Permᴰ.swap e₁ e₂) = refl
perm_length (Permᴰ.trans d₁ d₂) = perm_length d₁ ∙ perm_length d₂

-- ---- what is used, counted: a list without its repeats, in another order

module _ {A : Type 0} (same : A → A → Bool) (refl-same : (x : A) → same x x ≡ true) (true_same : (x y : A) → same x y ≡ true → x ≡ y) where
  same_sym : (x y : A) → same x y ≡ same y x
  same_sym x y = go (same x y) (same y x) refl refl
    where
      go : (p q : Bool) → same x y ≡ p → same y x ≡ q → p ≡ q
      go true true e f = refl
      go false false e f = refl
      go true false e f = sym (refl-same y) ∙ ap (same y) (sym (true_same x y e)) ∙ f
      go false true e f = sym (sym (refl-same x) ∙ ap (same x) (sym (true_same y x f)) ∙ e)

  pub perm_member : (x : A) {xs ys : List A} → Permᴰ xs ys → member same x xs ≡ member same x ys
  unfolding member
  perm_member x Permᴰ.nil = refl
  perm_member x (Permᴰ.cons e d) = λ i. same x (e i) || perm_member x d i
  perm_member x (Permᴰ.swap {a} {b} {l = l} e₁ e₂) = or_swap (same x a) (same x b) (member same x l) ∙ (λ i. same x (e₂ i) || (same x (e₁ i) || member same x l))
  perm_member x (Permᴰ.trans d₁ d₂) = perm_member x d₁ ∙ perm_member x d₂

  module _ (a b : A) (l : List A) where
    two : (p q s t : Bool) → p ≡ q → (p ≡ true → s ≡ t) →
        length (cond (p || s) (cond t (different same l) (b ∷ different same l)) (a ∷ cond t (different same l) (b ∷ different same l)))
        ≡ length (cond (q || t) (cond s (different same l) (a ∷ different same l)) (b ∷ cond s (different same l) (a ∷ different same l)))
    two true true true true e f = refl
    two true true true false e f = absurd (true≢false (f refl))
    two true true false true e f = absurd (true≢false (sym (f refl)))
    two true true false false e f = refl
    two true false s t e f = absurd (true≢false e)
    two false true s t e f = absurd (true≢false (sym e))
    two false false true true e f = refl
    two false false true false e f = refl
    two false false false true e f = refl
    two false false false false e f = refl

    swap_different : length (different same (a ∷ b ∷ l)) ≡ length (different same (b ∷ a ∷ l))
    unfolding different member
    swap_different = two (same a b) (same b a) (member same a l) (member same b l) (same_sym a b) (λ e. ap (λ (x : A). member same x l) (true_same a b e))

  cons_different : (a b : A) (xs ys : List A) → member same a xs ≡ member same b ys → length (different same xs) ≡ length (different same ys) →
      length (different same (a ∷ xs)) ≡ length (different same (b ∷ ys))
  unfolding different
  cons_different a b xs ys e n = ap (λ (t : Bool). length (cond t (different same xs) (a ∷ different same xs))) e ∙ go (member same b ys)
    where
      go : (t : Bool) → length (cond t (different same xs) (a ∷ different same xs)) ≡ length (cond t (different same ys) (b ∷ different same ys))
      go true = n
      go false = ap suc n

  pub perm_different : {xs ys : List A} → Permᴰ xs ys → length (different same xs) ≡ length (different same ys)
  perm_different Permᴰ.nil = refl
  perm_different (Permᴰ.cons {a} {b} {l₁} {l₂} e d) = cons_different a b l₁ l₂ (ap (λ (x : A). member same x l₁) e ∙ perm_member b d) (perm_different d)
  perm_different (Permᴰ.swap {a} {b} {a'} {b'} {l} e₁ e₂) = swap_different a b l ∙ (λ i. length (different same (e₂ i ∷ e₁ i ∷ l)))
  perm_different (Permᴰ.trans d₁ d₂) = perm_different d₁ ∙ perm_different d₂

place_refl : (p : Place) → same_place p p ≡ true
unfolding same_place
place_refl p = λ i. eq-eqb p.table p.table refl i && eq-eqb p.number p.number refl i

place_true : (p q : Place) → same_place p q ≡ true → p ≡ q
unfolding same_place
place_true p q e =
    let h = and_true (eqb p.table q.table) _ e in
    λ i. record { table = eqb-true p.table q.table h.0 i; number = eqb-true p.number q.number h.1 i }

-- the reads of the same places in another order
pub perm_reads : {ps qs : List Place} → Permᴰ ps qs → reads_of ps ≡ reads_of qs
unfolding reads_of
perm_reads d = perm_different same_place place_refl place_true d

-- ---- samples

module _ {A : Type 0} (F : Field A) (L : FieldLaws F) where
  infixl 65 ◌⊖◌
  infixl 70 ◌⊗◌
  open F use {◌⊖◌, ◌⊗◌, equal}
  open L use {reduce, equal_refl, equal_true}

  equal_sym : (x y : A) → equal x y ≡ equal y x
  equal_sym x y = go (equal x y) (equal y x) refl refl
    where
      go : (p q : Bool) → equal x y ≡ p → equal y x ≡ q → p ≡ q
      go true true e f = refl
      go false false e f = refl
      go true false e f = sym (equal_refl y) ∙ ap (equal y) (sym (equal_true x y e)) ∙ f
      go false true e f = sym (sym (equal_refl x) ∙ ap (equal x) (sym (equal_true y x f)) ∙ e)

  perm_sampled : (x : A) {ps qs : List (Sample A)} → Permᴰ ps qs → sampled_at F x ps ≡ sampled_at F x qs
  unfolding sampled_at
  perm_sampled x Permᴰ.nil = refl
  perm_sampled x (Permᴰ.cons e d) = λ i. equal x (e i).point || perm_sampled x d i
  perm_sampled x (Permᴰ.swap {a} {b} {l = l} e₁ e₂) =
      or_swap (equal x a.point) (equal x b.point) (sampled_at F x l) ∙ (λ i. equal x (e₂ i).point || (equal x (e₁ i).point || sampled_at F x l))
  perm_sampled x (Permᴰ.trans d₁ d₂) = perm_sampled x d₁ ∙ perm_sampled x d₂

  -- two samples with one point and two values
  against : Sample A → Sample A → Bool
  against s t = equal s.point t.point && not (equal s.value t.value)

  against_sym : (s t : Sample A) → against s t ≡ against t s
  unfolding against
  against_sym s t = λ i. equal_sym s.point t.point i && not (equal_sym s.value t.value i)

  perm_contradicts : (s : Sample A) {ps qs : List (Sample A)} → Permᴰ ps qs → contradicts F s ps ≡ contradicts F s qs
  unfolding contradicts against
  perm_contradicts s Permᴰ.nil = refl
  perm_contradicts s (Permᴰ.cons e d) = λ i. against s (e i) || perm_contradicts s d i
  perm_contradicts s (Permᴰ.swap {a} {b} {l = l} e₁ e₂) =
      or_swap (against s a) (against s b) (contradicts F s l) ∙ (λ i. against s (e₂ i) || (against s (e₁ i) || contradicts F s l))
  perm_contradicts s (Permᴰ.trans d₁ d₂) = perm_contradicts s d₁ ∙ perm_contradicts s d₂

  -- 1. A clash is one in every order.
  pub perm_clash : {ps qs : List (Sample A)} → Permᴰ ps qs → clash F ps ≡ clash F qs
  unfolding clash contradicts against
  perm_clash Permᴰ.nil = refl
  perm_clash (Permᴰ.cons {a} {b} {l₁} {l₂} e d) = (λ i. contradicts F (e i) l₁ || clash F l₁) ∙ (λ i. perm_contradicts b d i || perm_clash d i)
  perm_clash (Permᴰ.swap {a} {b} {a'} {b'} {l} e₁ e₂) =
      clash_swap (against a b) (contradicts F a l) (contradicts F b l) (clash F l)
      ∙ (λ i. (against_sym a b i || contradicts F b l) || (contradicts F a l || clash F l))
      ∙ (λ i. (against (e₂ i) (e₁ i) || contradicts F (e₂ i) l) || (contradicts F (e₁ i) l || clash F l))
  perm_clash (Permᴰ.trans d₁ d₂) = perm_clash d₁ ∙ perm_clash d₂

  -- 2. Without a clash, what is kept is the same in another order.
  module _ (a b : Sample A) (l : List (Sample A)) where
    kept_two : (p q s t : Bool) → p ≡ false → q ≡ false →
        Permᴰ (cond (p || s) (cond t (distinct F l) (b ∷ distinct F l)) (a ∷ cond t (distinct F l) (b ∷ distinct F l)))
        (cond (q || t) (cond s (distinct F l) (a ∷ distinct F l)) (b ∷ cond s (distinct F l) (a ∷ distinct F l)))
    kept_two false false true true e f = Permᴰ.refl _
    kept_two false false true false e f = Permᴰ.refl _
    kept_two false false false true e f = Permᴰ.refl _
    kept_two false false false false e f = Permᴰ.swap refl refl
    kept_two true q s t e f = absurd (true≢false e)
    kept_two false true s t e f = absurd (true≢false f)

    same_sample : a.point ≡ b.point → a.value ≡ b.value → a ≡ b
    same_sample p v = λ i. record { point = p i; value = v i }

    agree_values : clash F (a ∷ b ∷ l) ≡ false → equal a.point b.point ≡ true → a.value ≡ b.value
    unfolding clash contradicts against
    agree_values h e = go (equal a.value b.value) refl
      where
        go : (v : Bool) → equal a.value b.value ≡ v → a.value ≡ b.value
        go true k = equal_true a.value b.value k
        go false k = absurd (true≢false (sym (rw (e, k)) ∙ (or_false (against a b) (contradicts F a l) (or_false (against a b || contradicts F a l) (contradicts F b l || clash F l) h).0).0))

    swap_kept : clash F (a ∷ b ∷ l) ≡ false → Permᴰ (distinct F (a ∷ b ∷ l)) (distinct F (b ∷ a ∷ l))
    unfolding distinct sampled_at
    swap_kept h = go (equal a.point b.point) refl
      where
        go : (v : Bool) → equal a.point b.point ≡ v → Permᴰ (distinct F (a ∷ b ∷ l)) (distinct F (b ∷ a ∷ l))
        go true e =
            let z = same_sample (equal_true a.point b.point e) (agree_values h e) in
            subst (λ (s : Sample A). Permᴰ (distinct F (a ∷ b ∷ l)) (distinct F (s ∷ a ∷ l))) z
            (subst (λ (s : Sample A). Permᴰ (distinct F (a ∷ s ∷ l)) (distinct F (a ∷ a ∷ l))) z (Permᴰ.refl (distinct F (a ∷ a ∷ l))))
        go false e =
            kept_two (equal a.point b.point) (equal b.point a.point) (sampled_at F a.point l) (sampled_at F b.point l) e (sym (equal_sym a.point b.point) ∙ e)

  cons_kept : (a b : Sample A) (ps qs : List (Sample A)) → a ≡ b → sampled_at F a.point ps ≡ sampled_at F b.point qs →
      Permᴰ (distinct F ps) (distinct F qs) → Permᴰ (distinct F (a ∷ ps)) (distinct F (b ∷ qs))
  unfolding distinct
  cons_kept a b ps qs e k d =
      subst (λ (t : Bool). Permᴰ (cond (sampled_at F a.point ps) (distinct F ps) (a ∷ distinct F ps)) (cond t (distinct F qs) (b ∷ distinct F qs))) k
      (go (sampled_at F a.point ps))
    where
      go : (t : Bool) → Permᴰ (cond t (distinct F ps) (a ∷ distinct F ps)) (cond t (distinct F qs) (b ∷ distinct F qs))
      go true = d
      go false = Permᴰ.cons e d

  pub perm_distinct : {ps qs : List (Sample A)} → Permᴰ ps qs → clash F ps ≡ false → Permᴰ (distinct F ps) (distinct F qs)
  unfolding clash
  perm_distinct Permᴰ.nil h = Permᴰ.refl _
  perm_distinct (Permᴰ.cons {a} {b} {l₁} {l₂} e d) h =
      cons_kept a b l₁ l₂ e (ap (λ (s : Sample A). sampled_at F s.point l₁) e ∙ perm_sampled b.point d) (perm_distinct d (or_false (contradicts F a l₁) (clash F l₁) h).1)
  perm_distinct (Permᴰ.swap {a} {b} {a'} {b'} {l} e₁ e₂) h =
      subst (λ (t : List (Sample A)). Permᴰ (distinct F (a ∷ b ∷ l)) t) (λ i. distinct F (e₂ i ∷ e₁ i ∷ l)) (swap_kept a b l h)
  perm_distinct (Permᴰ.trans d₁ d₂) h = Permᴰ.trans (perm_distinct d₁ h) (perm_distinct d₂ (sym (perm_clash d₁) ∙ h))

  -- 3. V is a product.
  perm_vanishing : {xs ys : List A} (x : A) → Permᴰ xs ys → evaluate F (vanishing F xs) x ≡ evaluate F (vanishing F ys) x
  perm_vanishing x Permᴰ.nil = refl
  perm_vanishing x (Permᴰ.cons {a} {b} {l₁} {l₂} e d) =
      evaluate_vanishing F L a l₁ x ∙ (λ i. (x ⊖ e i) ⊗ perm_vanishing x d i) ∙ sym (evaluate_vanishing F L b l₂ x)
  perm_vanishing x (Permᴰ.swap {a} {b} {a'} {b'} {l} e₁ e₂) =
      evaluate_vanishing F L a (b ∷ l) x ∙ ap (λ (v : A). (x ⊖ a) ⊗ v) (evaluate_vanishing F L b l x)
      ∙ mul_left_comm F L (x ⊖ a) (x ⊖ b) (evaluate F (vanishing F l) x)
      ∙ (λ i. (x ⊖ e₂ i) ⊗ ((x ⊖ e₁ i) ⊗ evaluate F (vanishing F l) x))
      ∙ sym (evaluate_vanishing F L a' (b' ∷ l) x ∙ ap (λ (v : A). (x ⊖ a') ⊗ v) (evaluate_vanishing F L b' l x))
  perm_vanishing x (Permᴰ.trans d₁ d₂) = perm_vanishing x d₁ ∙ perm_vanishing x d₂

  -- 4. A is the one polynomial through the samples.
  perm_interpolate : (g h : List (Sample A)) (x : A) → Permᴰ g h → Apart F (points g) → Apart F (points h) → evaluate F (interpolate F g) x ≡ evaluate F (interpolate F h) x
  perm_interpolate g h x d ag ah =
      agree F L (points g) (interpolate F g) (interpolate F h)
      (omega (arith, length_interpolate F g, length_points F g))
      (omega (arith, length_interpolate F h, length_points F g, perm_length d))
      ag
      (all_of_points (λ p. evaluate F (interpolate F g) p ≡ evaluate F (interpolate F h) p) g
      (all_map₂ g (interpolate_through F L g ag)
      (perm_all (λ p. evaluate F (interpolate F h) p.point ≡ reduce p.value) (Permᴰ.symm d) (interpolate_through F L h ah)) (λ p u v. u ∙ sym v)))
      x

  -- 5. So the corrected value is the same.
  pub perm_corrected : (g h : List (Sample A)) (c x y : A) → Permᴰ g h → Apart F (points g) → Apart F (points h) → corrected_value F g c x y ≡ corrected_value F h c x y
  unfolding corrected_value points
  perm_corrected g h c x y d ag ah =
      λ i. (y ⊖ perm_interpolate g h x d ag ah i) ⊗ reciprocal F (perm_vanishing x (perm_map (λ s. s.point) d) i) ⊗ evaluate F (geometric F c (perm_length d i)) x
