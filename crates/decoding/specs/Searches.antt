-- The first element that passes a test: what a search answers says exactly whether there is one.
use Rattle.std.specs.Prelude.{ℕ, zero, suc, ◌+◌, ◌≤◌, ◌<◌, ◌⊎◌, ◌≡◌, refl, Bool, true, false, cond}
use Rattle.std.proofs.Common.{eq-or-lt_of_le, arith, inl, inr, ⊎_elim, sym, ap, ◌∙◌, subst}
use mathlib.Core.List.{List, [], ◌∷◌, ◌++◌, map, flat_map}
use Rattle.std.proofs.Math.Option.{none, some}
use Rattle.definition.specs.Lists.{range}
use Rattle.nearest_definition.specs.Nearest.{first_that}
use Rattle.list_laws.specs.All.{All}
use Rattle.list_laws.specs.Booleans.{some≢none}

-- x is one of a list
abbrev pub In : {B : Type 0} → B → List B → Type 0
In x [] = ⊥
In x (y ∷ ys) = (x ≡ y) ⊎ In x ys

pub first_some : {B : Type 0} (test : B → Bool) (x : B) (xs : List B) → All (λ y. test y ≡ true → y ≡ x) xs → In x xs → test x ≡ true → first_that test xs ≡ some x
unfolding first_that
first_some test x [] h m e = absurd m
first_some test x (y ∷ ys) h (inl p) e = ap (λ (b : Bool). cond b (some y) (first_that test ys)) (ap test (sym p) ∙ e) ∙ ap some (sym p)
first_some test x (y ∷ ys) h (inr m) e = go (test y) h.0 (first_some test x ys h.1 m e)
  where
    go : (b : Bool) → (b ≡ true → y ≡ x) → first_that test ys ≡ some x → cond b (some y) (first_that test ys) ≡ some x
    go true k r = ap some (k refl)
    go false k r = r

pub first_none : {B : Type 0} (test : B → Bool) (xs : List B) → All (λ y. test y ≡ true → ⊥) xs → first_that test xs ≡ none
unfolding first_that
first_none test [] h = refl
first_none test (y ∷ ys) h = go (test y) h.0 (first_none test ys h.1)
  where
    go : (b : Bool) → (b ≡ true → ⊥) → first_that test ys ≡ none → cond b (some y) (first_that test ys) ≡ none
    go true k r = absurd (k refl)
    go false k r = r

pub none_passes : {B : Type 0} (test : B → Bool) (x : B) (xs : List B) → first_that test xs ≡ none → In x xs → test x ≡ true → ⊥
unfolding first_that
none_passes test x [] e m t = m
none_passes {B} test x (y ∷ ys) e (inl p) t = some≢none y (ap (λ (b : Bool). cond b (some y) (first_that test ys)) (sym (ap test (sym p) ∙ t)) ∙ e)
none_passes test x (y ∷ ys) e (inr m) t = none_passes test x ys (go (test y) e) m t
  where
    go : (b : Bool) → cond b (some y) (first_that test ys) ≡ none → first_that test ys ≡ none
    go true q = absurd (some≢none y q)
    go false q = q

pub some_passes : {B : Type 0} (P : B → Type 0) (test : B → Bool) (x : B) (xs : List B) → All P xs → first_that test xs ≡ some x → P x × (test x ≡ true)
unfolding first_that
some_passes P test x [] a e = absurd (some≢none x (sym e))
some_passes {B = B} P test x (y ∷ ys) a e = go (test y) refl e (λ q. some_passes P test x ys a.1 q)
  where
    go : (b : Bool) → test y ≡ b → cond b (some y) (first_that test ys) ≡ some x → (first_that test ys ≡ some x → P x × (test x ≡ true)) → P x × (test x ≡ true)
    go true t q r = let z : y ≡ x = cc in (subst P z a.0, subst (λ (u : B). test u ≡ true) z t)
    go false t q r = r q

-- ---- one of lists joined, of images, of a range

in_left : {B : Type 0} (x : B) (xs ys : List B) → In x xs → In x (xs ++ ys)
in_left x [] ys m = absurd m
in_left x (y ∷ xs) ys (inl p) = inl p
in_left x (y ∷ xs) ys (inr m) = inr (in_left x xs ys m)

in_right : {B : Type 0} (x : B) (xs ys : List B) → In x ys → In x (xs ++ ys)
in_right x [] ys m = m
in_right x (y ∷ xs) ys m = inr (in_right x xs ys m)

pub in_map : {B C : Type 0} (g : B → C) (x : B) (xs : List B) → In x xs → In (g x) (map g xs)
in_map g x [] m = absurd m
in_map g x (y ∷ xs) (inl p) = inl (ap g p)
in_map g x (y ∷ xs) (inr m) = inr (in_map g x xs m)

pub in_flat : {B C : Type 0} (g : B → List C) (z : C) (x : B) (xs : List B) → In x xs → In z (g x) → In z (flat_map g xs)
unfolding flat_map
in_flat g z x [] m k = absurd m
in_flat g z x (y ∷ xs) (inl p) k = in_left z (g y) (flat_map g xs) (subst (λ y. In z (g y)) p k)
in_flat g z x (y ∷ xs) (inr m) k = in_right z (g y) (flat_map g xs) (in_flat g z x xs m k)

pub in_range : (x from n : ℕ) → from ≤ x → x < from + n → In x (range from n)
unfolding range
in_range x from zero h l = absurd (omega arith)
in_range x from (suc n) h l = ⊎_elim (λ e. inl (sym e)) (λ e. inr (in_range x (suc from) n e (omega arith))) (eq-or-lt_of_le h)
