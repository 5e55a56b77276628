-- Laws of `member` and `different`: what is in a list, and how many different elements it has.
use Prim.Native.Nat.{ℕ, zero, suc, ◌+◌, ◌*◌, ◌≤◌, ◌<◌}
use Rattle.std.proofs.Math.Decide.{dec_lt}
use Rattle.std.proofs.Math.Nat.{suc-mul}
use Rattle.std.proofs.Common.{zero-mul, true≢false, ◌∙◌, eq-eqb}
use native.Mathlib.Omega.{arith}
use Rattle.std.specs.Prelude.{Bool, cond, ◌||◌, ◌≡◌, eqb}
use Rattle.std.proofs.Math.Bool.{true, false, or_assoc, or-true}
use mathlib.Core.List.{List, [], ◌∷◌, ◌++◌, flat_map, map}
use Rattle.std.proofs.Math.Path.{refl, sym, ap}
use Rattle.std.proofs.Math.ListN.{length}
use Rattle.definition.specs.Lists.{different, member, range}
use Rattle.list_laws.specs.All.{All, all_map, all_map₂, everywhere}
use Rattle.list_laws.specs.Booleans.{or_cases, or_false, or_left, or_right}

module _ {A : Type 0} (same : A → A → Bool) where
  pub member_append : (x : A) (xs ys : List A) → member same x (xs ++ ys) ≡ (member same x xs || member same x ys)
  unfolding member
  member_append x [] ys = refl
  member_append x (z ∷ xs) ys = ap (λ (b : Bool). same x z || b) (member_append x xs ys) ∙ sym (or_assoc (same x z) (member same x xs) (member same x ys))

  pub absent : (x : A) (ys : List A) → All (λ y. same x y ≡ false) ys → member same x ys ≡ false
  unfolding member
  absent x [] h = refl
  absent x (y ∷ ys) h = λ i. h.0 i || absent x ys h.1 i

  pub none_same : (x : A) (ys : List A) → member same x ys ≡ false → All (λ y. same x y ≡ false) ys
  unfolding member
  none_same x [] e = tt
  none_same x (y ∷ ys) e = let h = or_false (same x y) (member same x ys) e in (h.0, none_same x ys h.1)

  -- elements that are all among those after them add none
  pub add_none : (xs ys : List A) → All (λ x. member same x ys ≡ true) xs → different same (xs ++ ys) ≡ different same ys
  unfolding different
  add_none [] ys h = refl
  add_none (x ∷ xs) ys h = rw (member_append x xs ys ∙ ap (λ (b : Bool). member same x xs || b) h.0 ∙ or-true (member same x xs)) (add_none xs ys h.1)

  -- elements that are none of those after them add their own number
  pub add_all : (xs ys : List A) → All (λ x. member same x ys ≡ false) xs → length (different same (xs ++ ys)) ≡ length (different same xs) + length (different same ys)
  unfolding different
  add_all [] ys h = omega arith
  add_all (x ∷ xs) ys h = go (member same x xs) (member_append x xs ys) (add_all xs ys h.1)
    where
      go : (b : Bool) → member same x (xs ++ ys) ≡ (b || member same x ys) → length (different same (xs ++ ys)) ≡ length (different same xs) + length (different same ys) →
          length (cond (member same x (xs ++ ys)) (different same (xs ++ ys)) (x ∷ different same (xs ++ ys))) ≡ length (cond b (different same xs) (x ∷ different same xs)) + length (different same ys)
      go true e r = rw e r
      go false e r = rw (e ∙ h.0) (omega (arith, r))

  -- there are no more different elements than elements
  pub different_most : (xs : List A) → length (different same xs) ≤ length xs
  unfolding different
  different_most [] = omega arith
  different_most (x ∷ xs) = go (member same x xs) (different_most xs)
    where
      go : (b : Bool) → length (different same xs) ≤ length xs → length (cond b (different same xs) (x ∷ different same xs)) ≤ suc (length xs)
      go true l = omega arith
      go false l = omega arith

pub all_members : (xs : List ℕ) → All (λ x. member eqb x xs ≡ true) xs
unfolding member
all_members [] = tt
all_members (x ∷ xs) = (ap (λ (b : Bool). b || member eqb x xs) (eq-eqb x x refl), all_map xs (all_members xs) (λ y e. ap (λ (b : Bool). eqb y x || b) e ∙ or-true (eqb y x)))

-- the values of a function on a range
module _ {A : Type 0} (same : A → A → Bool) (f : ℕ → A) (x : A) where
  pub member_range : (from n : ℕ) → member same x (map f (range from n)) ≡ true → (a : ℕ) × (from ≤ a) × (a < from + n) × (same x (f a) ≡ true)
  unfolding member range
  member_range from zero e = absurd (true≢false (sym e))
  member_range from (suc n) e =
      or_cases (same x (f from)) (member same x (map f (range (suc from) n))) e (λ h. (from, omega arith, omega arith, h))
      (λ h. let r = member_range (suc from) n h in (r.0, omega (arith, r.1), omega (arith, r.2), r.3))

  pub range_member : (from n a : ℕ) → from ≤ a → a < from + n → same x (f a) ≡ true → member same x (map f (range from n)) ≡ true
  unfolding member range
  range_member from zero a l u e = absurd (omega arith)
  range_member from (suc n) a l u e = go (dec_lt from a) (λ h. range_member (suc from) n a h (omega arith) e)
    where
      go : Dec (from < a) → (suc from ≤ a → member same x (map f (range (suc from) n)) ≡ true) → (same x (f from) || member same x (map f (range (suc from) n))) ≡ true
      go (yes h) r = or_right (same x (f from)) _ (r h)
      go (no h) r = let q : a ≡ from = omega arith in or_left (same x (f from)) _ (ap (λ (b : ℕ). same x (f b)) (sym q) ∙ e)

-- lists f x of c different elements each, where each element of f x is in f z exactly if x and z are the same
module _ {A B : Type 0} (same : A → A → Bool) (alike : B → B → Bool) (f : A → List B) (P : A → Type 0)
    (shared : (x z : A) → P x → P z → All (λ y. member alike y (f z) ≡ same x z) (f x)) where
  shared_all : (x : A) (zs : List A) → P x → All P zs → All (λ y. member alike y (flat_map f zs) ≡ member same x zs) (f x)
  unfolding member flat_map
  shared_all x [] p ps = everywhere (f x) (λ y. refl)
  shared_all x (z ∷ zs) p ps =
      all_map₂ (f x) (shared x z p ps.0) (shared_all x zs p ps.1) (λ y e r. member_append alike y (f z) (flat_map f zs) ∙ (λ i. e i || r i))

  pub flat_different : (c : ℕ) → ((x : A) → length (different alike (f x)) ≡ c) → (xs : List A) → All P xs → length (different alike (flat_map f xs)) ≡ length (different same xs) * c
  unfolding different flat_map
  flat_different c own [] h = sym (zero-mul c)
  flat_different c own (x ∷ xs) h = go (member same x xs) (shared_all x xs h.0 h.1) (flat_different c own xs h.1)
    where
      go : (t : Bool) → All (λ y. member alike y (flat_map f xs) ≡ t) (f x) → length (different alike (flat_map f xs)) ≡ length (different same xs) * c →
          length (different alike (f x ++ flat_map f xs)) ≡ length (cond t (different same xs) (x ∷ different same xs)) * c
      go true a r = ap length (add_none alike (f x) (flat_map f xs) a) ∙ r
      go false a r = add_all alike (f x) (flat_map f xs) a ∙ omega (arith, own x, r, suc-mul (length (different same xs)) c)
