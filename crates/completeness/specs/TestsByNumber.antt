-- What the definition's tests on lists find, by place: a word that fails its test, a point in a list, two pairs that clash.
use Prim.Native.Nat.{ℕ, zero, suc, ◌≤◌, ◌<◌}
use Rattle.std.proofs.Math.Decide.{dec_lt}
use native.Mathlib.Omega.{arith}
use Rattle.std.specs.Prelude.{Bool, true, false, ◌&&◌, ◌≡◌, eqb, length, get_or}
use Rattle.std.proofs.Math.Bool.{not}
use Rattle.std.proofs.Common.{true≢false, sym, ◌∙◌, ne_eqb}
use mathlib.Core.List.{List, [], ◌∷◌, zip_with}
use Rattle.std.proofs.Math.Path.{refl, ap}
use Rattle.std.proofs.lemmas.Bool.{eqb-false, not-true}
use Rattle.definition.specs.Domain.{domain, in_domain, point}
use Rattle.definition.specs.Field.{Field}
use Rattle.definition.specs.Polynomial.{Sample, clash, contradicts}
use Rattle.definition.specs.Sheet.{Level}
use Rattle.list_laws.specs.Booleans.{and_true, or_cases, or_left, or_right}
use Rattle.list_laws.specs.Members.{member_range, range_member}
use Rattle.algebra.specs.Laws.{FieldLaws}

-- a comparison that fails
pub differ : (a b : ℕ) → not (eqb a b) ≡ true → a ≡ b → ⊥
differ a b e = eqb-false a b (not-true (eqb a b) e)

pub differs : (a b : ℕ) → (a ≡ b → ⊥) → not (eqb a b) ≡ true
differs a b h = ap not (ne_eqb a b h)

-- two lists tested place by place, the second no shorter
module _ {A B : Type 0} (t : A → B → Bool) (d : A) (e : B) where
  pub zip_length : (ks : List A) (v : List B) → length ks ≤ length v → length (zip_with t ks v) ≡ length ks
  unfolding zip_with
  zip_length [] v l = refl
  zip_length (k ∷ ks) [] l = absurd (omega arith)
  zip_length (k ∷ ks) (x ∷ v) l = ap suc (zip_length ks v (omega arith))

  pub zip_at : (ks : List A) (v : List B) (j : ℕ) → j < length ks → length ks ≤ length v → get_or (zip_with t ks v) j false ≡ t (get_or ks j d) (get_or v j e)
  unfolding zip_with
  zip_at [] v j h l = absurd (omega arith)
  zip_at (k ∷ ks) [] j h l = absurd (omega arith)
  zip_at (k ∷ ks) (x ∷ v) zero h l = refl
  zip_at (k ∷ ks) (x ∷ v) (suc j) h l = zip_at ks v j (omega arith) (omega arith)

-- the field's own comparison
module _ {A : Type 0} (F : Field A) (L : FieldLaws F) where
  pub equal_same : (x y : A) → x ≡ y → F.equal x y ≡ true
  equal_same x y e = ap (F.equal x) (sym e) ∙ L.equal_refl x

  pub equal_false : (x y : A) → F.equal x y ≡ false → x ≡ y → ⊥
  equal_false x y e q = true≢false (sym (equal_same x y q) ∙ e)

  pub unequal : (x y : A) → (x ≡ y → ⊥) → F.equal x y ≡ false
  unequal x y h = go (F.equal x y) refl
    where
      go : (b : Bool) → F.equal x y ≡ b → b ≡ false
      go true e = absurd (h (L.equal_true x y e))
      go false e = refl

  pub element_differ : (a b : A) → not (F.equal a b) ≡ true → a ≡ b → ⊥
  element_differ a b e = equal_false a b (not-true (F.equal a b) e)

  pub element_differs : (a b : A) → (a ≡ b → ⊥) → not (F.equal a b) ≡ true
  element_differs a b h = ap not (unequal a b h)

module _ {A : Type 0} (F : Field A) (L : FieldLaws F) (ω : A) where
  -- the domain's points by number
  pub domain_point : (l : Level) (x : A) → in_domain F ω l x ≡ true → (m : ℕ) × (m < l.size) × (x ≡ point F ω l m)
  unfolding in_domain domain
  domain_point l x e = let r = member_range F.equal (point F ω l) x 0 l.size e in (r.0, omega (arith, r.2), L.equal_true x (point F ω l r.0) r.3)

  pub point_inside : (l : Level) (m : ℕ) (x : A) → m < l.size → x ≡ point F ω l m → in_domain F ω l x ≡ true
  unfolding in_domain domain
  point_inside l m x h e = range_member F.equal (point F ω l) x 0 l.size m (omega arith) (omega arith) (equal_same F L x (point F ω l m) e)

  -- pairs with equal points and different values
  abbrev Clashing : Sample A → Sample A → Type 0
  Clashing s t = (s.point ≡ t.point) × (s.value ≡ t.value → ⊥)

  clashing : (s t : Sample A) → (F.equal s.point t.point && not (F.equal s.value t.value)) ≡ true → Clashing s t
  clashing s t e = let h = and_true (F.equal s.point t.point) _ e in (L.equal_true s.point t.point h.0, element_differ F L s.value t.value h.1)

  clash_test : (s t : Sample A) → Clashing s t → (F.equal s.point t.point && not (F.equal s.value t.value)) ≡ true
  clash_test s t h = λ i. equal_same F L s.point t.point h.0 i && element_differs F L s.value t.value h.1 i

  module _ (d : Sample A) where
    contradiction : (s : Sample A) (xs : List (Sample A)) → contradicts F s xs ≡ true → (b : ℕ) × (b < length xs) × Clashing s (get_or xs b d)
    unfolding contradicts
    contradiction s [] e = absurd (true≢false (sym e))
    contradiction s (t ∷ xs) e =
        or_cases (F.equal s.point t.point && not (F.equal s.value t.value)) (contradicts F s xs) e
        (λ h. (0, omega arith, clashing s t h)) (λ h. let r = contradiction s xs h in (suc r.0, omega (arith, r.1), r.2))

    contradicted : (s : Sample A) (xs : List (Sample A)) (b : ℕ) → b < length xs → Clashing s (get_or xs b d) → contradicts F s xs ≡ true
    unfolding contradicts
    contradicted s [] b l h = absurd (omega arith)
    contradicted s (t ∷ xs) zero l h = or_left _ (contradicts F s xs) (clash_test s t h)
    contradicted s (t ∷ xs) (suc b) l h = or_right (F.equal s.point t.point && not (F.equal s.value t.value)) _ (contradicted s xs b (omega arith) h)

    pub clash_found : (xs : List (Sample A)) → clash F xs ≡ true → (a : ℕ) × (b : ℕ) × (a < length xs) × (b < length xs) × Clashing (get_or xs a d) (get_or xs b d)
    unfolding clash
    clash_found [] e = absurd (true≢false (sym e))
    clash_found (s ∷ xs) e =
        or_cases (contradicts F s xs) (clash F xs) e (λ h. let r = contradiction s xs h in (0, suc r.0, omega arith, omega (arith, r.1), r.2))
        (λ h. let r = clash_found xs h in (suc r.0, suc r.1, omega (arith, r.2), omega (arith, r.3), r.4))

    clash_later : (xs : List (Sample A)) (a b : ℕ) → a < b → b < length xs → Clashing (get_or xs a d) (get_or xs b d) → clash F xs ≡ true
    unfolding clash
    clash_later [] a b l u h = absurd (omega arith)
    clash_later (s ∷ xs) zero zero l u h = absurd (omega arith)
    clash_later (s ∷ xs) zero (suc b) l u h = or_left _ (clash F xs) (contradicted s xs b (omega arith) h)
    clash_later (s ∷ xs) (suc a) zero l u h = absurd (omega arith)
    clash_later (s ∷ xs) (suc a) (suc b) l u h = or_right (contradicts F s xs) _ (clash_later xs a b (omega arith) (omega arith) h)

    -- any two places at which equal points have not equal values
    pub clash_there : (xs : List (Sample A)) (a b : ℕ) → a < length xs → b < length xs →
        (((get_or xs a d).point ≡ (get_or xs b d).point → (get_or xs a d).value ≡ (get_or xs b d).value) → ⊥) → clash F xs ≡ true
    clash_there xs a b la lb h = go (dec_lt a b) (dec_lt b a) (F.equal (get_or xs a d).point (get_or xs b d).point) refl
      where
        go : Dec (a < b) → Dec (b < a) → (t : Bool) → F.equal (get_or xs a d).point (get_or xs b d).point ≡ t → clash F xs ≡ true
        go u v false e = absurd (h (λ q. absurd (equal_false F L _ _ e q)))
        go (yes u) v true e = clash_later xs a b u lb (L.equal_true _ _ e, λ q. h (λ r. q))
        go (no u) (yes v) true e = clash_later xs b a v la (sym (L.equal_true _ _ e), λ q. h (λ r. sym q))
        go (no u) (no v) true e = let q : a ≡ b = omega arith in absurd (h (λ r. ap (λ (m : ℕ). (get_or xs m d).value) q))
