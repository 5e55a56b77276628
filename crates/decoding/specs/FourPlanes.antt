-- THE NEAREST POLYNOMIAL OVER FOUR WORDS (02, CR 11 and 14): at points of the first field a polynomial over a + bX + cX² + dX³ is four polynomials over the first
-- field. Where it differs from a table in at most e points, each of the four differs from its plane of the table in at most e points: so four candidates of the
-- one-word decoder, put together, are the only candidate, and one count over the elements decides. Over any field with the laws, and any δ.
use Rattle.std.specs.Prelude.{ℕ, zero, suc, ◌+◌, ◌*◌, ◌≤◌, ◌<◌, ◌≡◌, Bool, true, false, not, ◌&&◌, length, get_or}
use Rattle.std.proofs.Common.{arith, sym, ap₂, ◌∙◌}
use Rattle.std.proofs.Math.Path.{refl, ap}
use mathlib.Core.List.{List, [], ◌∷◌, map, zip_with}
use Rattle.std.proofs.Math.Option.{Option, none, some}
use Rattle.std.proofs.lemmas.List.{length-map}
use Rattle.definition.specs.Field.{Field, Quad, embed, quads, quartic}
use Rattle.definition.specs.Lists.{range}
use Rattle.definition.specs.Polynomial.{evaluate}
use Rattle.nearest_definition.specs.Nearest.{all_true}
use Rattle.list_laws.specs.All.{everywhere, map_all}
use Rattle.list_laws.specs.Booleans.{some≢none}
use Rattle.list_laws.specs.Lists.{map_range_suc}
use Rattle.algebra.specs.Laws.{FieldLaws}
use Rattle.algebra.specs.Coefficients.{Elements}
use Rattle.algebra.specs.Planes.{evaluate_planes}
use Rattle.decoding.specs.Errors.{wrong_at, wrong_tests}
use Rattle.decoding.specs.AllTrue.{count_weaker, zip_map_left}

-- four lists as one of elements of four words
abbrev pub joined : {A : Type 0} → List A → List A → List A → List A → List (Quad A)
joined [] fb fc fd = []
joined (a ∷ fa) [] fc fd = []
joined (a ∷ fa) (b ∷ fb) [] fd = []
joined (a ∷ fa) (b ∷ fb) (c ∷ fc) [] = []
joined (a ∷ fa) (b ∷ fb) (c ∷ fc) (d ∷ fd) = record { a = a; b = b; c = c; d = d } ∷ joined fa fb fc fd

pub joined_planes : {A : Type 0} (f : List (Quad A)) → joined (map (λ q. q.a) f) (map (λ q. q.b) f) (map (λ q. q.c) f) (map (λ q. q.d) f) ≡ f
joined_planes [] = refl
joined_planes {A} (q ∷ f) = ap (λ (r : List (Quad A)). q ∷ r) (joined_planes f)

-- all four candidates, or none
abbrev pub together : {A : Type 0} → Option (List A) → Option (List A) → Option (List A) → Option (List A) → Option (List (Quad A))
together (some a) (some b) (some c) (some d) = some (joined a b c d)
together none b c d = none
together (some a) none c d = none
together (some a) (some b) none d = none
together (some a) (some b) (some c) none = none

-- ---- the planes of words: word k of each element is part k of the elements that the words spell

abbrev pub part : {A : Type 0} → ℕ → Quad A → A
part zero q = q.a
part (suc zero) q = q.b
part (suc (suc zero)) q = q.c
part (suc (suc (suc k))) q = q.d

first_word : (k : ℕ) → k < 4 → (a b c d : ℕ) (w : List ℕ) → get_or (a ∷ b ∷ c ∷ d ∷ w) k 0 ≡ part k (record { a = a; b = b; c = c; d = d })
first_word zero h a b c d w = refl
first_word (suc zero) h a b c d w = refl
first_word (suc (suc zero)) h a b c d w = refl
first_word (suc (suc (suc zero))) h a b c d w = refl
first_word (suc (suc (suc (suc k)))) h a b c d w = absurd (omega arith)

pub plane_of : (k : ℕ) → k < 4 → (n : ℕ) (w : List ℕ) → length w ≡ 4 * n → map (λ i. get_or w (4 * i + k) 0) (range 0 n) ≡ map (part k) (quads w)
unfolding range quads
plane_of k h zero [] e = refl
plane_of k h zero (a ∷ w) e = absurd (omega arith)
plane_of k h (suc n) [] e = absurd (omega arith)
plane_of k h (suc n) (a ∷ []) e = absurd (omega arith)
plane_of k h (suc n) (a ∷ b ∷ []) e = absurd (omega arith)
plane_of k h (suc n) (a ∷ b ∷ c ∷ []) e = absurd (omega arith)
plane_of k h (suc n) (a ∷ b ∷ c ∷ d ∷ w) e =
    let u : 4 * 0 + k ≡ k = omega arith in
    ap₂ (λ (x : ℕ) (xs : List ℕ). x ∷ xs) (ap (λ (m : ℕ). get_or (a ∷ b ∷ c ∷ d ∷ w) m 0) u ∙ first_word k h a b c d w)
    (map_range_suc (λ i. get_or (a ∷ b ∷ c ∷ d ∷ w) (4 * i + k) 0) 0 n
    ∙ map_all (λ i. Unit {0}) (λ i. get_or (a ∷ b ∷ c ∷ d ∷ w) (4 * suc i + k) 0) (λ i. get_or w (4 * i + k) 0) (range 0 n) (everywhere (range 0 n) (λ i. tt)) (λ i _. further i)
    ∙ plane_of k h n w (omega arith))
  where
    further : (i : ℕ) → get_or (a ∷ b ∷ c ∷ d ∷ w) (4 * suc i + k) 0 ≡ get_or w (4 * i + k) 0
    further i = let z : 4 * suc i + k ≡ suc (suc (suc (suc (4 * i + k)))) = omega arith in ap (λ (m : ℕ). get_or (a ∷ b ∷ c ∷ d ∷ w) m 0) z

module _ {A : Type 0} (F : Field A) (L : FieldLaws F) (δ : A) where
  infixl 65 ◌⊕◌
  open F use {𝟘, ◌⊕◌, equal}

  abbrev Q : Field (Quad A)
  Q = quartic F δ

  -- ---- a wrong plane is a wrong element

  element_test : (f : List (Quad A)) (x : A) (y : Quad A) → Q.equal (evaluate Q f (embed F x)) y
      ≡ (equal (evaluate F (map (λ q. q.a) f) x) y.a && equal (evaluate F (map (λ q. q.b) f) x) y.b
      && equal (evaluate F (map (λ q. q.c) f) x) y.c && equal (evaluate F (map (λ q. q.d) f) x) y.d)
  unfolding quartic
  element_test f x y = ap (λ (v : Quad A). Q.equal v y) (evaluate_planes F L δ f x)

  same : false ≡ true → ⊥
  same z = let y : ◌≡◌ {A = ℕ} 0 1 = cc in omega arith

  wrong_a : (a b c d : Bool) → not a ≡ true → not (a && b && c && d) ≡ true
  wrong_a true b c d e = absurd (same e)
  wrong_a false b c d e = refl

  wrong_b : (a b c d : Bool) → not b ≡ true → not (a && b && c && d) ≡ true
  wrong_b true true c d e = absurd (same e)
  wrong_b true false c d e = refl
  wrong_b false b c d e = refl

  wrong_c : (a b c d : Bool) → not c ≡ true → not (a && b && c && d) ≡ true
  wrong_c true true true d e = absurd (same e)
  wrong_c true true false d e = refl
  wrong_c true false c d e = refl
  wrong_c false b c d e = refl

  wrong_d : (a b c d : Bool) → not d ≡ true → not (a && b && c && d) ≡ true
  wrong_d true true true true e = absurd (same e)
  wrong_d true true true false e = refl
  wrong_d true true false d e = refl
  wrong_d true false c d e = refl
  wrong_d false b c d e = refl

  -- the tests of the elements, point by point, by the points of the first field
  element_tests : (f : List (Quad A)) (xs : List A) (ys : List (Quad A)) →
      wrong_at Q (map (embed F) xs) ys f ≡ all_true 0 (zip_with (λ x y. not (Q.equal (evaluate Q f (embed F x)) y)) xs ys)
  element_tests f xs ys = wrong_tests Q (map (embed F) xs) ys f ∙ ap (all_true 0) (zip_map_left (λ x y. not (Q.equal (evaluate Q f x) y)) (embed F) xs ys)

  zip_right : (s : A → A → Bool) (g : Quad A → A) (xs : List A) (ys : List (Quad A)) → zip_with s xs (map g ys) ≡ zip_with (λ x y. s x (g y)) xs ys
  unfolding zip_with
  zip_right s g [] ys = refl
  zip_right s g (x ∷ xs) [] = refl
  zip_right s g (x ∷ xs) (y ∷ ys) = ap (λ (r : List Bool). s x (g y) ∷ r) (zip_right s g xs ys)

  -- a plane of f, and of the table
  plane_tests : (part : Quad A → A) (f : List (Quad A)) (xs : List A) (ys : List (Quad A)) →
      wrong_at F xs (map part ys) (map part f) ≡ all_true 0 (zip_with (λ x y. not (equal (evaluate F (map part f) x) (part y))) xs ys)
  plane_tests part f xs ys = wrong_tests F xs (map part ys) (map part f) ∙ ap (all_true 0) (zip_right (λ x y. not (equal (evaluate F (map part f) x) y)) part xs ys)

  module _ (f : List (Quad A)) (xs : List A) (ys : List (Quad A)) where
    -- does the plane agree at x?
    abbrev agrees : (Quad A → A) → A → Quad A → Bool
    agrees part x y = equal (evaluate F (map part f) x) (part y)

    fewer : (part : Quad A → A) → ((x : A) (y : Quad A) → not (equal (evaluate F (map part f) x) (part y)) ≡ true → not (Q.equal (evaluate Q f (embed F x)) y) ≡ true) →
        length (wrong_at F xs (map part ys) (map part f)) ≤ length (wrong_at Q (map (embed F) xs) ys f)
    fewer part w =
        omega (
          arith,
          ap length (plane_tests part f xs ys),
          ap length (element_tests f xs ys),
          count_weaker 0 (λ x y. not (equal (evaluate F (map part f) x) (part y))) (λ x y. not (Q.equal (evaluate Q f (embed F x)) y)) xs ys w,
        )

    -- EACH PLANE IS WRONG IN NO MORE POINTS than the elements are
    pub plane_a : length (wrong_at F xs (map (λ q. q.a) ys) (map (λ q. q.a) f)) ≤ length (wrong_at Q (map (embed F) xs) ys f)
    plane_a = fewer (λ q. q.a) (λ x y e. ap not (element_test f x y) ∙ wrong_a (agrees (λ q. q.a) x y) (agrees (λ q. q.b) x y) (agrees (λ q. q.c) x y) (agrees (λ q. q.d) x y) e)

    pub plane_b : length (wrong_at F xs (map (λ q. q.b) ys) (map (λ q. q.b) f)) ≤ length (wrong_at Q (map (embed F) xs) ys f)
    plane_b = fewer (λ q. q.b) (λ x y e. ap not (element_test f x y) ∙ wrong_b (agrees (λ q. q.a) x y) (agrees (λ q. q.b) x y) (agrees (λ q. q.c) x y) (agrees (λ q. q.d) x y) e)

    pub plane_c : length (wrong_at F xs (map (λ q. q.c) ys) (map (λ q. q.c) f)) ≤ length (wrong_at Q (map (embed F) xs) ys f)
    plane_c = fewer (λ q. q.c) (λ x y e. ap not (element_test f x y) ∙ wrong_c (agrees (λ q. q.a) x y) (agrees (λ q. q.b) x y) (agrees (λ q. q.c) x y) (agrees (λ q. q.d) x y) e)

    pub plane_d : length (wrong_at F xs (map (λ q. q.d) ys) (map (λ q. q.d) f)) ≤ length (wrong_at Q (map (embed F) xs) ys f)
    plane_d = fewer (λ q. q.d) (λ x y e. ap not (element_test f x y) ∙ wrong_d (agrees (λ q. q.a) x y) (agrees (λ q. q.b) x y) (agrees (λ q. q.c) x y) (agrees (λ q. q.d) x y) e)

  -- ---- planes of elements are elements

  module _ (M : FieldLaws (quartic F δ)) where
    plane_elements : (f : List (Quad A)) → Elements Q M f →
        (Elements F L (map (λ q. q.a) f) × Elements F L (map (λ q. q.b) f)) × (Elements F L (map (λ q. q.c) f) × Elements F L (map (λ q. q.d) f))
    unfolding quartic embed
    plane_elements [] h = ((tt, tt), (tt, tt))
    plane_elements (q ∷ f) h =
        let z = M.add_zero q ∙ h.0 in
        let r = plane_elements f h.1 in (
          ((sym (L.add_zero q.a) ∙ ap (λ (v : Quad A). v.a) z, r.0.0), (sym (L.add_zero q.b) ∙ ap (λ (v : Quad A). v.b) z, r.0.1)),
          ((sym (L.add_zero q.c) ∙ ap (λ (v : Quad A). v.c) z, r.1.0), (sym (L.add_zero q.d) ∙ ap (λ (v : Quad A). v.d) z, r.1.1)),
        )

    -- what a candidate is: whatever is near is it
    abbrev pub Candidate : List A → List A → ℕ → ℕ → Option (List A) → Type 0
    Candidate xs ys d e o = (f : List A) → length f ≡ d → Elements F L f → length (wrong_at F xs ys f) ≤ e → o ≡ some f

    -- FOUR CANDIDATES OF THE PLANES ARE THE CANDIDATE OF THE TABLE
    pub four_candidates : (xs : List A) (ys : List (Quad A)) (d e : ℕ) (oa ob oc od : Option (List A)) →
        Candidate xs (map (λ q. q.a) ys) d e oa → Candidate xs (map (λ q. q.b) ys) d e ob → Candidate xs (map (λ q. q.c) ys) d e oc → Candidate xs (map (λ q. q.d) ys) d e od →
        (f : List (Quad A)) → length f ≡ d → Elements Q M f → length (wrong_at Q (map (embed F) xs) ys f) ≤ e → together oa ob oc od ≡ some f
    four_candidates xs ys d e oa ob oc od ha hb hc hd f n h few =
        let r = plane_elements f h in
        let a : oa ≡ some (map (λ q. q.a) f) = ha (map (λ q. q.a) f) (length-map f _ ∙ n) r.0.0 (omega (arith, plane_a f xs ys, few)) in
        let b : ob ≡ some (map (λ q. q.b) f) = hb (map (λ q. q.b) f) (length-map f _ ∙ n) r.0.1 (omega (arith, plane_b f xs ys, few)) in
        let c : oc ≡ some (map (λ q. q.c) f) = hc (map (λ q. q.c) f) (length-map f _ ∙ n) r.1.0 (omega (arith, plane_c f xs ys, few)) in
        let d : od ≡ some (map (λ q. q.d) f) = hd (map (λ q. q.d) f) (length-map f _ ∙ n) r.1.1 (omega (arith, plane_d f xs ys, few)) in
        (λ i. together (a i) (b i) (c i) (d i)) ∙ ap {B = Option (List (Quad A))} some (joined_planes f)

    -- as the code has it: each plane of out is the candidate of that plane of the table,
    pub found_by_planes : (xs : List A) (ys : List (Quad A)) (d e : ℕ) (out : List (Quad A)) → ((k : ℕ) → k < 4 → Candidate xs (map (part k) ys) d e (some (map (part k) out))) →
        (f : List (Quad A)) → length f ≡ d → Elements Q M f → length (wrong_at Q (map (embed F) xs) ys f) ≤ e → out ≡ f
    found_by_planes xs ys d e out h f n ef few =
        some_same (sym (ap {B = Option (List (Quad A))} some (joined_planes out))
        ∙ four_candidates xs ys d e (some (map (λ q. q.a) out)) (some (map (λ q. q.b) out)) (some (map (λ q. q.c) out)) (some (map (λ q. q.d) out))
        (h 0 (omega arith)) (h 1 (omega arith)) (h 2 (omega arith)) (h 3 (omega arith)) f n ef few)
      where
        some_same : {f g : List (Quad A)} → ◌≡◌ {A = Option (List (Quad A))} (some f) (some g) → f ≡ g
        some_same q = cc

    -- or one plane of the table has none, and then nothing is near
    pub none_by_planes : (xs : List A) (ys : List (Quad A)) (d e k : ℕ) → k < 4 → Candidate xs (map (part k) ys) d e none →
        (f : List (Quad A)) → length f ≡ d → Elements Q M f → length (wrong_at Q (map (embed F) xs) ys f) ≤ e → ⊥
    none_by_planes xs ys d e zero u h f n ef few = some≢none _ (sym (h (map (λ q. q.a) f) (length-map f _ ∙ n) (plane_elements f ef).0.0 (omega (arith, plane_a f xs ys, few))))
    none_by_planes xs ys d e (suc zero) u h f n ef few = some≢none _ (sym (h (map (λ q. q.b) f) (length-map f _ ∙ n) (plane_elements f ef).0.1 (omega (arith, plane_b f xs ys, few))))
    none_by_planes xs ys d e (suc (suc zero)) u h f n ef few = some≢none _ (sym (h (map (λ q. q.c) f) (length-map f _ ∙ n) (plane_elements f ef).1.0 (omega (arith, plane_c f xs ys, few))))
    none_by_planes xs ys d e (suc (suc (suc zero))) u h f n ef few = some≢none _ (sym (h (map (λ q. q.d) f) (length-map f _ ∙ n) (plane_elements f ef).1.1 (omega (arith, plane_d f xs ys, few))))
    none_by_planes xs ys d e (suc (suc (suc (suc k)))) u h f n ef few = omega arith
