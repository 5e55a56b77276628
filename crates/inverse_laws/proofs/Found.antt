-- In any field with the laws: where the points are different, and a point is off them, each inverse that interpolation, quotient and fold ask for is found, and
-- what is made of it is the definition's value; so it is of deciding and of the honest prover, where the coins are fair.
use Prim.Native.Nat.{ℕ, ◌<◌}
use Rattle.std.specs.Prelude.{Bool, true, false, ◌↔◌, ◌≡◌, length}
use Rattle.std.proofs.Math.Bool.{cond, not}
use mathlib.Core.List.{List, [], ◌∷◌, ◌++◌, map, map-map}
use Rattle.std.proofs.Math.Option.{Option, none, some}
use Rattle.std.proofs.Math.Path.{refl, ap}
use Rattle.std.proofs.Common.{sym, ◌∙◌, subst}
use Rattle.std.proofs.Math.ListN.{get_or}
use Rattle.definition.specs.Deciding.{Decision, Function, Place, answers, decide, decide_final, decide_rest, differences, next_function, places_of, table_function, treated}
use Rattle.definition.specs.Domain.{fold_at, point, root_numbers, shift_point}
use Rattle.definition.specs.Field.{Field, reciprocal, where_found}
use Rattle.definition.specs.Lists.{first_true}
use Rattle.definition.specs.Polynomial.{Sample, add_poly, clash, corrected_poly, corrected_value, distinct, evaluate, fold_poly, geometric, interpolate, mul_poly, pair, points, quotient, scale, sub_poly, vanishing}
use Rattle.definition.specs.Prover.{honest, honest_answers, honest_rest, honest_round, next_poly, table_of}
use Rattle.definition.specs.Sheet.{Level, shift_count}
use Rattle.definition.specs.Transcript.{Coins, Rest, Round, RoundCoins, Transcript, final, round}
use Rattle.definition.specs.Verdict.{refuse_at, refused}
use Rattle.list_laws.specs.All.{All, all_map, all_places, at_place, everywhere}
use Rattle.list_laws.specs.Booleans.{some≢none}
use Rattle.algebra.specs.Different.{Apart, Differ}
use Rattle.algebra.specs.Division.{vanishing_roots}
use Rattle.algebra.specs.Divisors.{vanishing_differs}
use Rattle.algebra.specs.Laws.{FieldLaws}
use Rattle.completeness.specs.DecidingAccepts.{Admissible, Foldable}
use Rattle.completeness.proofs.Divisors as completeness
use Rattle.completeness.proofs.Divisors.{FairRest, Found}
use Rattle.completeness.specs.Numbered.{divisors}
use Rattle.completeness.specs.RoundPolynomials
use Rattle.inverse_laws.specs.TakenApart.{all_found, and_then, answers_found, corrected_poly_found, corrected_value_found, decide_final_found, decide_found, decide_rest_found, differences_found, fold_at_found, honest_found, honest_rest_found, interpolate_found, next_function_found, next_poly_found, table_function_found}

-- each answer is found, and so are all
all_found_lem : {A B : Type 0} (o : A → Option B) (f : A → B) (xs : List A) → All (λ x. o x ≡ some (f x)) xs → all_found (map o xs) ≡ some (map f xs)
unfolding all_found and_then where_found
all_found_lem o f [] h = refl
all_found_lem o f (x ∷ xs) h = λ i. and_then (h.0 i) (λ y. where_found (λ ys. y ∷ ys) (all_found_lem o f xs h.1 i))

cond_found : {A : Type 0} (b : Bool) (x y : A) → cond b (some x) (some y) ≡ some (cond b x y)
cond_found true x y = refl
cond_found false x y = refl

-- what is answered is found only where what it is made of is, and none where the last of two answers is none
and_then_found : {A B : Type 0} (o : Option A) (f : A → Option B) (y : B) → and_then o f ≡ some y → (x : A) × (o ≡ some x) × (f x ≡ some y)
unfolding and_then
and_then_found none f y e = absurd (some≢none y (sym e))
and_then_found (some x) f y e = (x, refl, e)

and_then_none : {A B : Type 0} (o : Option A) → and_then {A = A} {B = B} o (λ x. none) ≡ none
unfolding and_then
and_then_none none = refl
and_then_none (some x) = refl

-- Without the laws: interpolation is found exactly where each of its divisors has an inverse.
module _ {A : Type 0} (F : Field A) where
  infixl 65 ◌⊖◌
  infixl 70 ◌⊗◌
  open F use {𝟘, ◌⊖◌, ◌⊗◌, inverse}

  there : (samples : List (Sample A)) → All (Found F) (divisors F samples) → (q : List A) × (interpolate_found F samples ≡ some q)
  unfolding divisors interpolate_found and_then
  there [] h = ([], refl)
  there (s ∷ samples) h =
      let t = there samples h.1 in (
        add_poly F t.0 (scale F ((s.value ⊖ evaluate F t.0 s.point) ⊗ h.0.0) (vanishing F (points samples))),
        (λ i. and_then (t.1 i) (λ q. and_then (h.0.1 i) (λ u. some (add_poly F q (scale F ((s.value ⊖ evaluate F q s.point) ⊗ u) (vanishing F (points samples))))))),
      )

  divided : (samples : List (Sample A)) (q : List A) → interpolate_found F samples ≡ some q → All (Found F) (divisors F samples)
  unfolding divisors interpolate_found
  divided [] q e = tt
  divided (s ∷ samples) q e =
      let a = and_then_found (interpolate_found F samples) _ q e in
      let b = and_then_found (inverse (evaluate F (vanishing F (points samples)) s.point)) _ q a.2 in
      ((b.0, b.1), divided samples a.0 a.1)

  pub divisors_exactly : (samples : List (Sample A)) → ((q : List A) × (interpolate_found F samples ≡ some q)) ↔
      ((j : ℕ) → j < length (divisors F samples) → (u : A) × (inverse (get_or (divisors F samples) j 𝟘) ≡ some u))
  divisors_exactly samples = (
    λ t. at_place (Found F) (divisors F samples) 𝟘 (divided samples t.0 t.1),
    λ h. there samples (all_places (Found F) (divisors F samples) 𝟘 h),
  )

module _ {A : Type 0} (F : Field A) (L : FieldLaws F) where
  infixl 65 ◌⊖◌
  infixl 70 ◌⊗◌
  open F use {𝟘, ◌⊖◌, ◌⊗◌, inverse, equal}

  -- V off its points
  off_found : (xs : List A) (x : A) → All (λ a. Differ F x a) xs → inverse (evaluate F (vanishing F xs) x) ≡ some (reciprocal F (evaluate F (vanishing F xs) x))
  off_found xs x h = L.inverse_found _ (vanishing_differs F L xs x h)

  pub interpolate_found_lem : (samples : List (Sample A)) → Apart F (points samples) → interpolate_found F samples ≡ some (interpolate F samples)
  unfolding interpolate_found interpolate and_then points
  interpolate_found_lem [] h = refl
  interpolate_found_lem (s ∷ samples) h = λ i.
      and_then (interpolate_found_lem samples h.1 i) (λ q. and_then (off_found (points samples) s.point h.0 i) (λ u.
      some (add_poly F q (scale F ((s.value ⊖ evaluate F q s.point) ⊗ u) (vanishing F (points samples))))))

  pub corrected_value_found_lem : (g : List (Sample A)) (c x y : A) → Apart F (points g) → All (λ a. Differ F x a) (points g) → corrected_value_found F g c x y ≡ some (corrected_value F g c x y)
  unfolding corrected_value_found corrected_value and_then
  corrected_value_found_lem g c x y apart off = λ i.
      and_then (interpolate_found_lem g apart i) (λ q. and_then (off_found (points g) x off i) (λ u. some ((y ⊖ evaluate F q x) ⊗ u ⊗ evaluate F (geometric F c (length g)) x)))

  -- at one of its points V has no inverse
  on_none : (xs : List A) → All (λ x. inverse (evaluate F (vanishing F xs) x) ≡ none) xs
  on_none xs = all_map xs (vanishing_roots F L xs) (λ x e. ap inverse e ∙ L.inverse_none 𝟘 L.reduce_zero)

  pub interpolate_none : (samples : List (Sample A)) (y : A) (j : ℕ) → j < length (points samples) →
      interpolate_found F (record { point = get_or (points samples) j 𝟘; value = y } ∷ samples) ≡ none
  unfolding interpolate_found and_then
  interpolate_none samples y j l =
      (λ i. and_then (interpolate_found F samples) (λ q. and_then (at_place _ (points samples) 𝟘 (on_none (points samples)) j l i) (λ u.
      some (add_poly F q (scale F ((y ⊖ evaluate F q (get_or (points samples) j 𝟘)) ⊗ u) (vanishing F (points samples)))))))
      ∙ and_then_none (interpolate_found F samples)

  pub corrected_value_none : (g : List (Sample A)) (c y : A) (j : ℕ) → j < length (points g) → corrected_value_found F g c (get_or (points g) j 𝟘) y ≡ none
  unfolding corrected_value_found and_then
  corrected_value_none g c y j l =
      let x = get_or (points g) j 𝟘 in
      (λ i. and_then (interpolate_found F g) (λ q. and_then (at_place _ (points g) 𝟘 (on_none (points g)) j l i) (λ u. some ((y ⊖ evaluate F q x) ⊗ u ⊗ evaluate F (geometric F c (length g)) x))))
      ∙ and_then_none (interpolate_found F g)

  pub corrected_poly_found_lem : (g : List (Sample A)) (c : A) (f : List A) → Apart F (points g) → corrected_poly_found F g c f ≡ some (corrected_poly F g c f)
  unfolding corrected_poly_found corrected_poly where_found
  corrected_poly_found_lem g c f apart = λ i. where_found (λ q. mul_poly F (quotient F (sub_poly F f q) (points g)) (geometric F c (length g))) (interpolate_found_lem g apart i)

  module _ (ω : A) where
    -- the function o answers f at each root of the shift point
    fold_of_found : (b : Level) (o : ℕ → Option A) (f : ℕ → A) (r : A) (j : ℕ) → Apart F (map (point F ω b) (root_numbers b j)) → All (λ m. o m ≡ some (f m)) (root_numbers b j) →
        fold_at_found F ω b o r j ≡ some (fold_at F ω b f r j)
    unfolding fold_at_found fold_at and_then where_found points
    fold_of_found b o f r j apart h =
        let sample : ℕ → Sample A = λ m. record { point = point F ω b m; value = f m } in
        let samples = map sample (root_numbers b j) in
        ap (λ (s : Option (List (Sample A))). and_then s (λ t. where_found (λ q. evaluate F q r) (interpolate_found F t)))
        (all_found_lem (λ m. where_found {B = Sample A} (λ y. record { point = point F ω b m; value = y }) (o m)) sample (root_numbers b j)
        (all_map (root_numbers b j) h (λ m e. ap (where_found {B = Sample A} (λ y. record { point = point F ω b m; value = y })) e)))
        ∙ ap (where_found (λ q. evaluate F q r)) (interpolate_found_lem samples (subst (Apart F) (sym (map-map {B = Sample A} (λ p. p.point) sample (root_numbers b j))) apart))

    pub fold_found : (b : Level) (f : ℕ → A) (r : A) (j : ℕ) → Apart F (map (point F ω b) (root_numbers b j)) → fold_at_found F ω b (λ m. some (f m)) r j ≡ some (fold_at F ω b f r j)
    fold_found b f r j apart = fold_of_found b (λ m. some (f m)) f r j apart (everywhere (root_numbers b j) (λ m. refl))

    -- at a level: o answers f on the whole domain, and the indices are in range
    module _ (b : Level) (ok : Foldable F ω b) (o : ℕ → Option A) (f : ℕ → A) (h : (m : ℕ) → m < b.size → o m ≡ some (f m)) (r : A) where
      index_found : (j : ℕ) → j < shift_count b → fold_at_found F ω b o r j ≡ some (fold_at F ω b f r j)
      index_found j l = fold_of_found b o f r j (ok.roots_apart j l) (all_map (root_numbers b j) (ok.roots_below j l) h)

      answers_found_lem : (ρ : Round A) → All (λ j. j < shift_count b) ρ.coins.shifts → answers_found F ω b o r ρ ≡ some (answers F ω b f r ρ)
      unfolding answers_found answers where_found
      answers_found_lem ρ inside =
          ap (where_found (λ folds. pair ρ.coins.outs ρ.replies ++ folds))
          (all_found_lem {B = Sample A} (λ j. where_found (λ y. record { point = shift_point F ω b j; value = y }) (fold_at_found F ω b o r j)) (λ j. record { point = shift_point F ω b j; value = fold_at F ω b f r j }) ρ.coins.shifts
          (all_map ρ.coins.shifts inside (λ j l. ap (where_found {B = Sample A} (λ y. record { point = shift_point F ω b j; value = y })) (index_found j l))))

      differences_found_lem : (coefficients : List A) (js : List ℕ) → All (λ j. j < shift_count b) js → differences_found F ω b o r coefficients js ≡ some (differences F ω b f r coefficients js)
      unfolding differences_found differences where_found
      differences_found_lem coefficients js inside =
          all_found_lem (λ j. where_found (λ y. not (equal (evaluate F coefficients (shift_point F ω b j)) y)) (fold_at_found F ω b o r j)) _ js
          (all_map js inside (λ j l. ap (where_found (λ y. not (equal (evaluate F coefficients (shift_point F ω b j)) y))) (index_found j l)))

    -- round by round
    rest_found : (b : Level) (rest : Rest A) → FairRest F L ω b rest → (o : Function (Option A)) (f : ℕ → A) → ((m : ℕ) → m < b.size → o.value m ≡ some (f m)) →
        (r : A) (used : List Place) → decide_rest_found F ω b o r used rest ≡ some (decide_rest F ω b (record { value = f; places = o.places }) r used rest)
    unfolding decide_rest_found decide_rest decide_final_found decide_final and_then next_function_found next_function
    rest_found b (final coefficients js) fair o f h r used =
        ap (λ (s : Option (List Bool)). and_then s (λ differ. some (record { outcome = refuse_at 9 (first_true 0 differ); used = used ++ places_of b o.places (treated js (first_true 0 differ)) })))
        (differences_found_lem b fair.0 o.value f h r coefficients js fair.1)
    rest_found b (round ρ rest) fair o f h r used =
        let c = ρ.coins in
        let g = answers F ω b f r ρ in
        let now = used ++ places_of b o.places c.shifts in
        let clashed : Decision = record { outcome = refused 8 c.level.number; used = now } in
        let next = decide_rest F ω c.level (next_function F ω (distinct F g) ρ) c.fold now rest in
        ap (λ (s : Option (List (Sample A))). and_then s (λ t. cond (clash F t) (some clashed) (decide_rest_found F ω c.level (next_function_found F ω (distinct F t) ρ) c.fold now rest)))
        (answers_found_lem b fair.0 o.value f h r ρ fair.1.indices)
        ∙ ap (cond (clash F g) (some clashed))
        (rest_found c.level rest fair.2 (next_function_found F ω (distinct F g) ρ) (next_function F ω (distinct F g) ρ).value
        (λ m l. corrected_value_found_lem (distinct F g) c.combination (point F ω c.level m) (get_or ρ.table m 𝟘)
        (completeness.samples_apart F L ω b f r ρ fair.1.elements) (completeness.samples_off F L ω b f r ρ (point F ω c.level m) (fair.1.off m l))) c.fold now)
        ∙ cond_found (clash F g) clashed next

    pub decide_found_lem : (first : Level) (τ : Transcript A) → FairRest F L ω first τ.rest → decide_found F ω first τ ≡ some (decide F ω first τ)
    unfolding decide_found decide table_function_found table_function
    decide_found_lem first τ fair = rest_found first τ.rest fair (table_function_found F ω first τ.table) (λ j. get_or τ.table j 𝟘) (λ m l. refl) τ.fold []

    -- the honest prover
    honest_rest_found_lem : (b : Level) (f : List A) (r : A) (cs : List (RoundCoins A)) (js : List ℕ) → Admissible F L ω b cs js → honest_rest_found F ω b f r cs js ≡ some (honest_rest F ω b f r cs js)
    unfolding honest_rest_found honest_rest next_poly_found next_poly and_then where_found
    honest_rest_found_lem b f r [] js fair = refl
    honest_rest_found_lem b f r (c ∷ cs) js fair =
        let g = fold_poly F b.fold r f in
        ap (λ (s : Option (List A)). and_then s (λ next. where_found (round (honest_round F ω g c)) (honest_rest_found F ω c.level next c.fold cs js)))
        (corrected_poly_found_lem (distinct F (honest_answers F ω b g c)) c.combination g (RoundPolynomials.samples_apart F L ω b g c fair.0))
        ∙ ap (where_found (round (honest_round F ω g c))) (honest_rest_found_lem c.level (next_poly F ω b g c) c.fold cs js fair.1)

    pub honest_found_lem : (first : Level) (f : List A) (c : Coins A) → Admissible F L ω first c.rounds c.finals → honest_found F ω first f c ≡ some (honest F ω first f c)
    unfolding honest_found honest where_found
    honest_found_lem first f c fair =
        ap (where_found {B = Transcript A} (λ rest. record { table = table_of F ω first f; fold = c.fold; rest = rest })) (honest_rest_found_lem first f c.fold c.rounds c.finals fair)
