-- All that verify and prove ask of a field, with 0 for the inverse that is not there and without: they ask for no inverse but by `reciprocal`, which is the same.
-- It holds in any field, of every list, transcript and coin; no law is asked for. Each definition is the same in its turn, as those that it names are.
use Prim.Native.Nat.{ℕ, zero, suc, ◌+◌, ◌*◌, ◌/◌, ◌^◌}
use Rattle.std.proofs.Math.Bool.{cond, not}
use Rattle.std.specs.Prelude.{◌&&◌, ◌||◌, ◌≡◌, length}
use mathlib.Core.List.{List, [], ◌∷◌, ◌++◌, map, tail}
use Rattle.std.proofs.Math.Option.{Option, none, some}
use Rattle.std.proofs.Math.Path.{refl, ap}
use Rattle.std.proofs.Common.{◌∙◌}
use Rattle.std.proofs.Math.ListN.{get_or}
use Rattle.definition.specs.Deciding.{Decision, Function, Place, answers, decide, decide_final, decide_rest, differences, next_function, out_before, out_repeated, own_place, places_of, repeated_outs, same_as, table_function, treated}
use Rattle.definition.specs.Domain.{domain, fold_at, in_domain, point, root_numbers, shift_point}
use Rattle.definition.specs.Field.{Field, found_or, power, reciprocal}
use Rattle.definition.specs.Layout.{Kind, coin, index, message, out}
use Rattle.definition.specs.Lists.{chunks, first_true, member, range}
use Rattle.definition.specs.Polynomial.{Sample, add_poly, clash, contradicts, corrected_poly, corrected_value, distinct, divide, evaluate, fold_poly, geometric, horner, interpolate, mul_poly, pair, points, quotient, sampled_at, scale, sub_poly, vanishing}
use Rattle.definition.specs.Prover.{honest, honest_answers, honest_rest, honest_round, next_poly, samples_of, table_of}
use Rattle.definition.specs.Sheet.{Level}
use Rattle.definition.specs.Transcript.{Rest, RoundCoins, final, round}
use Rattle.definition.specs.Verdict.{refuse_at, refused}
use Rattle.inverse_laws.specs.Before.{zero_for_none}

module _ {A : Type 0} (F : Field A) where
  infixl 65 ◌⊕◌ ◌⊖◌
  infixl 70 ◌⊗◌
  open F use {𝟘, 𝟙, ◌⊕◌, ◌⊖◌, ◌⊗◌, equal}

  abbrev Z : Field A
  Z = zero_for_none F

  pub reciprocal_same : reciprocal Z ≡ reciprocal F
  unfolding zero_for_none reciprocal found_or
  reciprocal_same = refl

  power_at : (x : A) (n : ℕ) → power Z x n ≡ power F x n
  unfolding zero_for_none power
  power_at x zero = refl
  power_at x (suc n) = ap (λ (v : A). x ⊗ v) (power_at x n)

  power_same : power Z ≡ power F
  power_same = λ i x n. power_at x n i

  -- ---- polynomials

  evaluate_at : (f : List A) (x : A) → evaluate Z f x ≡ evaluate F f x
  unfolding zero_for_none evaluate
  evaluate_at [] x = refl
  evaluate_at (c ∷ cs) x = ap (λ (v : A). c ⊕ x ⊗ v) (evaluate_at cs x)

  evaluate_same : evaluate Z ≡ evaluate F
  evaluate_same = λ i f x. evaluate_at f x i

  scale_same : scale Z ≡ scale F
  unfolding zero_for_none scale
  scale_same = refl

  add_at : (f g : List A) → add_poly Z f g ≡ add_poly F f g
  unfolding zero_for_none add_poly
  add_at [] g = refl
  add_at (a ∷ f) [] = refl
  add_at (a ∷ f) (b ∷ g) = ap (λ (h : List A). (a ⊕ b) ∷ h) (add_at f g)

  add_same : add_poly Z ≡ add_poly F
  add_same = λ i f g. add_at f g i

  sub_same : sub_poly Z ≡ sub_poly F
  unfolding zero_for_none sub_poly
  sub_same = λ i f g. add_same i f (scale_same i (𝟘 ⊖ 𝟙) g)

  mul_at : (f g : List A) → mul_poly Z f g ≡ mul_poly F f g
  unfolding zero_for_none mul_poly
  mul_at [] g = refl
  mul_at (a ∷ f) g = λ i. add_same i (scale_same i a g) (𝟘 ∷ mul_at f g i)

  mul_same : mul_poly Z ≡ mul_poly F
  mul_same = λ i f g. mul_at f g i

  vanishing_at : (xs : List A) → vanishing Z xs ≡ vanishing F xs
  unfolding zero_for_none vanishing
  vanishing_at [] = refl
  vanishing_at (a ∷ xs) = λ i. mul_same i ((𝟘 ⊖ a) ∷ 𝟙 ∷ []) (vanishing_at xs i)

  vanishing_same : vanishing Z ≡ vanishing F
  vanishing_same = λ i xs. vanishing_at xs i

  interpolate_at : (samples : List (Sample A)) → interpolate Z samples ≡ interpolate F samples
  unfolding zero_for_none interpolate
  interpolate_at [] = refl
  interpolate_at (s ∷ samples) = λ i.
      add_same i (interpolate_at samples i)
      (scale_same i ((s.value ⊖ evaluate_same i (interpolate_at samples i) s.point) ⊗ reciprocal_same i (evaluate_same i (vanishing_same i (points samples)) s.point))
      (vanishing_same i (points samples)))

  pub interpolate_same : interpolate Z ≡ interpolate F
  interpolate_same = λ i samples. interpolate_at samples i

  horner_at : (a : A) (f : List A) → horner Z a f ≡ horner F a f
  unfolding zero_for_none horner
  horner_at a [] = refl
  horner_at a (c ∷ cs) = ap (λ (q : List A). (c ⊕ a ⊗ get_or q 0 𝟘) ∷ q) (horner_at a cs)

  divide_same : divide Z ≡ divide F
  unfolding divide
  divide_same = λ i f a. horner_at a (tail f) i

  quotient_at : (f xs : List A) → quotient Z f xs ≡ quotient F f xs
  unfolding quotient
  quotient_at f [] = refl
  quotient_at f (a ∷ xs) = quotient_at (divide Z f a) xs ∙ (λ i. quotient F (divide_same i f a) xs)

  quotient_same : quotient Z ≡ quotient F
  quotient_same = λ i f xs. quotient_at f xs i

  geometric_at : (c : A) (e : ℕ) → geometric Z c e ≡ geometric F c e
  unfolding zero_for_none geometric
  geometric_at c zero = refl
  geometric_at c (suc e) = λ i. 𝟙 ∷ scale_same i c (geometric_at c e i)

  geometric_same : geometric Z ≡ geometric F
  geometric_same = λ i c e. geometric_at c e i

  fold_same : fold_poly Z ≡ fold_poly F
  unfolding fold_poly
  fold_same = λ i k r f. map (λ c. evaluate_same i c r) (chunks (length f / k) k f)

  sampled_at_lem : (x : A) (samples : List (Sample A)) → sampled_at Z x samples ≡ sampled_at F x samples
  unfolding zero_for_none sampled_at
  sampled_at_lem x [] = refl
  sampled_at_lem x (s ∷ samples) = λ i. equal x s.point || sampled_at_lem x samples i

  distinct_at : (samples : List (Sample A)) → distinct Z samples ≡ distinct F samples
  unfolding distinct
  distinct_at [] = refl
  distinct_at (s ∷ samples) = λ i. cond (sampled_at_lem s.point samples i) (distinct_at samples i) (s ∷ distinct_at samples i)

  distinct_same : distinct Z ≡ distinct F
  distinct_same = λ i samples. distinct_at samples i

  contradicts_at : (s : Sample A) (samples : List (Sample A)) → contradicts Z s samples ≡ contradicts F s samples
  unfolding zero_for_none contradicts
  contradicts_at s [] = refl
  contradicts_at s (t ∷ samples) = λ i. (equal s.point t.point && not (equal s.value t.value)) || contradicts_at s samples i

  clash_at : (samples : List (Sample A)) → clash Z samples ≡ clash F samples
  unfolding clash
  clash_at [] = refl
  clash_at (s ∷ samples) = λ i. contradicts_at s samples i || clash_at samples i

  clash_same : clash Z ≡ clash F
  clash_same = λ i samples. clash_at samples i

  corrected_value_same : corrected_value Z ≡ corrected_value F
  unfolding zero_for_none corrected_value
  corrected_value_same = λ i g c x y.
      (y ⊖ evaluate_same i (interpolate_same i g) x) ⊗ reciprocal_same i (evaluate_same i (vanishing_same i (points g)) x) ⊗ evaluate_same i (geometric_same i c (length g)) x

  corrected_poly_same : corrected_poly Z ≡ corrected_poly F
  unfolding corrected_poly
  corrected_poly_same = λ i g c f. mul_same i (quotient_same i (sub_same i f (interpolate_same i g)) (points g)) (geometric_same i c (length g))

  -- ---- out coins

  same_as_at : (before : Option A) (x : A) → same_as Z before x ≡ same_as F before x
  unfolding zero_for_none same_as
  same_as_at none x = refl
  same_as_at (some y) x = refl

  repeated_at : (before : Option A) (k : Kind) (x : A) → out_repeated Z before k x ≡ out_repeated F before k x
  unfolding out_repeated
  repeated_at before message x = refl
  repeated_at before coin x = refl
  repeated_at before (out l) x = same_as_at before x
  repeated_at before (index n) x = refl

  pub repeated_outs_same : (before : Option A) (ks : List Kind) (xs : List A) → repeated_outs Z before ks xs ≡ repeated_outs F before ks xs
  unfolding repeated_outs
  repeated_outs_same before [] xs = refl
  repeated_outs_same before (k ∷ ks) [] = refl
  repeated_outs_same before (k ∷ ks) (x ∷ xs) = λ i. repeated_at before k x i ∷ repeated_outs_same (out_before before k x) ks xs i

  -- ---- domains, deciding and the honest prover

  module _ (ω : A) where
    point_same : point Z ω ≡ point F ω
    unfolding point
    point_same = λ i l j. power_same i ω (1 + 2 ^ l.number * j)

    domain_same : domain Z ω ≡ domain F ω
    unfolding domain
    domain_same = λ i l. map (point_same i l) (range 0 l.size)

    pub in_domain_same : in_domain Z ω ≡ in_domain F ω
    unfolding zero_for_none in_domain
    in_domain_same = λ i l x. member equal x (domain_same i l)

    shift_same : shift_point Z ω ≡ shift_point F ω
    unfolding shift_point
    shift_same = λ i l j. power_same i (point_same i l j) l.fold

    fold_at_same : fold_at Z ω ≡ fold_at F ω
    unfolding fold_at
    fold_at_same = λ i l f r j. evaluate_same i (interpolate_same i (map (λ m. record { point = point_same i l m; value = f m }) (root_numbers l j))) r

    answers_same : answers Z ω ≡ answers F ω
    unfolding answers
    answers_same = λ i b f r ρ.
        pair ρ.coins.outs ρ.replies ++ map (λ j. record { point = shift_same i b j; value = fold_at_same i b f r j }) ρ.coins.shifts

    table_function_same : table_function Z ω ≡ table_function F ω
    unfolding zero_for_none table_function
    table_function_same = refl

    next_function_same : next_function Z ω ≡ next_function F ω
    unfolding zero_for_none next_function
    next_function_same = λ i g ρ. record {
      value = λ j. corrected_value_same i g ρ.coins.combination (point_same i ρ.coins.level j) (get_or ρ.table j 𝟘);
      places = own_place ρ.coins.level;
    }

    differences_same : differences Z ω ≡ differences F ω
    unfolding zero_for_none differences
    differences_same = λ i b f r coefficients js. map (λ j. not (equal (evaluate_same i coefficients (shift_same i b j)) (fold_at_same i b f r j))) js

    decide_final_same : decide_final Z ω ≡ decide_final F ω
    unfolding decide_final
    decide_final_same = λ i b f r used coefficients js. record {
      outcome = refuse_at 9 (first_true 0 (differences_same i b f.value r coefficients js));
      used = used ++ places_of b f.places (treated js (first_true 0 (differences_same i b f.value r coefficients js)));
    }

    decide_rest_at : (b : Level) (f : Function A) (r : A) (used : List Place) (rest : Rest A) → decide_rest Z ω b f r used rest ≡ decide_rest F ω b f r used rest
    unfolding decide_rest
    decide_rest_at b f r used (final coefficients js) = λ i. decide_final_same i b f r used coefficients js
    decide_rest_at b f r used (round ρ rest) =
        let now = used ++ places_of b f.places ρ.coins.shifts in
        let clashed : Decision = record { outcome = refused 8 ρ.coins.level.number; used = now } in
        (λ i. cond (clash_same i (answers_same i b f.value r ρ)) clashed
        (decide_rest Z ω ρ.coins.level (next_function_same i (distinct_same i (answers_same i b f.value r ρ)) ρ) ρ.coins.fold now rest))
        ∙ ap (λ (next : Decision). cond (clash F (answers F ω b f.value r ρ)) clashed next)
        (decide_rest_at ρ.coins.level (next_function F ω (distinct F (answers F ω b f.value r ρ)) ρ) ρ.coins.fold now rest)

    pub decide_same : decide Z ω ≡ decide F ω
    unfolding decide
    decide_same = λ i first τ. decide_rest_at first (table_function_same i first τ.table) τ.fold [] τ.rest i

    table_same : table_of Z ω ≡ table_of F ω
    unfolding table_of
    table_same = λ i l f. map (evaluate_same i f) (domain_same i l)

    samples_same : samples_of Z ω ≡ samples_of F ω
    unfolding samples_of
    samples_same = λ i f xs. map (λ x. record { point = x; value = evaluate_same i f x }) xs

    honest_round_same : honest_round Z ω ≡ honest_round F ω
    unfolding honest_round
    honest_round_same = λ i g c. record { coins = c; table = table_same i c.level g; replies = map (evaluate_same i g) c.outs }

    honest_answers_same : honest_answers Z ω ≡ honest_answers F ω
    unfolding honest_answers
    honest_answers_same = λ i b g c. samples_same i g (c.outs ++ map (shift_same i b) c.shifts)

    next_poly_same : next_poly Z ω ≡ next_poly F ω
    unfolding next_poly
    next_poly_same = λ i b g c. corrected_poly_same i (distinct_same i (honest_answers_same i b g c)) c.combination g

    honest_rest_at : (b : Level) (f : List A) (r : A) (cs : List (RoundCoins A)) (js : List ℕ) → honest_rest Z ω b f r cs js ≡ honest_rest F ω b f r cs js
    unfolding honest_rest
    honest_rest_at b f r [] js = λ i. final (fold_same i b.fold r f) js
    honest_rest_at b f r (c ∷ cs) js =
        let g = fold_poly F b.fold r f in
        (λ i. round (honest_round_same i (fold_same i b.fold r f) c) (honest_rest Z ω c.level (next_poly_same i b (fold_same i b.fold r f) c) c.fold cs js))
        ∙ ap (round (honest_round F ω g c)) (honest_rest_at c.level (next_poly F ω b g c) c.fold cs js)

    pub honest_same : honest Z ω ≡ honest F ω
    unfolding honest
    honest_same = λ i first f c. record { table = table_same i first f; fold = c.fold; rest = honest_rest_at first f c.fold c.rounds c.finals i }
