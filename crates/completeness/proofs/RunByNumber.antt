-- The honest run under allowed coins, by round: what holds of one round with fair coins in any field holds of round i.
use Prim.Native.Nat.{ℕ, zero, suc, ◌-◌, ◌/◌, ◌≤◌, ◌<◌}
use Rattle.std.proofs.Common.{arith, ◌∙◌}
use Rattle.std.proofs.Math.Nat.{div-le_self}
use Rattle.std.specs.Prelude.{List, map, ◌≡◌, refl, get_or, take}
use Rattle.std.proofs.Math.Path.{sym, ap}
use Rattle.std.proofs.Math.ListN.{length, length-map}
use Rattle.std.proofs.Math.Pow.{pow_mono}
use Rattle.definition.specs.Domain.{domain, point}
use Rattle.definition.specs.Field.{Element, Field, elements_in, number_in}
use Rattle.definition.specs.Lists.{product_of, range}
use Rattle.definition.specs.Polynomial.{add_poly, corrected_poly, distinct, evaluate, geometric, mul_poly, points}
use Rattle.definition.specs.Prover.{next_poly}
use Rattle.definition.specs.Sheet.{Edition, Sheet, final_count, sheet_length, sheet_of}
use Rattle.list_laws.specs.All.{All, all_map, all_places, at_place}
use Rattle.list_laws.specs.Lists.{range_length}
use Rattle.algebra.specs.Coefficients
use Rattle.algebra.specs.Coefficients.{Elements}
use Rattle.algebra.specs.Different.{Apart, same_place_lem}
use Rattle.algebra.specs.FieldIn.{below_in, read_below, reduced_in}
use Rattle.algebra.specs.Laws.{FieldLaws}
use Rattle.algebra.specs.Lengths
use Rattle.layouts.specs.Levels.{level_of, rounds_of, sheet_field, sheet_root}
use Rattle.layouts.proofs.LevelsByNumber.{undivided}
use Rattle.completeness.proofs.Allowed.{allowed_degree, allowed_elements, allowed_enough}
use Rattle.completeness.proofs.Completeness.{sheet_ready}
use Rattle.completeness.specs.DecidingAccepts
use Rattle.completeness.specs.DistinctPoints.{all_distinct, kept_places}
use Rattle.completeness.proofs.Domains.{domain_apart}
use Rattle.completeness.proofs.FairRounds.{admissible_round, corrected_length, first_length, lawful_sheet}
use Rattle.completeness.specs.Numbered.{Allowed, ElementOf, answer_poly, coins_of, combination_coin, corrected_of, fold_coin, pair_at, pairs_of, quotient_poly, round_poly, samples_at, vanishing_poly}
use Rattle.completeness.specs.Ready.{ready_sized}
use Rattle.completeness.specs.RoundPolynomials

pub corrected_is : (h : Sheet) (f coins : List ℕ) (i : ℕ) → corrected_of h f coins (suc i)
    ≡ mul_poly (sheet_field h) (quotient_poly h f coins (suc i)) (geometric (sheet_field h) (combination_coin h coins (suc i)) (length (samples_at h f coins (suc i))))
unfolding corrected_of next_poly corrected_poly quotient_poly answer_poly samples_at pairs_of round_poly
corrected_is h f coins i = refl

module _ {ed : Edition} {w f coins : List ℕ} (ok : Allowed ed w f coins) where
  abbrev F : Field (Element (sheet_of ed w).spelling)
  F = sheet_field (sheet_of ed w)

  abbrev ω : Element (sheet_of ed w).spelling
  ω = sheet_root (sheet_of ed w)

  abbrev L : FieldLaws (sheet_field (sheet_of ed w))
  L = (sheet_ready ok).laws

  abbrev long : sheet_length ed ≤ length w
  long = allowed_enough ok

  -- DEGREES. g_i has d_i coefficients, as f_i has (FairRounds); g_(i+1) has d_i/k.
  pub first_degree : length (round_poly (sheet_of ed w) f coins 0) ≡ (sheet_of ed w).degree
  unfolding round_poly
  first_degree = allowed_degree ok

  pub folded_length : (i : ℕ) → i ≤ rounds_of (sheet_of ed w) → length (round_poly (sheet_of ed w) f coins (suc i)) ≡ final_count (level_of (sheet_of ed w) i)
  unfolding round_poly final_count
  folded_length i l = Lengths.length_fold F (level_of (sheet_of ed w) i).fold (fold_coin (sheet_of ed w) coins i) (corrected_of (sheet_of ed w) f coins i) ∙ ap (λ (n : ℕ). n / (level_of (sheet_of ed w) i).fold) (corrected_length ok i l)

  pub round_length : (i : ℕ) → i ≤ rounds_of (sheet_of ed w) → length (round_poly (sheet_of ed w) f coins i) ≡ (level_of (sheet_of ed w) i).degree
  unfolding round_poly final_count
  round_length zero l = first_length ed w f ok
  round_length (suc i) l = folded_length i (omega arith) ∙ sym (admissible_round ok i (omega arith)).degree

  -- the coefficients of every g_i and f_i are elements
  element_at : (g : List (Element (sheet_of ed w).spelling)) → Elements F L g → (j : ℕ) → j < length g → ElementOf (sheet_of ed w) (get_or g j (number_in (sheet_of ed w).spelling 0))
  element_at g e =
      at_place (ElementOf (sheet_of ed w)) g _ (all_map g e (λ c r. below_in (sheet_of ed w).spelling (sheet_of ed w).prime L (omega (arith, (sheet_ready ok).large)) c r))

  first_elements : All (ElementOf (sheet_of ed w)) (elements_in (sheet_of ed w).spelling f)
  first_elements = read_below (sheet_of ed w).spelling (sheet_of ed w).prime f (allowed_elements ok)

  pub round_elements : (i j : ℕ) → j < length (round_poly (sheet_of ed w) f coins i) → ElementOf (sheet_of ed w) (get_or (round_poly (sheet_of ed w) f coins i) j (number_in (sheet_of ed w).spelling 0))
  unfolding round_poly
  round_elements zero = at_place (ElementOf (sheet_of ed w)) (elements_in (sheet_of ed w).spelling f) _ first_elements
  round_elements (suc i) =
      element_at (round_poly (sheet_of ed w) f coins (suc i)) (Coefficients.elements_fold F L (level_of (sheet_of ed w) i).fold (fold_coin (sheet_of ed w) coins i) (corrected_of (sheet_of ed w) f coins i))

  pub corrected_elements : (i j : ℕ) → j < length (corrected_of (sheet_of ed w) f coins i) → ElementOf (sheet_of ed w) (get_or (corrected_of (sheet_of ed w) f coins i) j (number_in (sheet_of ed w).spelling 0))
  unfolding corrected_of next_poly corrected_poly
  corrected_elements zero = at_place (ElementOf (sheet_of ed w)) (elements_in (sheet_of ed w).spelling f) _ first_elements
  corrected_elements (suc i) = element_at (corrected_of (sheet_of ed w) f coins (suc i)) (Coefficients.elements_mul F L _ _)

  -- Round i + 1, of the round's facts in any field.
  module _ (i : ℕ) (l : i < rounds_of (sheet_of ed w)) where
    abbrev g : List (Element (sheet_of ed w).spelling)
    g = round_poly (sheet_of ed w) f coins (suc i)

    pub fewer : length (samples_at (sheet_of ed w) f coins (suc i)) < (level_of (sheet_of ed w) (suc i)).degree
    unfolding samples_at pairs_of
    fewer = DecidingAccepts.fewer_samples F L ω (level_of (sheet_of ed w) i) g (coins_of (sheet_of ed w) coins (suc i)) (admissible_round ok i l)

    pub answer_length : length (answer_poly (sheet_of ed w) f coins (suc i)) ≡ length (samples_at (sheet_of ed w) f coins (suc i))
    unfolding answer_poly
    answer_length = Lengths.length_interpolate F (samples_at (sheet_of ed w) f coins (suc i))

    pub quotient_length : length (quotient_poly (sheet_of ed w) f coins (suc i)) ≡ (level_of (sheet_of ed w) (suc i)).degree - length (samples_at (sheet_of ed w) f coins (suc i))
    unfolding quotient_poly answer_poly samples_at pairs_of
    quotient_length = RoundPolynomials.quotient_length F L ω (level_of (sheet_of ed w) i) g (coins_of (sheet_of ed w) coins (suc i)) (admissible_round ok i l) (round_length (suc i) (omega arith))

    pub samples_apart : Apart F (points (samples_at (sheet_of ed w) f coins (suc i)))
    unfolding samples_at pairs_of
    samples_apart = RoundPolynomials.samples_apart F L ω (level_of (sheet_of ed w) i) g (coins_of (sheet_of ed w) coins (suc i)) (admissible_round ok i l)

    pub values_divide : (x : Element (sheet_of ed w).spelling) → evaluate F g x
        ≡ F.◌⊕◌ (evaluate F (answer_poly (sheet_of ed w) f coins (suc i)) x) (F.◌⊗◌ (evaluate F (vanishing_poly (sheet_of ed w) f coins (suc i)) x) (evaluate F (quotient_poly (sheet_of ed w) f coins (suc i)) x))
    unfolding quotient_poly vanishing_poly answer_poly samples_at pairs_of
    values_divide = RoundPolynomials.values_divide F L ω (level_of (sheet_of ed w) i) g (coins_of (sheet_of ed w) coins (suc i)) (admissible_round ok i l)

    g_elements : Elements F L g
    unfolding round_poly
    g_elements = Coefficients.elements_fold F L (level_of (sheet_of ed w) i).fold (fold_coin (sheet_of ed w) coins i) (corrected_of (sheet_of ed w) f coins i)

    -- domain 0 has as many points as g has coefficients
    enough : length g ≤ length (domain F ω (level_of (sheet_of ed w) 0))
    unfolding domain
    enough =
        let x = lawful_sheet ok in
        let e : x.b ≤ suc x.a = omega (arith, x.below) in
        let n : length (map (point F ω (level_of (sheet_of ed w) 0)) (range 0 (level_of (sheet_of ed w) 0).size)) ≡ (sheet_of ed w).size =
        length-map (range 0 (level_of (sheet_of ed w) 0).size) (point F ω (level_of (sheet_of ed w) 0)) ∙ range_length 0 (level_of (sheet_of ed w) 0).size ∙ undivided (sheet_of ed w).size in
        omega (arith, round_length (suc i) (omega arith), div-le_self (sheet_of ed w).degree (product_of (take (suc i) (sheet_of ed w).folds)), n, x.degree, x.size, pow_mono e)

    pub coefficients_divide : g ≡ add_poly F (answer_poly (sheet_of ed w) f coins (suc i)) (mul_poly F (vanishing_poly (sheet_of ed w) f coins (suc i)) (quotient_poly (sheet_of ed w) f coins (suc i)))
    unfolding quotient_poly vanishing_poly answer_poly samples_at pairs_of
    coefficients_divide =
        RoundPolynomials.coefficients_divide F L ω (level_of (sheet_of ed w) i) g (coins_of (sheet_of ed w) coins (suc i)) (admissible_round ok i l) (round_length (suc i) (omega arith)) (domain F ω (level_of (sheet_of ed w) 0))
        (domain_apart F L ω (sheet_ready ok).signs (sheet_ready ok).e (sheet_ready ok).root (level_of (sheet_of ed w) 0) (ready_sized ed w long ok.sheet 0 (omega arith)))
        enough g_elements

    -- A passes through pair j of G's list, and is the only polynomial with e coefficients, all elements, that passes through all pairs
    pub passes_through : (j : ℕ) → j < length (pairs_of (sheet_of ed w) f coins (suc i)) → evaluate F (answer_poly (sheet_of ed w) f coins (suc i)) (pair_at (sheet_of ed w) f coins (suc i) j).point ≡ (pair_at (sheet_of ed w) f coins (suc i) j).value
    unfolding answer_poly samples_at pairs_of
    passes_through =
        at_place (λ p. evaluate F (answer_poly (sheet_of ed w) f coins (suc i)) p.point ≡ p.value) (pairs_of (sheet_of ed w) f coins (suc i)) _
        (RoundPolynomials.passes_through F L ω (level_of (sheet_of ed w) i) g (coins_of (sheet_of ed w) coins (suc i)) (admissible_round ok i l))

    pub only_answer : (q : List (Element (sheet_of ed w).spelling)) → length q ≡ length (samples_at (sheet_of ed w) f coins (suc i)) → ((j : ℕ) → j < length q → ElementOf (sheet_of ed w) (get_or q j (number_in (sheet_of ed w).spelling 0))) →
        ((j : ℕ) → j < length (pairs_of (sheet_of ed w) f coins (suc i)) → evaluate F q (pair_at (sheet_of ed w) f coins (suc i) j).point ≡ (pair_at (sheet_of ed w) f coins (suc i) j).value) → q ≡ answer_poly (sheet_of ed w) f coins (suc i)
    unfolding answer_poly samples_at pairs_of
    only_answer q n e h =
        RoundPolynomials.only_answer F L ω (level_of (sheet_of ed w) i) g (coins_of (sheet_of ed w) coins (suc i)) (admissible_round ok i l) q n
        (all_map q (all_places (ElementOf (sheet_of ed w)) q _ e) (λ x u. reduced_in (sheet_of ed w).spelling (sheet_of ed w).prime L x u))
        (all_distinct F (λ p. evaluate F q p.point ≡ p.value) (pairs_of (sheet_of ed w) f coins (suc i)) (all_places (λ p. evaluate F q p.point ≡ p.value) (pairs_of (sheet_of ed w) f coins (suc i)) _ h))

    -- e is the number of different points: the points of G are different, and each point of G's list is one of them
    pub samples_different : (a b : ℕ) → a < length (samples_at (sheet_of ed w) f coins (suc i)) → b < length (samples_at (sheet_of ed w) f coins (suc i)) →
        get_or (points (samples_at (sheet_of ed w) f coins (suc i))) a (number_in (sheet_of ed w).spelling 0) ≡ get_or (points (samples_at (sheet_of ed w) f coins (suc i))) b (number_in (sheet_of ed w).spelling 0) → a ≡ b
    samples_different a b la lb =
        let n = Lengths.length_points F (samples_at (sheet_of ed w) f coins (suc i)) in
        same_place_lem F L (points (samples_at (sheet_of ed w) f coins (suc i))) _ samples_apart a b (omega (arith, n)) (omega (arith, n))

    pub pairs_sampled : (j : ℕ) → j < length (pairs_of (sheet_of ed w) f coins (suc i)) →
        (a : ℕ) × (a < length (samples_at (sheet_of ed w) f coins (suc i))) × (get_or (points (samples_at (sheet_of ed w) f coins (suc i))) a (number_in (sheet_of ed w).spelling 0) ≡ (pair_at (sheet_of ed w) f coins (suc i) j).point)
    unfolding samples_at
    pairs_sampled =
        let ps = pairs_of (sheet_of ed w) f coins (suc i) in
        at_place (λ p. (a : ℕ) × (a < length (distinct F ps)) × (get_or (points (distinct F ps)) a (number_in (sheet_of ed w).spelling 0) ≡ p.point)) ps _ (kept_places F L (number_in (sheet_of ed w).spelling 0) ps)
