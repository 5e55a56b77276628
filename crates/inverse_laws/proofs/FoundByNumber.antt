-- By number: in a file that passes reading and refusal 7 each fold, each interpolation and each quotient finds the inverses that it asks for, in every round, at
-- every index and at every point; and so does the prover's interpolation in each round of an allowed run.
use Rattle.std.specs.Prelude.{ℕ, zero, suc, ◌+◌, ◌≤◌, ◌<◌, List, ◌≡◌, length, get_or}
use Rattle.std.proofs.Common.{add-suc, add-zero, suc-add, zero-add, arith, sym, ◌∙◌}
use Rattle.std.proofs.Math.Option.{some}
use Rattle.std.proofs.Math.Path.{subst}
use Rattle.definition.specs.Block.{stream_of}
use Rattle.definition.specs.Deciding.{next_function, out_test}
use Rattle.definition.specs.Domain.{fold_at, point}
use Rattle.definition.specs.Field.{Element, Field}
use Rattle.definition.specs.Layout.{layout, words_due}
use Rattle.definition.specs.Polynomial.{distinct, interpolate}
use Rattle.definition.specs.Prover.{next_poly}
use Rattle.definition.specs.Reading.{reading}
use Rattle.definition.specs.Sheet.{Edition, Level, Sheet, first_level, sheet_length, sheet_of, shift_count}
use Rattle.definition.specs.Verdict.{accepted}
use Rattle.algebra.specs.Laws.{FieldLaws}
use Rattle.layouts.proofs.Lawful.{lawful}
use Rattle.layouts.specs.Levels.{level_of, rounds_of, sheet_field, sheet_root}
use Rattle.layouts.proofs.LevelsByNumber.{level_first}
use Rattle.layouts.specs.Passed.{Passed, passed}
use Rattle.completeness.proofs.Completeness.{sheet_ready}
use Rattle.completeness.specs.DecidedByNumber.{first_rest, rest_round, rest_after}
use Rattle.completeness.specs.DecidingAccepts.{AdmissibleRound, Foldable}
use Rattle.completeness.proofs.Divisors.{FairRest, samples_apart, samples_off, stream_fair, stream_ready}
use Rattle.completeness.proofs.Domains.{foldable}
use Rattle.completeness.specs.Faults.{fold, function_in, pairs_in, part_element, round_in}
use Rattle.completeness.specs.Numbered.{Allowed, combination_coin, corrected_of, pairs_of, round_poly, samples_at}
use Rattle.completeness.specs.Ready.{ready, ready_sized}
use Rattle.completeness.proofs.RunByNumber as run
use Rattle.inverse_laws.proofs.Found.{corrected_poly_found_lem, corrected_value_found_lem, fold_found, interpolate_found_lem}
use Rattle.inverse_laws.specs.TakenApart.{corrected_poly_found, fold_at_found, interpolate_found, next_function_found}

-- n rounds past level i
round_fair : (ed : Edition) (h : Sheet) (w : List ℕ) (L : FieldLaws (sheet_field h)) (m i n : ℕ) → n < m → FairRest (sheet_field h) L (sheet_root h) (level_of h i) (rest_after ed h w i m) →
    AdmissibleRound (sheet_field h) L (sheet_root h) (level_of h (i + n)) (round_in ed h w (i + n)).coins
round_fair ed h w L zero i n l f = absurd (omega arith)
round_fair ed h w L (suc m) i zero l f =
    subst (λ (j : ℕ). AdmissibleRound (sheet_field h) L (sheet_root h) (level_of h j) (round_in ed h w j).coins) (sym (add-zero i))
    (subst (FairRest (sheet_field h) L (sheet_root h) (level_of h i)) (rest_round ed h w i m) f).1
round_fair ed h w L (suc m) i (suc n) l f =
    subst (λ (j : ℕ). AdmissibleRound (sheet_field h) L (sheet_root h) (level_of h j) (round_in ed h w j).coins) (suc-add i n ∙ sym (add-suc i n))
    (round_fair ed h w L m (suc i) n (omega arith) (subst (FairRest (sheet_field h) L (sheet_root h) (level_of h i)) (rest_round ed h w i m) f).2)

module _ (ed : Edition) (bytes : List ℕ) (read : reading ed bytes ≡ accepted)
    (outside : out_test (sheet_of ed (stream_of bytes)) (sheet_length ed) (layout (sheet_of ed (stream_of bytes))) (stream_of bytes) ≡ accepted) where
  abbrev w : List ℕ
  w = stream_of bytes

  abbrev h : Sheet
  h = sheet_of ed (stream_of bytes)

  abbrev F : Field (Element (sheet_of ed (stream_of bytes)).spelling)
  F = sheet_field (sheet_of ed (stream_of bytes))

  abbrev ω : Element (sheet_of ed (stream_of bytes)).spelling
  ω = sheet_root (sheet_of ed (stream_of bytes))

  p : Passed ed bytes
  p = passed ed bytes read

  long : sheet_length ed ≤ length w
  unfolding words_due
  long = omega (arith, p.due)

  L : FieldLaws (sheet_field (sheet_of ed (stream_of bytes)))
  L = (stream_ready ed w p.sheet p.due p.range outside).laws

  -- every round is fair, and a function folds at every level
  fair_first : FairRest F L ω (level_of h 0) (rest_after ed h w 0 (rounds_of h))
  unfolding L
  fair_first =
      subst (λ (b : Level). FairRest F L ω b (rest_after ed h w 0 (rounds_of h))) (level_first h)
      (subst (FairRest F L ω (first_level h)) (first_rest ed h w (lawful ed w long p.sheet).paired) (stream_fair ed w p.sheet p.due p.range outside))

  fair : (i : ℕ) → i < rounds_of h → AdmissibleRound F L ω (level_of h i) (round_in ed h w i).coins
  fair i l = subst (λ (j : ℕ). AdmissibleRound F L ω (level_of h j) (round_in ed h w j).coins) (zero-add i) (round_fair ed h w L (rounds_of h) 0 i l fair_first)

  folds : (i : ℕ) → i ≤ rounds_of h → Foldable F ω (level_of h i)
  folds i l = let q = ready ed w long p.sheet in foldable F q.laws ω q.signs q.e q.root (level_of h i) (ready_sized ed w long p.sheet i l)

  pub file_fold : (i : ℕ) → i ≤ rounds_of h → (j : ℕ) → j < shift_count (level_of h i) → (r : Element (sheet_of ed (stream_of bytes)).spelling) →
      fold_at_found F ω (level_of h i) (λ m. some ((function_in ed h w i).value m)) r j ≡ some (fold_at F ω (level_of h i) (function_in ed h w i).value r j)
  file_fold i l j k r = fold_found F L ω (level_of h i) (function_in ed h w i).value r j ((folds i l).roots_apart j k)

  module _ (i : ℕ) (l : i < rounds_of h) where
    pub file_interpolation : interpolate_found F (distinct F (pairs_in ed h w i)) ≡ some (interpolate F (distinct F (pairs_in ed h w i)))
    unfolding pairs_in
    file_interpolation =
        interpolate_found_lem F L (distinct F (pairs_in ed h w i)) (samples_apart F L ω (level_of h i) (function_in ed h w i).value (part_element ed h w (fold i) 0) (round_in ed h w i) (fair i l).elements)

    pub file_quotient : (m : ℕ) → m < (level_of h (suc i)).size → (next_function_found F ω (distinct F (pairs_in ed h w i)) (round_in ed h w i)).value m ≡ some ((function_in ed h w (suc i)).value m)
    unfolding next_function_found next_function function_in pairs_in
    file_quotient m k =
        let f = (function_in ed h w i).value in
        let r = part_element ed h w (fold i) 0 in
        let ρ = round_in ed h w i in
        corrected_value_found_lem F L (distinct F (pairs_in ed h w i)) ρ.coins.combination (point F ω (level_of h (suc i)) m) (get_or ρ.table m F.𝟘)
        (samples_apart F L ω (level_of h i) f r ρ (fair i l).elements) (samples_off F L ω (level_of h i) f r ρ (point F ω (level_of h (suc i)) m) ((fair i l).off m k))

-- the prover, in round i + 1 of an allowed run
pub prover_round : (ed : Edition) (w f coins : List ℕ) → Allowed ed w f coins → (i : ℕ) → i < rounds_of (sheet_of ed w) →
    corrected_poly_found (sheet_field (sheet_of ed w)) (samples_at (sheet_of ed w) f coins (suc i)) (combination_coin (sheet_of ed w) coins (suc i)) (round_poly (sheet_of ed w) f coins (suc i))
    ≡ some (corrected_of (sheet_of ed w) f coins (suc i))
unfolding corrected_of next_poly samples_at pairs_of round_poly
prover_round ed w f coins ok i l =
    let h = sheet_of ed w in
    corrected_poly_found_lem (sheet_field h) (sheet_ready ok).laws (samples_at h f coins (suc i)) (combination_coin h coins (suc i)) (round_poly h f coins (suc i)) (run.samples_apart ok i l)
