-- Batches: several polynomials in one run (02, CR 9 and 11; 001, equation 18; 000, Definition 4.11). A batch has a sheet of edition 1 and operations of its own.
use Rattle.std.specs.Prelude.{ℕ, suc, ◌+◌, ◌-◌, ◌*◌, ◌/◌, Bool, not, ◌&&◌, eqb, leb, length, get_or, take, drop, replicate}
use mathlib.Core.List.{List, [], ◌∷◌, ◌++◌, map, flat_map, zip_with}
use Rattle.std.proofs.Math.Option.{none}
use Rattle.definition.specs.Lists.{chunks, first_true, range}
use Rattle.definition.specs.Field.{Field, Spelling, one, four, Element, power, field_in, number_in, word_count, elements_in, words_of, begun_by}
use Rattle.definition.specs.Polynomial.{evaluate, scale, add_poly, mul_poly, geometric}
use Rattle.definition.specs.Sheet.{Sheet, Level, edition1, between, sheet_of, sheet_length, first_level, later_levels, root_of_unity}
use Rattle.definition.specs.Domain.{point}
use Rattle.definition.specs.Transcript.{Rest, rest_words}
use Rattle.definition.specs.Layout.{Kind, message, coin, rest_layout, coin_kinds, read_rest, read_coins}
use Rattle.definition.specs.Block.{block_count, file_of, stream_of}
use Rattle.definition.specs.Verdict.{Outcome, Verdict, refuse_at, refuse_if, ◌then◌, then_verdict}
use Rattle.definition.specs.Reading.{length_test, check_test, sheet_test, out_of_range, body_tests}
use Rattle.definition.specs.Deciding.{Decision, Function, counted, decide_rest, out_in_domain, out_tests, repeated_outs}
use Rattle.definition.specs.Prover.{table_of, honest_rest}
use Rattle.definition.specs.Prove.{Result, finish, output_test, sheet_length_test}

module _ {A : Type 0} (F : Field A) where
  infixl 65 ◌⊕◌
  infixl 70 ◌⊗◌
  open F use {𝟘, ◌⊕◌, ◌⊗◌}

  -- The first function at x: table m, with its value y there and its bound b, is multiplied by 1 + rx + .. + (rx)^e, e = d - b, and by r to the
  -- power n, which is 0 for the first table and grows by 1 + e from one to the next: so it is m - 1 + e_1 + .. + e_(m-1).
  -- In the literature: Combine.
  unfoldable pub combine_at : ℕ → ℕ → A → A → List ℕ → List A → A
  combine_at d n r x [] ys = 𝟘
  combine_at d n r x (b ∷ bs) [] = 𝟘
  combine_at d n r x (b ∷ bs) (y ∷ ys) =
      power F r n ⊗ (y ⊗ evaluate F (geometric F r (d - b)) x) ⊕ combine_at d (n + suc (d - b)) r x bs ys

  -- the prover's: the same of polynomials, each with as many coefficients as its bound says; d coefficients
  unfoldable pub combine_poly : ℕ → ℕ → A → List (List A) → List A
  combine_poly d n r [] = replicate d 𝟘
  combine_poly d n r (f ∷ fs) =
      add_poly F (scale F (power F r n) (mul_poly F f (geometric F r (d - length f)))) (combine_poly d (n + suc (d - length f)) r fs)

-- The tables with their bounds, the coin r, fold coin 0, and the rest as in a plain file.
pub record Batch (A : Type 0) : Type 0 where
  pub bounds : List ℕ
  pub tables : List (List A)
  pub combination : A
  pub fold : A
  pub rest : Rest A

-- the numbers of the tables, where they are places: from 6 on, since a round's table has a number up to 5
unfoldable pub table_numbers : ℕ → List ℕ
table_numbers count = range 6 count

module _ {A : Type 0} (F : Field A) (ω : A) where
  open F use {𝟘}

  -- the first function: a value is worked out from one place in each table
  unfoldable pub batch_function : Level → Batch A → Function A
  batch_function first β = record {
    value = λ j. combine_at F first.degree 0 β.combination (point F ω first j) β.bounds (map (λ t. get_or t j 𝟘) β.tables);
    places = λ j. map (λ m. record { table = m; number = j }) (table_numbers (length β.tables));
  }

  unfoldable pub decide_batch : Level → Batch A → Decision
  decide_batch first β = decide_rest F ω first (batch_function first β) β.fold [] β.rest

-- the most entries of all tables together
unfoldable pub most_entries : Spelling → ℕ
most_entries one = 8192
most_entries four = 2048

-- The rules of refusal 15: 1 to 8 tables, not too many for n0; and each bound is 1 to d0.
unfoldable pub batch_rules : Sheet → ℕ → List ℕ → List Bool
batch_rules h count bounds = (between 1 8 count && leb (count * h.size) (most_entries h.spelling)) ∷ map (between 1 h.degree) (take count bounds)

-- 15: the number of tables at place 0, bound m at place m, m from 1
unfoldable pub batch_test : Sheet → ℕ → List ℕ → Outcome
batch_test h count bounds = refuse_at 15 (first_true 0 (map not (batch_rules h count bounds)))

-- the word number of the first table: the number of tables and the bounds stand after the sheet
unfoldable pub batch_start : ℕ → ℕ
batch_start count = sheet_length edition1 + suc count

-- the kinds of the words from there on: the tables, r, fold coin 0, and the rest
unfoldable pub batch_layout : Sheet → ℕ → List Kind
batch_layout h count =
    let σ = h.spelling in
    replicate (word_count σ (count * h.size)) message ++ (replicate (word_count σ 2) coin ++ rest_layout σ h.out_coins (first_level h) (later_levels h))

unfoldable pub batch_words : Sheet → ℕ → ℕ
batch_words h count = batch_start count + length (batch_layout h count)

-- the batch that the words after the sheet hold; σ says how elements are spelt
unfoldable pub read_batch : (σ : Spelling) → Sheet → List ℕ → Batch (Element σ)
read_batch σ h w =
    let count = get_or w 0 0 in
    let w₁ = drop (suc count) w in
    let w₂ = drop (word_count σ (count * h.size)) w₁ in
    record {
      bounds = take count (drop 1 w);
      tables = chunks count h.size (elements_in σ w₁);
      combination = get_or (elements_in σ w₂) 0 (number_in σ 0);
      fold = get_or (elements_in σ w₂) 1 (number_in σ 0);
      rest = read_rest σ h.out_coins (first_level h) (later_levels h) (drop (word_count σ 2) w₂);
    }

-- 3, 15 and 4 to 6 of a stream w in a number of blocks
unfoldable pub batch_tests : ℕ → List ℕ → Outcome
batch_tests blocks w =
    let h = sheet_of edition1 w in
    let count = get_or w (sheet_length edition1) 0 in
    sheet_test edition1 w then batch_test h count (drop (suc (sheet_length edition1)) w)
    then body_tests h (batch_start count) (batch_layout h count) blocks w

unfoldable pub batch_reading : List ℕ → Outcome
batch_reading bytes = length_test bytes then check_test bytes then batch_tests (length bytes / 512) (stream_of bytes)

unfoldable pub batch_deciding : List ℕ → Verdict
batch_deciding w =
    let h = sheet_of edition1 w in
    let count = get_or w (sheet_length edition1) 0 in
    let σ = h.spelling in
    then_verdict (out_tests h (batch_start count) (batch_layout h count) w)
    (counted (decide_batch (field_in σ h.prime) (number_in σ (root_of_unity h)) (first_level h) (read_batch σ h (drop (sheet_length edition1) w))))

-- Verify, of a batch given as its bytes: 1 2 3 15 4 5 6, then 7 14 8 9.
unfoldable pub verify_batch : List ℕ → Verdict
verify_batch bytes = then_verdict (batch_reading bytes) (batch_deciding (stream_of bytes))

-- coefficients cut by the bounds
unfoldable pub cut_by : {A : Type 0} → List ℕ → List A → List (List A)
cut_by [] f = []
cut_by (b ∷ bs) f = take b f ∷ cut_by bs (drop b f)

unfoldable pub sum_of : List ℕ → ℕ
sum_of [] = 0
sum_of (x ∷ xs) = x + sum_of xs

-- The honest prover's stream for a sheet's words, bounds, coefficients table by table, and coins, of which r is the first.
unfoldable pub honest_batch : List ℕ → List ℕ → List ℕ → List ℕ → List ℕ
honest_batch w bounds f coins =
    let h = sheet_of edition1 w in
    let σ = h.spelling in
    let F = field_in σ h.prime in
    let ω = number_in σ (root_of_unity h) in
    let first = first_level h in
    let fs = cut_by bounds (elements_in σ f) in
    let r = get_or (elements_in σ coins) 0 (number_in σ 0) in
    let c = read_coins σ h (drop (word_count σ 1) coins) in
    w ++ (length bounds ∷ (bounds ++ (flat_map (λ g. words_of σ (table_of F ω first g)) fs
    ++ (words_of σ (r ∷ c.fold ∷ []) ++ rest_words σ (honest_rest F ω first (combine_poly F h.degree 0 r fs) c.fold c.rounds c.finals)))))

-- 10: not the words of as many coefficients as the bounds say together (place 1); not the words of the coins due (place 2)
unfoldable pub batch_coefficients_test : Sheet → List ℕ → List ℕ → Outcome
batch_coefficients_test h bounds f = refuse_if 10 1 (not (eqb (length f) (word_count h.spelling (sum_of bounds))))

unfoldable pub batch_coins_test : List Kind → List ℕ → Outcome
batch_coins_test ks coins = refuse_if 10 2 (not (eqb (length coins) (length ks)))

-- 5: a word out of range, at its position in the coefficients followed by the coins
unfoldable pub batch_range_test : Sheet → ℕ → List Kind → List ℕ → Outcome
batch_range_test h count ks w = refuse_at 5 (first_true 0 (zip_with (out_of_range h) (replicate (word_count h.spelling count) message ++ ks) w))

-- 7, then 14, of the coins, at the position of a coin's first word in them
unfoldable pub batch_out_tests : Sheet → List Kind → List ℕ → Outcome
batch_out_tests h ks coins =
    let σ = h.spelling in
    refuse_at 7 (first_true 0 (zip_with (out_in_domain σ h) ks (begun_by σ coins)))
    then refuse_at 14 (first_true 0 (repeated_outs (field_in σ h.prime) none ks (begun_by σ coins)))

-- prove's tests after the sheet's: 15, 10, 10, 5, 7, 14, 11
unfoldable pub batch_input_tests : Sheet → List ℕ → List ℕ → List ℕ → List ℕ → Outcome
batch_input_tests h bounds f coins output =
    let ks = coin_kinds (batch_layout h (length bounds)) in
    let blocks = block_count (batch_words h (length bounds)) in
    batch_test h (length bounds) bounds then batch_coefficients_test h bounds f then batch_coins_test ks coins
    then batch_range_test h (sum_of bounds) ks (f ++ coins) then batch_out_tests h ks coins
    then output_test blocks (512 * blocks) (length output)

-- Prove, of sheet, bounds, coefficients, coins and output bytes; it writes the blocks of the honest stream.
unfoldable pub prove_batch : List ℕ → List ℕ → List ℕ → List ℕ → List ℕ → Result
prove_batch w bounds f coins output =
    let h = sheet_of edition1 w in
    finish (sheet_length_test edition1 w then sheet_test edition1 w then batch_input_tests h bounds f coins output)
    (block_count (batch_words h (length bounds))) (file_of (honest_batch w bounds f coins)) output
