-- The nearest polynomial to a table (02, CR 14): its refusals, its answer and its whole output.
use Rattle.std.specs.Prelude.{ℕ, zero, suc, ◌+◌, ◌-◌, ◌/◌, Bool, true, false, cond, not, eqb, leb, length, replicate}
use mathlib.Core.List.{List, [], ◌∷◌, ◌++◌, map, flat_map, zip_with}
use Rattle.std.proofs.Math.Option.{Option, none, some}
use Rattle.definition.specs.Lists.{first_true, range}
use Rattle.definition.specs.Field.{Element, Field, Spelling, elements_in, field_in, four, number_in, one, word_count, words_of}
use Rattle.definition.specs.Sheet.{Level, Sheet, edition1, first_level, root_of_unity, sheet_of}
use Rattle.definition.specs.Layout.{message}
use Rattle.definition.specs.Verdict.{Outcome, accepted, refused, refuse_at, refuse_if, ◌then◌}
use Rattle.definition.specs.Reading.{out_of_range, sheet_test}
use Rattle.definition.specs.Prover.{table_of}
use Rattle.definition.specs.Prove.{Result, finish, output_test, sheet_length_test}

-- the places of all tests that are true, in rising order
unfoldable pub all_true : ℕ → List Bool → List ℕ
all_true from [] = []
all_true from (true ∷ bs) = from ∷ all_true (suc from) bs
all_true from (false ∷ bs) = all_true (suc from) bs

-- the first element that passes a test
unfoldable pub first_that : {A : Type 0} → (A → Bool) → List A → Option A
first_that test [] = none
first_that test (x ∷ xs) = cond (test x) (some x) (first_that test xs)

-- all elements of the field over p whose elements are so spelt
unfoldable pub all_elements : (σ : Spelling) → ℕ → List (Element σ)
all_elements one p = range 0 p
all_elements four p =
    flat_map (λ a. flat_map (λ b. flat_map (λ c. map (λ d. record { a = a; b = b; c = c; d = d }) (range 0 p)) (range 0 p)) (range 0 p)) (range 0 p)

-- all polynomials of degree below d over the elements given: all lists of d of them
unfoldable pub polynomials : {A : Type 0} → List A → ℕ → List (List A)
polynomials elements zero = [] ∷ []
polynomials elements (suc d) = flat_map (λ f. map (λ c. c ∷ f) elements) (polynomials elements d)

module _ {A : Type 0} (F : Field A) where
  open F use {equal}

  -- the numbers of the points where two tables differ, in rising order
  unfoldable pub differing_points : List A → List A → List ℕ
  differing_points t u = all_true 0 (zip_with (λ x y. not (equal x y)) t u)

  module _ (ω : A) (l : Level) where
    -- does the polynomial f differ from the table in at most (n - d)/2 points?
    unfoldable pub near : ℕ → List A → List A → Bool
    near d table f = leb (length (differing_points (table_of F ω l f) table)) ((l.size - d) / 2)

    -- The polynomial of degree below d that differs from the table in at most (n - d)/2 points, if there is one: of ALL polynomials of degree below d the first
    -- that does. That there is no second one is a theorem, so their order is of no account.
    -- In the literature: unique decoding of a Reed-Solomon code.
    unfoldable pub nearest_of : List A → ℕ → List A → Option (List A)
    nearest_of elements d table = first_that (near d table) (polynomials elements d)

-- the nearest polynomial to table 0 of a sheet, and the numbers of the points where a polynomial differs from that table; elements are spelt as the sheet says
unfoldable pub nearest_to : (h : Sheet) → List ℕ → Option (List (Element h.spelling))
nearest_to h table =
    let σ = h.spelling in
    nearest_of (field_in σ h.prime) (number_in σ (root_of_unity h)) (first_level h) (all_elements σ h.prime) h.degree (elements_in σ table)

unfoldable pub wrong_points : (h : Sheet) → List ℕ → List (Element h.spelling) → List ℕ
wrong_points h table f =
    let σ = h.spelling in
    let F = field_in σ h.prime in
    differing_points F (table_of F (number_in σ (root_of_unity h)) (first_level h) f) (elements_in σ table)

-- 10: not the words of n0 entries (place 1)
unfoldable pub entries_test : Sheet → List ℕ → Outcome
entries_test h table = refuse_if 10 1 (not (eqb (length table) (word_count h.spelling h.size)))

-- 5: a word out of range, at its position in the table
unfoldable pub entry_range_test : Sheet → List ℕ → Outcome
entry_range_test h table = refuse_at 5 (first_true 0 (zip_with (out_of_range h) (replicate (word_count h.spelling h.size) message) table))

-- 11 goes by the most words that may be written: d0 coefficients, the count, and (n0 - d0)/2 numbers
unfoldable pub nearest_size : Sheet → ℕ
nearest_size h = word_count h.spelling h.degree + 1 + (h.size - h.degree) / 2

-- 19: no such polynomial (place 0)
unfoldable pub found_test : {A : Type 0} → Option (List A) → Outcome
found_test none = refused 19 0
found_test (some f) = accepted

-- the words written: d0 coefficients, the count, then the numbers
unfoldable pub nearest_words : (h : Sheet) → List ℕ → Option (List (Element h.spelling)) → List ℕ
nearest_words h table none = []
nearest_words h table (some f) = words_of h.spelling f ++ length (wrong_points h table f) ∷ wrong_points h table f

-- the tests after the sheet's but for 19, which comes last
unfoldable pub nearest_tests : Sheet → List ℕ → List ℕ → Outcome
nearest_tests h table output = entries_test h table then entry_range_test h table then output_test (nearest_size h) (nearest_size h) (length output)

-- The nearest polynomial, of a sheet of edition 1, table 0 and output words; done with the number of words written.
unfoldable pub nearest : List ℕ → List ℕ → List ℕ → Result
nearest w table output =
    let h = sheet_of edition1 w in
    let words = nearest_words h table (nearest_to h table) in
    finish (sheet_length_test edition1 w then sheet_test edition1 w then nearest_tests h table output then found_test (nearest_to h table)) (length words) words output
