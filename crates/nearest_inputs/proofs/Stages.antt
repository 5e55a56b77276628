-- The tests of an order to find the nearest polynomial one after the other: what each answer says of the definition's outcome.
use Prim.Native.Nat.{ℕ, ◌+◌, ◌-◌, ◌/◌, ◌≤◌, ◌<◌}
use native.Mathlib.Omega.{arith}
use mathlib.Core.Path.{◌≡◌, refl, sym, ap, ◌∙◌}
use mathlib.Core.List.{List, [], ◌++◌, append-nil, map, zip_with}
use mathlib.Core.Option.{Option, none, some}
use lib.Dec.{leb}
use lib.ListN.{length, get_or, replicate}
use Rattle.definition.specs.Field.{prime_of, spelling_of, word_count}
use Rattle.definition.specs.Layout.{Kind, limit, message}
use Rattle.definition.specs.Lists.{first_true}
use Rattle.definition.specs.Prove.{output_test}
use Rattle.definition.specs.Reading.{out_of_range, sheet_test}
use Rattle.definition.specs.Sheet.{Sheet, edition1, sheet_of}
use Rattle.definition.specs.Verdict.{Outcome, accepted, refused, refuse_at}
use Rattle.nearest_definition.specs.Nearest.{entries_test, entry_range_test, nearest_size, nearest_tests}
use Rattle.layouts.proofs.PlainSheet.{sheet_plain}
use Rattle.layouts.specs.Spellings.{largest_most}
use Rattle.input_tests.specs.OneByOne.{agree, clear, differ, enough, found, short}
use Rattle.input_tests.specs.Places as places
use Rattle.std.specs.Prelude.{Some, None}
use Rattle.outcome.specs.Meaning.{Found, place_of}

-- d0 is below n0, which is small
pub fewer : (w : List ℕ) → sheet_test edition1 w ≡ accepted → (get_or w 2 0 ≤ get_or w 1 0) × (get_or w 1 0 ≤ 4096)
fewer w passed =
    let q = (sheet_plain edition1 w passed).plain in
    (omega (arith, q.degree_range, q.size_range), omega (arith, q.size_range, largest_most (spelling_of (get_or w 0 0))))

module _ (w table output : List ℕ) where
  abbrev h : Sheet
  h = sheet_of edition1 w

  -- the number of words of n elements of the sheet's field
  abbrev words_in : ℕ → ℕ
  words_in n = word_count (spelling_of (get_or w 0 0)) n

  abbrev tests : Outcome
  tests = nearest_tests (sheet_of edition1 w) table output

  pub other_count : {n : ℕ} → n ≡ words_in (get_or w 1 0) → (length table ≡ n → ⊥) → refused 10 1 ≡ tests
  unfolding nearest_tests entries_test sheet_of
  other_count is other = differ 10 1 (length table) (words_in (get_or w 1 0)) _ (λ e. other (e ∙ sym is))

  module _ (right : length table ≡ words_in (get_or w 1 0)) (range : Found) (searched : place_of range ≡ first_true 0 (map (leb (prime_of (get_or w 0 0))) table)) where
    ranged : refuse_at 5 (place_of range) ≡ entry_range_test h table
    unfolding entry_range_test sheet_of limit first_true zip_with
    ranged = go (place_of range) searched ∙ (λ i. refuse_at 5 (first_true 0 (zip_with (out_of_range h) (append-nil (replicate (words_in (get_or w 1 0)) message) i) (append-nil table i))))
      where
        go : (o : Option ℕ) → o ≡ first_true 0 (map (leb (prime_of (get_or w 0 0))) table) →
            refuse_at 5 o ≡ refuse_at 5 (first_true 0 (zip_with (out_of_range (sheet_of edition1 w)) (replicate (words_in (get_or w 1 0)) message ++ []) (table ++ [])))
        go none q = ap (refuse_at 5) (places.in_neither (sheet_of edition1 w) message refl [] table [] (words_in (get_or w 1 0)) right q refl)
        go (some place) q = ap (refuse_at 5) (places.in_front (sheet_of edition1 w) message refl [] table [] (words_in (get_or w 1 0)) right place q)

    pub no_entry : {place : ℕ} → range ≡ Some place → refused 5 place ≡ tests
    unfolding nearest_tests entries_test sheet_of
    no_entry q = agree 10 1 (length table) (words_in (get_or w 1 0)) right (found 5 {r = range} _ ranged q)

    module _ (elements : range ≡ None) {room : ℕ} (has : length output ≡ room) {size : ℕ} (is : size ≡ words_in (get_or w 2 0) + 1 + (get_or w 1 0 - get_or w 2 0) / 2) where
      with_size : {o : Outcome} → o ≡ output_test size size room → o ≡ tests
      unfolding nearest_tests entries_test nearest_size sheet_of
      with_size e = agree 10 1 (length table) (words_in (get_or w 1 0)) right (clear 5 {r = range} ranged elements (e ∙ (λ i. output_test (is i) (is i) (sym has i))))

      pub few_words : room < size → refused 11 size ≡ tests
      few_words l = with_size (short size size room l)

      pub searches : size ≤ room → accepted ≡ tests
      searches l = with_size (enough size size room l)
