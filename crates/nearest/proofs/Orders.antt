-- The sizes that a sheet gives are as the decoder wants them, its points are those of domain 0, and what the tests' outcome says about the definition's result.
use Prim.Native.Nat.{ℕ, zero, suc, ◌+◌, ◌-◌, ◌*◌, ◌/◌, ◌^◌, ◌≤◌, ◌<◌}
use native.Mathlib.Nat.{pow-suc}
use native.Mathlib.Omega.{arith}
use mathlib.Core.Path.{◌≡◌, refl, sym, ap, ◌∙◌}
use mathlib.Core.List.{List}
use mathlib.Core.Option.{Option, none, some}
use lib.Dec.{ltb}
use lib.ListN.{length, get_or}
use borrow.Author.Tests.{ltb-false}
use Rattle.definition.specs.Field.{Element, elements_in, field_in, number_in, spelling_of}
use Rattle.definition.specs.Sheet.{Sheet, edition1, first_level, root_of_unity, sheet_of}
use Rattle.definition.specs.Reading.{sheet_test}
use Rattle.definition.specs.Verdict as definition
use Rattle.definition.specs.Verdict.{◌then◌}
use Rattle.definition.specs.Prove.{Answer, Result, finish, output_test, refusal, sheet_length_test}
use Rattle.nearest_definition.specs.Nearest.{entries_test, entry_range_test, found_test, nearest, nearest_size, nearest_tests, nearest_to, nearest_words, wrong_points}
use Rattle.layouts.proofs.Lawful.{lawful}
use Rattle.layouts.proofs.PlainSheet.{sheet_plain}
use Rattle.layouts.specs.Spellings.{count_add, count_mono, count_most}
use Rattle.layouts.specs.Tests.{equal_passes, if_passes, then_passes}
use Rattle.domain.specs.Powers.{Powers}
use Rattle.outcome.specs.declared.Outcome.{Outcome}
use Rattle.outcome.specs.declared.Outcome.TheVariants.{Accepted, Refused}
use Rattle.outcome.specs.Meaning.{outcome_of}
use Rattle.spelling.specs.ByField.{words_at}
use Rattle.tables.specs.Halving.{Halves}
use Rattle.candidate.specs.Tables.{Sized}
use Rattle.closest.specs.Report.{reported}
use Rattle.nearest.specs.Searched.{found_words, searched, searched_at, Searched, SearchedFor}

-- ---- sizes

-- both are even, as both are powers of two above 1
both_even : (a b d n : ℕ) → n ≡ 2 ^ suc a → d ≡ 2 ^ b → 1 < d → d < n → d + ((n - d) / 2 + (n - d) / 2) ≡ n
both_even a zero d n en ed h l = absurd (omega arith)
both_even a (suc b) d n en ed h l = omega (arith, pow-suc 2 a, pow-suc 2 b)

module _ (w : List ℕ) (long : 12 ≤ length w) (passed : sheet_test edition1 w ≡ definition.accepted) where
  pub halves : {n : ℕ} → n ≡ get_or w 1 0 → Halves (get_or w 2 0) n
  unfolding sheet_of
  halves en =
      let x = lawful edition1 w long passed in
      record { log = x.b; log_size = suc x.a; count_is = x.degree; size_is = en ∙ x.size; fits = omega (arith, x.below) }

  pub sized : {n : ℕ} → n ≡ get_or w 1 0 → Sized n (get_or w 2 0)
  unfolding sheet_of
  sized {n} en =
      let x = lawful edition1 w long passed in
      let q = (sheet_plain edition1 w passed).plain in
      let d = get_or w 2 0 in
      let fewer : d < n = omega (arith, en, q.degree_range, q.size_range) in
      record {
        halves = record { log = suc x.a; log_size = suc x.a; count_is = en ∙ x.size; size_is = en ∙ x.size; fits = omega arith };
        two = omega (arith, en, q.size_range);
        small = omega (arith, en, x.small);
        some = omega (arith, q.degree_range);
        fewer = fewer;
        even = both_even x.a x.b d n (en ∙ x.size) x.degree (omega (arith, q.degree_range)) fewer;
      }

  -- a table's words, and those of the coefficients, which are at most half as many; four times 128 where there are at most 256 points
  pub entries_small : words_at (get_or w 0 0) (get_or w 1 0) ≤ 4096
  unfolding sheet_of
  entries_small = (lawful edition1 w long passed).words

  pub degree_words : words_at (get_or w 0 0) (get_or w 2 0) ≤ 2048
  degree_words =
      let σ = spelling_of (get_or w 0 0) in
      let d = get_or w 2 0 in
      let q = (sheet_plain edition1 w passed).plain in
      omega (arith, count_add σ d d, count_mono σ (d + d) (get_or w 1 0) (omega (arith, q.degree_range.1)), entries_small)

  pub few_degree_words : get_or w 1 0 ≤ 256 → words_at (get_or w 0 0) (get_or w 2 0) ≤ 512
  few_degree_words h = omega (arith, count_most (spelling_of (get_or w 0 0)) (get_or w 2 0), (sheet_plain edition1 w passed).plain.degree_range.1)

-- ---- the search over the points of the sheet is the sheet's

words_of_lem : (h : Sheet) (table : List ℕ) (o : Option (List (Element h.spelling))) →
    nearest_words h table o ≡ found_words h.spelling (field_in h.spelling h.prime) (number_in h.spelling (root_of_unity h)) (first_level h) (elements_in h.spelling table) o
unfolding nearest_words wrong_points found_words reported
words_of_lem h table none = refl
words_of_lem h table (some f) = refl

pub for_sheet : (w pw table output : List ℕ) {a : Answer} {after : List ℕ} → Powers (get_or w 0 0) (root_of_unity (sheet_of edition1 w)) pw → length pw ≡ get_or w 1 0 →
    Searched (get_or w 0 0) pw table (get_or w 2 0) output a after → SearchedFor (sheet_of edition1 w) table output a after
unfolding sheet_of first_level nearest_to searched
for_sheet w pw table output p size s =
    let h = sheet_of edition1 w in
    let o = nearest_to h table in
    let r = s (root_of_unity h) (first_level h) p refl (sym size) in
    let t : searched_at (get_or w 0 0) (root_of_unity h) (first_level h) table (get_or w 2 0) output ≡ finish (found_test o) (length (nearest_words h table o)) (nearest_words h table o) output =
    ap (λ (words : List ℕ). finish (found_test o) (length words) words output) (sym (words_of_lem h table o)) in
    (r.0 ∙ ap (λ (x : Result). x.answer) t, r.1 ∙ ap (λ (x : Result). x.output) t)

-- ---- the tests

then_last : (a b c d : definition.Outcome) → (a then b then c then d) ≡ ((a then b then c) then d)
unfolding ◌then◌
then_last definition.accepted definition.accepted c d = refl
then_last definition.accepted (definition.refused n p) c d = refl
then_last (definition.refused n p) b c d = refl

-- what the passing of all tests but 19 says: the sheet's words, n0 entries, and room for all that may be written
pub record Passed (w table output : List ℕ) : Type 0 where
  pub long : length w ≡ 12
  pub sheet : sheet_test edition1 w ≡ definition.accepted
  pub entries : length table ≡ words_at (get_or w 0 0) (get_or w 1 0)
  pub room : words_at (get_or w 0 0) (get_or w 2 0) + 1 + (get_or w 1 0 - get_or w 2 0) / 2 ≤ length output

module _ (w table output : List ℕ) (r : Outcome) (tested : (out : List ℕ) → length out ≡ length output →
    outcome_of r ≡ (sheet_length_test edition1 w then sheet_test edition1 w then nearest_tests (sheet_of edition1 w) table out)) where
  abbrev h : Sheet
  h = sheet_of edition1 w

  abbrev written : List ℕ
  written = nearest_words (sheet_of edition1 w) table (nearest_to (sheet_of edition1 w) table)

  result_is : {o : definition.Outcome} → outcome_of r ≡ o → nearest w table output ≡ finish (o then found_test (nearest_to (sheet_of edition1 w) table)) (length written) written output
  unfolding nearest
  result_is e =
      ap (λ (o : definition.Outcome). finish o (length written) written output)
      (then_last (sheet_length_test edition1 w) (sheet_test edition1 w) (nearest_tests h table output) (found_test (nearest_to h table))
      ∙ ap (λ (o : definition.Outcome). o then found_test (nearest_to h table)) (sym (tested output refl) ∙ e))

  -- a refusal: the output as before
  pub refused_is : {number place : ℕ} → r ≡ Refused number place → nearest w table output ≡ record { answer = refusal number place; output = output }
  unfolding outcome_of finish ◌then◌
  refused_is e = result_is (ap outcome_of e)

  module _ (e : r ≡ Accepted) where
    -- the search answers
    pub searches : {a : Answer} {after : List ℕ} → SearchedFor (sheet_of edition1 w) table output a after → (a ≡ (nearest w table output).answer) × (after ≡ (nearest w table output).output)
    unfolding outcome_of ◌then◌
    searches s = let q = result_is (ap outcome_of e) in (s.0 ∙ sym (ap (λ (x : Result). x.answer) q), s.1 ∙ sym (ap (λ (x : Result). x.output) q))

    pub passes : Passed w table output
    unfolding outcome_of sheet_length_test nearest_tests entries_test output_test nearest_size sheet_of
    passes =
        let a = then_passes (sheet_length_test edition1 w) _ (sym (tested output refl) ∙ ap outcome_of e) in
        let b = then_passes (sheet_test edition1 w) _ a.1 in
        let c = then_passes (entries_test (sheet_of edition1 w) table) _ b.1 in
        let d = then_passes (entry_range_test (sheet_of edition1 w) table) _ c.1 in
        let most = words_at (get_or w 0 0) (get_or w 2 0) + 1 + (get_or w 1 0 - get_or w 2 0) / 2 in
        record {
          long = equal_passes 10 0 (length w) 12 a.0;
          sheet = b.0;
          entries = equal_passes 10 1 (length table) (words_at (get_or w 0 0) (get_or w 1 0)) c.0;
          room = ltb-false (length output) most (if_passes 11 most (ltb (length output) most) d.1);
        }
