-- Reading stage by stage: what each answer of a test says of the definition's outcome.
use Prim.Native.Nat.{ℕ, ◌+◌, ◌*◌, ◌/◌, ◌≤◌}
use native.Mathlib.Omega.{arith}
use borrow.Author.Tests.{eq-eqb, ne_eqb}
use mathlib.Core.Path.{◌≡◌, sym, ap, ◌∙◌}
use mathlib.Core.Bool.{not}
use mathlib.Core.List.{List, map, zip_with}
use mathlib.Core.Option.{Option, none, some}
use lib.Dec.{eqb}
use lib.ListN.{length, take, drop}
use lib.Seq.{take_all, take-take, length-take-le}
use Rattle.layouts.specs.SheetRules.{short_sheet}
use Rattle.definition.specs.Lists.{first_of, first_true}
use Rattle.definition.specs.Sheet.{Edition, sheet_length, sheet_of, sheet_rules, test_order}
use Rattle.definition.specs.Layout.{layout, words_due}
use Rattle.definition.specs.Block.{block_count}
use Rattle.definition.specs.Verdict.{Outcome, accepted, refused, refuse_at, refuse_if, ◌then◌}
use Rattle.definition.specs.Reading.{sheet_test, blocks_test, out_of_range, range_test, fill_test, body_tests, stream_tests, reading}
use Rattle.std.specs.Prelude.{None}
use Rattle.outcome.specs.declared.Outcome.{Outcome as Answered}
use Rattle.outcome.specs.declared.Outcome.TheVariants.{Refused}
use Rattle.outcome.specs.Meaning.{Found, outcome_of}
use Rattle.sheet.specs.Rules.{none_broken, refusal_of}
use Rattle.sheet.specs.Front.{test_front, sheet_front}
use Rattle.stream.specs.Loaded.{Loaded, loaded_all}
use Rattle.reading.specs.Stages.{Loads, Read}
use Rattle.reading.specs.Passed.{few_blocks}

-- the tests of 5 and 6 by their first place
unfoldable pub range : Edition → List ℕ → Option ℕ
range ed w = first_true (sheet_length ed) (zip_with (out_of_range (sheet_of ed w)) (layout (sheet_of ed w)) (drop (sheet_length ed) w))

unfoldable pub fill : Edition → List ℕ → Option ℕ
fill ed w = first_true (words_due ed (sheet_of ed w)) (map (λ x. not (eqb x 0)) (drop (words_due ed (sheet_of ed w)) w))

abbrev range_of : Edition → List ℕ → Outcome
range_of ed w = range_test (sheet_of ed w) (sheet_length ed) (layout (sheet_of ed w)) w

abbrev fill_of : Edition → List ℕ → Outcome
fill_of ed w = fill_test (words_due ed (sheet_of ed w)) w

-- the fill is tested from the number of words due on
pub fill_from : (ed : Edition) (w : List ℕ) {due : ℕ} {t : Option ℕ} → due ≡ words_due ed (sheet_of ed w) → t ≡ first_true due (map (λ x. not (eqb x 0)) (drop due w)) → t ≡ fill ed w
unfolding fill
fill_from ed w e h = h ∙ ap (λ (due : ℕ). first_true due (map (λ x. not (eqb x 0)) (drop due w))) e

module _ (ed : Edition) (w : List ℕ) where
  pub out_of_range_lem : (place : ℕ) → some place ≡ range ed w → refused 5 place ≡ (range_of ed w then fill_of ed w)
  unfolding range range_test ◌then◌ refuse_at
  out_of_range_lem place e = ap (λ (t : Option ℕ). refuse_at 5 t then fill_of ed w) e

  pub not_filled : (place : ℕ) → none ≡ range ed w → some place ≡ fill ed w → refused 6 place ≡ (range_of ed w then fill_of ed w)
  unfolding range fill range_test fill_test ◌then◌ refuse_at
  not_filled place e h = ap (λ (t : Option ℕ). refuse_at 6 t) h ∙ ap (λ (t : Option ℕ). refuse_at 5 t then fill_of ed w) e

  pub body_passes : none ≡ range ed w → none ≡ fill ed w → accepted ≡ (range_of ed w then fill_of ed w)
  unfolding range fill range_test fill_test ◌then◌ refuse_at
  body_passes e h = ap (λ (t : Option ℕ). refuse_at 6 t) h ∙ ap (λ (t : Option ℕ). refuse_at 5 t then fill_of ed w) e

-- ---- 3 and 4, by the first words of what is loaded

-- the words of a sheet that begin a list
abbrev front : Edition → List ℕ → List ℕ
front ed l = take (sheet_length ed) l

-- as many words as a sheet has, counted by the code
module _ (ed : Edition) (words : List ℕ) {n : ℕ} (q : n ≡ sheet_length ed) where
  pub front_long : n ≤ length words → sheet_length ed ≤ length (take n words)
  front_long l = omega (arith, length-take-le n words l)

  pub front_broken : {place : ℕ} → some place ≡ first_of (test_order ed) (map not (sheet_rules ed (take n words))) →
      some place ≡ first_of (test_order ed) (map not (sheet_rules ed (take (sheet_length ed) words)))
  front_broken e = e ∙ ap (λ (m : ℕ). first_of (test_order ed) (map not (sheet_rules ed (take m words)))) q

  pub front_holds : none ≡ first_of (test_order ed) (map not (sheet_rules ed (take n words))) → sheet_test ed (take (sheet_length ed) words) ≡ accepted
  front_holds e = ap (λ (m : ℕ). sheet_test ed (take m words)) (sym q) ∙ none_broken ed (take n words) e

  pub front_words : {due : ℕ} → due ≡ words_due ed (sheet_of ed (take n words)) → due ≡ words_due ed (sheet_of ed (take (sheet_length ed) words))
  front_words e = e ∙ ap (λ (m : ℕ). words_due ed (sheet_of ed (take m words))) q

  pub front_due : {due : ℕ} → due ≡ block_count (words_due ed (sheet_of ed (take n words))) → due ≡ block_count (words_due ed (sheet_of ed (take (sheet_length ed) words)))
  front_due e = e ∙ ap (λ (m : ℕ). block_count (words_due ed (sheet_of ed (take m words)))) q

module _ (ed : Edition) (words : List ℕ) (n : ℕ) (some_words : sheet_length ed ≤ n) (enough : n ≤ length words) where
  long : sheet_length ed ≤ length (take n words)
  long = omega (arith, length-take-le n words enough)

  same_front : front ed (take n words) ≡ front ed words
  same_front = take-take (sheet_length ed) n words some_words

  pub front_passes : sheet_test ed (take (sheet_length ed) words) ≡ accepted → sheet_test ed (take n words) ≡ accepted
  front_passes e = sym (test_front ed (take n words) long) ∙ ap (sheet_test ed) same_front ∙ e

  pub front_sheet : sheet_test ed (take (sheet_length ed) words) ≡ accepted → sheet_of ed (take (sheet_length ed) words) ≡ sheet_of ed (take n words)
  front_sheet e = sym (ap (sheet_of ed) same_front) ∙ sheet_front ed (take n words) long (front_passes e)

-- a block holds the words of a sheet
pub in_block : (ed : Edition) (blocks : ℕ) → 1 ≤ blocks → sheet_length ed ≤ 127 * blocks
in_block ed blocks one = omega (arith, short_sheet ed)

-- the blocks that words fill
pub in_blocks : {due n : ℕ} → due ≡ n → (due + 126) / 127 ≡ block_count n
unfolding block_count
in_blocks e = ap (λ (m : ℕ). (m + 126) / 127) e

-- as many blocks as are due hold the words due
pub due_fits : (ed : Edition) (words : List ℕ) (blocks due : ℕ) → 127 * blocks ≤ length words → 1 ≤ blocks → sheet_test ed (take (sheet_length ed) words) ≡ accepted → blocks ≡ (due + 126) / 127 →
    due ≡ words_due ed (sheet_of ed (take (sheet_length ed) words)) → (due ≡ words_due ed (sheet_of ed (take (127 * blocks) words))) × (due ≤ length (take (127 * blocks) words))
due_fits ed words blocks due enough one e same is = (
  is ∙ ap (words_due ed) (front_sheet ed words (127 * blocks) (in_block ed blocks one) enough e),
  omega (arith, length-take-le (127 * blocks) words enough),
)

module _ (ed : Edition) {words : List ℕ} {blocks : ℕ} {w : List ℕ} (one : 1 ≤ blocks) (loads : Loads 67 words blocks w) where
  fronts_are : front ed words ≡ front ed w
  fronts_are =
      let le : sheet_length ed ≤ 127 * 1 = in_block ed 1 (omega arith) in
      sym (take-take (sheet_length ed) (127 * 1) words le) ∙ ap (λ (l : List ℕ). front ed l) (loads.front 1 one (omega arith)) ∙ take-take (sheet_length ed) (127 * 1) w le

  w_long : sheet_length ed ≤ length w
  w_long = omega (arith, loads.size, in_block ed blocks one)

  test_is : sheet_test ed (front ed words) ≡ sheet_test ed w
  test_is = ap (sheet_test ed) fronts_are ∙ test_front ed w w_long

  abbrev body_of : Outcome
  body_of = body_tests (sheet_of ed w) (sheet_length ed) (layout (sheet_of ed w)) blocks w

  pub sheet_broken : (place : ℕ) → some place ≡ first_of (test_order ed) (map not (sheet_rules ed (take (sheet_length ed) words))) → refused 3 place ≡ stream_tests ed blocks w
  unfolding stream_tests ◌then◌ refuse_at
  sheet_broken place e =
      let h : refused 3 place ≡ sheet_test ed w = refusal_of ed (front ed words) (some place) e ∙ test_is in
      ap (λ (o : Outcome). o then body_of) h

  module _ (passed : sheet_test ed (take (sheet_length ed) words) ≡ accepted) where
    w_passes : sheet_test ed w ≡ accepted
    w_passes = sym test_is ∙ passed

    sheet_is : sheet_of ed (take (sheet_length ed) words) ≡ sheet_of ed w
    sheet_is = ap (sheet_of ed) fronts_are ∙ sheet_front ed w w_long w_passes

    to_body : body_tests (sheet_of ed w) (sheet_length ed) (layout (sheet_of ed w)) blocks w ≡ stream_tests ed blocks w
    unfolding stream_tests ◌then◌
    to_body = ap (λ (o : Outcome). o then body_of) (sym w_passes)

    pub other_blocks : (due : ℕ) → due ≡ block_count (words_due ed (sheet_of ed (take (sheet_length ed) words))) → (blocks ≡ due → ⊥) → refused 4 due ≡ stream_tests ed blocks w
    unfolding body_tests blocks_test refuse_if ◌then◌ words_due
    other_blocks due is differs =
        let e : due ≡ block_count (words_due ed (sheet_of ed w)) = is ∙ ap (λ (n : ℕ). block_count n) (ap (words_due ed) sheet_is) in
        sym (rw (sym e, ne_eqb blocks due differs)) ∙ to_body

    pub whole : (due : ℕ) → due ≡ block_count (words_due ed (sheet_of ed (take (sheet_length ed) words))) → blocks ≡ due → due ≤ 67 → {o : Outcome} →
        o ≡ (range_of ed (take (127 * blocks) words) then fill_of ed (take (127 * blocks) words)) → o ≡ stream_tests ed blocks w
    unfolding body_tests blocks_test refuse_if ◌then◌ words_due
    whole due is same few {o} h =
        let e : blocks ≡ block_count (words_due ed (sheet_of ed w)) = same ∙ is ∙ ap (λ (n : ℕ). block_count n) (ap (words_due ed) sheet_is) in
        let l : take (127 * blocks) words ≡ w = loads.front blocks (omega arith) (omega arith) ∙ take_all (127 * blocks) w (omega (arith, loads.size)) in
        h ∙ ap (λ (v : List ℕ). range_of ed v then fill_of ed v) l ∙ sym (rw (eq-eqb blocks (block_count (words_due ed (sheet_of ed w))) e)) ∙ to_body

-- ---- what reading leaves

never : {n p : ℕ} → refused n p ≡ accepted → ⊥
never e = let z : ◌≡◌ {A = ℕ} 0 1 = cc in omega arith

pub read_refused : (ed : Edition) (file words : List ℕ) {n p : ℕ} → refused n p ≡ reading ed file → Read ed file (Refused n p) words
unfolding outcome_of
read_refused ed file words e = record { outcome = e; stream = λ h. absurd (never (e ∙ h)) }

pub read_loaded : (ed : Edition) (file : List ℕ) {found : Found} {r : Answered} {words : List ℕ} → Loaded file 67 found words → found ≡ None → outcome_of r ≡ reading ed file → Read ed file r words
read_loaded ed file loaded right e = record { outcome = e; stream = λ h. loaded_all file loaded right (few_blocks ed file h) }
