-- 3, 15 and 4: what each answer says of the outcome; they look at the first block alone; and what passing them gives. Assumes nothing.
use Prim.Native.Nat.{ℕ, ◌+◌, ◌-◌, ◌*◌, ◌/◌, ◌≤◌, ◌<◌}
use native.Mathlib.Decide.{dec_lt}
use native.Mathlib.Omega.{arith}
use borrow.Author.Tests.{eq-eqb, lt-leb, ne_eqb}
use mathlib.Core.Bool.{Bool, true, false, not, ◌&&◌}
use mathlib.Core.List.{List, ◌∷◌, map}
use mathlib.Core.Option.{Option, none, some}
use mathlib.Core.Path.{◌≡◌, refl, sym, ap, ◌∙◌}
use lib.Dec.{leb}
use lib.ListN.{length, get_or, take, drop}
use lib.Seq.{get_or-take, length-take-le, take-take}
use Rattle.batch_definition.specs.Batch.{batch_rules, batch_test, batch_words, most_entries}
use Rattle.batches.specs.BatchRules.{entries_few, tables_few}
use Rattle.batches.proofs.BatchSizes.{batch_blocks}
use Rattle.batches.specs.Batched.{higher_by}
use Rattle.batches.proofs.PlainStream.{words_higher}
use Rattle.definition.specs.Block.{block_count}
use Rattle.definition.specs.Layout.{words_due}
use Rattle.definition.specs.Lists.{first_of, first_true}
use Rattle.definition.specs.Reading.{blocks_test, sheet_test}
use Rattle.definition.specs.Sheet.{Sheet, between, edition1, sheet_of, sheet_rules, test_order}
use Rattle.definition.specs.Verdict.{Outcome, accepted, refuse_at, refuse_if, refused, ◌then◌}
use Rattle.layouts.specs.Tests.{at_none, equal_passes, then_passes}
use Rattle.list_laws.specs.Lists.{rest_all, same_part}
use Rattle.sheet.specs.Front.{sheet_front, test_front}
use Rattle.sheet.specs.Rules.{none_broken, refusal_of}
use Rattle.batch_reading.specs.Stages.{Ruled, number_tests}

module _ (w : List ℕ) (blocks : ℕ) where
  abbrev h : Sheet
  h = sheet_of edition1 w

  abbrev N : ℕ
  N = get_or w 12 0

  pub sheet_broken : (place : ℕ) → some place ≡ first_of (test_order edition1) (map not (sheet_rules edition1 w)) → refused 3 place ≡ number_tests blocks w
  unfolding number_tests refuse_at ◌then◌
  sheet_broken place e = ap (λ (o : Outcome). o then batch_test h N (drop 13 w) then blocks_test (batch_words h N) blocks) (refusal_of edition1 w (some place) e)

  module _ (passed : none ≡ first_of (test_order edition1) (map not (sheet_rules edition1 w))) where
    pub sheet_passes : sheet_test edition1 w ≡ accepted
    sheet_passes = none_broken edition1 w passed

    to_rules : (batch_test h N (drop 13 w) then blocks_test (batch_words h N) blocks) ≡ number_tests blocks w
    unfolding number_tests ◌then◌
    to_rules = ap (λ (o : Outcome). o then batch_test h N (drop 13 w) then blocks_test (batch_words h N) blocks) (sym sheet_passes)

    pub rule_broken : {count : ℕ} → count ≡ get_or w 12 0 → (place : ℕ) → some place ≡ first_true 0 (map not (batch_rules (sheet_of edition1 w) count (drop 13 w))) → refused 15 place ≡ number_tests blocks w
    unfolding batch_test refuse_at ◌then◌
    rule_broken c place e =
        ap (λ (t : Option ℕ). refuse_at 15 t then blocks_test (batch_words h N) blocks) (e ∙ ap (λ (k : ℕ). first_true 0 (map not (batch_rules h k (drop 13 w)))) c) ∙ to_rules

    module _ {count : ℕ} (c : count ≡ get_or w 12 0) (ruled : none ≡ first_true 0 (map not (batch_rules (sheet_of edition1 w) count (drop 13 w)))) where
      pub rules_pass : batch_test (sheet_of edition1 w) (get_or w 12 0) (drop 13 w) ≡ accepted
      unfolding batch_test
      rules_pass = at_none 15 _ (sym (ruled ∙ ap (λ (k : ℕ). first_true 0 (map not (batch_rules h k (drop 13 w)))) c))

      -- what the shift asks
      pub shift_asks : (1 ≤ count) × ((count ≤ 8) × (count * (sheet_of edition1 w).size ≤ most_entries (sheet_of edition1 w).spelling))
      shift_asks =
          let few = tables_few h N (drop 13 w) rules_pass in
          rw c (few.0, (few.1, entries_few h N (drop 13 w) rules_pass))

      to_blocks : blocks_test (batch_words h N) blocks ≡ number_tests blocks w
      unfolding ◌then◌
      to_blocks = ap (λ (o : Outcome). o then blocks_test (batch_words h N) blocks) (sym rules_pass) ∙ to_rules

      module _ {due shift : ℕ} (words : due ≡ words_due edition1 (sheet_of edition1 w)) (more : shift ≡ higher_by (sheet_of edition1 w) count) where
        due_blocks : (due + shift + 126) / 127 ≡ block_count (batch_words h N)
        unfolding block_count
        due_blocks =
            let e : due + shift ≡ batch_words h N = (λ i. words i + (more ∙ ap (higher_by h) c) i) ∙ sym (words_higher h N (tables_few h N (drop 13 w) rules_pass).0) in
            ap (λ (n : ℕ). (n + 126) / 127) e

        pub other_blocks : (blocks ≡ (due + shift + 126) / 127 → ⊥) → refused 4 ((due + shift + 126) / 127) ≡ number_tests blocks w
        unfolding blocks_test refuse_if
        other_blocks differs = sym (rw (sym due_blocks, ne_eqb blocks ((due + shift + 126) / 127) differs)) ∙ to_blocks

        pub numbers_pass : blocks ≡ (due + shift + 126) / 127 → accepted ≡ number_tests blocks w
        unfolding blocks_test refuse_if
        numbers_pass same = sym (rw (eq-eqb blocks (block_count (batch_words h N)) (same ∙ due_blocks))) ∙ to_blocks

-- the bounds stand among all words from there on
pub all_bounds : (w : List ℕ) → first_true 0 (map not (batch_rules (sheet_of edition1 w) (get_or w 12 0) (take (length w - 13) (drop 13 w)))) ≡ first_true 0 (map not (batch_rules (sheet_of edition1 w) (get_or w 12 0) (drop 13 w)))
all_bounds w = ap (λ (l : List ℕ). first_true 0 (map not (batch_rules (sheet_of edition1 w) (get_or w 12 0) l))) (rest_all 13 w)

-- ---- the first block alone

-- a number of tables above 8 is refused whatever the bounds are
no_tables : (count : ℕ) (x : Bool) → 8 < count → (between 1 8 count && x) ≡ false
unfolding between
no_tables count x l = ap (λ (b : Bool). (leb 1 count && b) && x) (lt-leb count 8 l) ∙ go (leb 1 count)
  where
    go : (b : Bool) → ((b && false) && x) ≡ false
    go true = refl
    go false = refl

many_tables : (s : Sheet) (count : ℕ) (bs : List ℕ) → 8 < count → batch_test s count bs ≡ refused 15 0
unfolding batch_test batch_rules first_true refuse_at
many_tables s count bs l = ap (λ (b : Bool). refuse_at 15 (first_true 0 (map not (b ∷ map (between 1 s.degree) (take count bs))))) (no_tables count (leb (count * s.size) (most_entries s.spelling)) l)

rules_front : (s : Sheet) (count : ℕ) (bs cs : List ℕ) → (count ≤ 8 → take count bs ≡ take count cs) → batch_test s count bs ≡ batch_test s count cs
unfolding batch_test batch_rules
rules_front s count bs cs same = go (dec_lt 8 count)
  where
    go : Dec (8 < count) → batch_test s count bs ≡ batch_test s count cs
    go (yes l) = many_tables s count bs l ∙ sym (many_tables s count cs l)
    go (no l) = ap (λ (bounds : List ℕ). refuse_at 15 (first_true 0 (map not ((between 1 8 count && leb (count * s.size) (most_entries s.spelling)) ∷ map (between 1 s.degree) bounds)))) (same (omega arith))

module _ (blocks n : ℕ) (w : List ℕ) (block : 127 ≤ n) (enough : n ≤ length w) where
  long : length (take n w) ≡ n
  long = length-take-le n w enough

  test_same : sheet_test edition1 (take n w) ≡ sheet_test edition1 w
  test_same = sym (test_front edition1 (take n w) (omega (arith, long))) ∙ ap (sheet_test edition1) (take-take 12 n w (omega arith)) ∙ test_front edition1 w (omega arith)

  pub number_same : get_or (take n w) 12 0 ≡ get_or w 12 0
  number_same = get_or-take n w 12 0 (omega arith)

  pub sheet_same : sheet_test edition1 w ≡ accepted → sheet_of edition1 (take n w) ≡ sheet_of edition1 w
  sheet_same e =
      sym (sheet_front edition1 (take n w) (omega (arith, long)) (test_same ∙ e)) ∙ ap (sheet_of edition1) (take-take 12 n w (omega arith)) ∙ sheet_front edition1 w (omega arith) e

  pub numbers_front : number_tests blocks (take n w) ≡ number_tests blocks w
  unfolding number_tests ◌then◌
  numbers_front = (λ i. test_same i then later (take n w)) ∙ go (sheet_test edition1 w) refl
    where
      later : List ℕ → Outcome
      later v = batch_test (sheet_of edition1 v) (get_or v 12 0) (drop 13 v) then blocks_test (batch_words (sheet_of edition1 v) (get_or v 12 0)) blocks

      same : sheet_test edition1 w ≡ accepted → later (take n w) ≡ later w
      same e =
          (λ i. batch_test (sheet_same e i) (number_same i) (drop 13 (take n w)) then blocks_test (batch_words (sheet_same e i) (number_same i)) blocks)
          ∙ ap (λ (o : Outcome). o then blocks_test (batch_words (sheet_of edition1 w) (get_or w 12 0)) blocks)
          (rules_front (sheet_of edition1 w) (get_or w 12 0) (drop 13 (take n w)) (drop 13 w) (λ l. same_part 13 (get_or w 12 0) n (take n w) w (omega arith) (take-take n n w (omega arith))))

      go : (o : Outcome) → sheet_test edition1 w ≡ o → (o then later (take n w)) ≡ (o then later w)
      go accepted e = same e
      go (refused m q) e = refl

-- ---- what passing gives

module _ (blocks : ℕ) (w : List ℕ) (passed : number_tests blocks w ≡ accepted) where
  all_pass : (sheet_test edition1 w ≡ accepted) × ((batch_test (sheet_of edition1 w) (get_or w 12 0) (drop 13 w) ≡ accepted) × (blocks ≡ block_count (batch_words (sheet_of edition1 w) (get_or w 12 0))))
  unfolding number_tests blocks_test
  all_pass =
      let a = then_passes (sheet_test edition1 w) _ passed in
      let b = then_passes (batch_test (sheet_of edition1 w) (get_or w 12 0) (drop 13 w)) _ a.1 in
      (a.0, (b.0, equal_passes 4 (block_count (batch_words (sheet_of edition1 w) (get_or w 12 0))) blocks (block_count (batch_words (sheet_of edition1 w) (get_or w 12 0))) b.1))

  pub few_blocks : 12 ≤ length w → blocks ≤ 99
  few_blocks long = omega (arith, all_pass.1.1, batch_blocks w long all_pass.0 (get_or w 12 0) (drop 13 w) all_pass.1.0)

  pub ruled : length w ≡ 127 * blocks → Ruled w
  unfolding block_count
  ruled size = record { sheet = all_pass.0; rules = all_pass.1.0; full = omega (arith, size, all_pass.1.1) }
