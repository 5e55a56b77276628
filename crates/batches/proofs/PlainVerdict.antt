-- The outcome of a batch that passes reading is that of deciding its plain stream, but for the word number of a 7 or a 14; its reads are the plain stream's, those of
-- level 0 once for each table.
use Rattle.std.specs.Prelude.{ℕ, ◌+◌, ◌*◌, ◌/◌, ◌≤◌, ◌<◌, Bool, true, false, cond, ◌||◌, ◌↔◌, ◌≡◌, eqb, get_or, drop}
use Rattle.std.proofs.Math.Nat.{zero-add}
use Rattle.std.proofs.Common.{arith, true≢false, sym, ◌∙◌, subst}
use mathlib.Core.List.{List, []}
use Rattle.std.proofs.Math.Path.{refl, ap}
use Rattle.std.proofs.Math.ListN.{length}
use Rattle.batch_definition.specs.Batch.{batch_deciding, batch_layout, batch_reading, batch_start, batch_test, batch_tests, batch_words, decide_batch, read_batch, verify_batch}
use Rattle.definition.specs.Block.{block_count, stream_of}
use Rattle.definition.specs.Deciding.{counted, decide, deciding, equal_test, out_test, out_tests, own_place, places_of, reads_of}
use Rattle.definition.specs.Layout.{layout, read_transcript}
use Rattle.definition.specs.Lists.{different}
use Rattle.definition.specs.Reading.{blocks_test, body_tests, check_test, length_test, range_test, sheet_test}
use Rattle.definition.specs.Sheet.{Sheet, edition1, first_level, sheet_of, shift_count}
use Rattle.definition.specs.Verdict.{Outcome, Verdict, accepted, refused, then_verdict}
use Rattle.list_laws.specs.All.{All}
use Rattle.layouts.specs.FileWords.{stream_length}
use Rattle.layouts.proofs.Lawful.{lawful}
use Rattle.layouts.specs.Levels.{level_of, rounds_of, sheet_field, sheet_root}
use Rattle.layouts.specs.LawfulSheets.{Paired}
use Rattle.layouts.specs.Tests.{equal_passes, then_passes}
use Rattle.completeness.proofs.Answers.{Refuses, at_refuses, then_refuses}
use Rattle.completeness.specs.Faults.{part_words, shifts}
use Rattle.completeness.specs.Numbered.{level_reads}
use Rattle.completeness.proofs.ReadsCounted.{level_reads_lem, shift_points}
use Rattle.completeness.specs.Ready.{ready_sized}
use Rattle.batches.proofs.BatchAnswers.{batch_refuses}
use Rattle.batches.specs.BatchRules.{tables_few}
use Rattle.batches.specs.Batched.{higher, higher_by, placed, plain_words}
use Rattle.batches.specs.FirstIndices.{indices_below}
use Rattle.batches.proofs.PlainStream as plain

-- a 7 or a 14, and none of them
abbrev pub Outs : ℕ → ℕ → Type 0
Outs n q = (eqb n 7 || eqb n 14) ≡ true

abbrev pub Others : ℕ → ℕ → Type 0
Others n q = (eqb n 7 || eqb n 14) ≡ false

placed_outs : (k : ℕ) (o : Outcome) → Refuses Outs o → higher k o ≡ placed k o
unfolding higher placed
placed_outs k accepted h = refl
placed_outs k (refused n q) h = ap (λ (b : Bool). refused n (cond b (q + k) q)) (sym h)

placed_others : (k : ℕ) (o : Outcome) → Refuses Others o → o ≡ placed k o
unfolding placed
placed_others k accepted h = refl
placed_others k (refused n q) h = ap (λ (b : Bool). refused n (cond b (q + k) q)) (sym h)

higher_accepted : (k : ℕ) (o : Outcome) → higher k o ≡ accepted → o ≡ accepted
unfolding higher
higher_accepted k accepted e = refl
higher_accepted k (refused n q) e = absurd (let z : ◌≡◌ {A = ℕ} 0 1 = cc in omega arith)

module _ (file : List ℕ) (read : batch_reading file ≡ accepted) where
  abbrev w : List ℕ
  w = stream_of file

  abbrev h : Sheet
  h = sheet_of edition1 (stream_of file)

  abbrev N : ℕ
  N = get_or (stream_of file) 12 0

  abbrev K : ℕ
  K = higher_by (sheet_of edition1 (stream_of file)) (get_or (stream_of file) 12 0)

  -- what reading has shown
  pub tests : (sheet_test edition1 w ≡ accepted) × (batch_test h N (drop 13 w) ≡ accepted) × (blocks_test (batch_words h N) (length file / 512) ≡ accepted)
      × (range_test h (batch_start N) (batch_layout h N) w ≡ accepted)
  unfolding batch_reading batch_tests body_tests batch_words
  tests =
      let a = then_passes (check_test file) _ (then_passes (length_test file) _ read).1 in
      let b = then_passes (sheet_test edition1 w) _ a.1 in
      let c = then_passes (batch_test h N (drop 13 w)) _ b.1 in
      let d = then_passes (blocks_test (batch_start N + length (batch_layout h N)) (length file / 512)) _ c.1 in
      let e = then_passes (range_test h (batch_start N) (batch_layout h N) w) _ d.1 in
      (b.0, c.0, d.0, e.0)

  pub some : 1 ≤ get_or (stream_of file) 12 0
  some = (tables_few h N (drop 13 w) tests.1).0

  pub full : batch_words (sheet_of edition1 (stream_of file)) (get_or (stream_of file) 12 0) ≤ length (stream_of file)
  unfolding blocks_test block_count
  full =
      let e : length file / 512 ≡ block_count (batch_words h N) = equal_passes 4 (block_count (batch_words h N)) (length file / 512) (block_count (batch_words h N)) tests.2 in
      omega (arith, e, stream_length file)

  -- the plain stream has what deciding asks of its words
  pub plain_ready : (sheet_test edition1 (plain_words (stream_of file)) ≡ accepted) × (sheet_of edition1 (plain_words (stream_of file)) ≡ sheet_of edition1 (stream_of file))
      × (range_test (sheet_of edition1 (stream_of file)) 12 (layout (sheet_of edition1 (stream_of file))) (plain_words (stream_of file)) ≡ accepted)
  plain_ready = (plain.plain_passes w tests.0 some full, plain.plain_sheet w tests.0 some full, plain.plain_range w tests.0 some full tests.3)

  outs_are : Refuses Outs (out_tests h 12 (layout h) (plain_words w))
  unfolding out_tests out_test equal_test
  outs_are = then_refuses Outs (out_test h 12 (layout h) (plain_words w)) _ (at_refuses Outs 7 12 _ (λ j l. refl)) (at_refuses Outs 14 12 _ (λ j l. refl))

  decided_are : Refuses Others (decide_batch (sheet_field h) (sheet_root h) (first_level h) (read_batch h.spelling h (drop 12 w))).outcome
  unfolding read_batch
  decided_are = batch_refuses h Others (λ i l u. refl) (λ j l. refl) (lawful edition1 w (plain.enough w tests.0 some full) tests.0).paired (read_batch h.spelling h (drop 12 w)) _ refl

  batch_decides : out_tests h 12 (layout h) (plain_words w) ≡ accepted → (batch_deciding w).outcome ≡ (decide_batch (sheet_field h) (sheet_root h) (first_level h) (read_batch h.spelling h (drop 12 w))).outcome
  unfolding batch_deciding counted then_verdict higher
  batch_decides e =
      ap (λ (o : Outcome). (then_verdict o (counted (decide_batch (sheet_field h) (sheet_root h) (first_level h) (read_batch h.spelling h (drop 12 w))))).outcome) (plain.outs_higher w tests.0 some full ∙ ap (higher K) e)

  refused_both : (n q : ℕ) → out_tests h 12 (layout h) (plain_words w) ≡ refused n q → ((batch_deciding w).outcome ≡ higher K (refused n q)) × ((deciding edition1 (plain_words w)).outcome ≡ refused n q)
  unfolding batch_deciding deciding counted then_verdict higher
  refused_both n q e = (
    ap (λ (o : Outcome). (then_verdict o (counted (decide_batch (sheet_field h) (sheet_root h) (first_level h) (read_batch h.spelling h (drop 12 w))))).outcome) (plain.outs_higher w tests.0 some full ∙ ap (higher K) e),
    ap (λ (s : Sheet). (then_verdict (out_tests s 12 (layout s) (plain_words w)) (counted (decide (sheet_field s) (sheet_root s) (first_level s) (read_transcript s.spelling s (drop 12 (plain_words w)))))).outcome) (plain.plain_sheet w tests.0 some full)
        ∙ ap (λ (o : Outcome). (then_verdict o (counted (decide (sheet_field h) (sheet_root h) (first_level h) (read_transcript h.spelling h (drop 12 (plain_words w)))))).outcome) e,
  )

  pub decided_as_plain : (verify_batch file).outcome ≡ placed (higher_by (sheet_of edition1 (stream_of file)) (get_or (stream_of file) 12 0)) (deciding edition1 (plain_words (stream_of file))).outcome
  unfolding verify_batch then_verdict
  decided_as_plain = ap (λ (o : Outcome). (then_verdict o (batch_deciding w)).outcome) read ∙ go (out_tests h 12 (layout h) (plain_words w)) refl
    where
      same : out_tests h 12 (layout h) (plain_words w) ≡ accepted → (batch_deciding w).outcome ≡ placed K (deciding edition1 (plain_words w)).outcome
      same e =
          plain.batch_outcome w tests.0 some full e
          ∙ placed_others K (deciding edition1 (plain_words w)).outcome (subst (Refuses Others) (sym (batch_decides e) ∙ plain.batch_outcome w tests.0 some full e) decided_are)

      go : (o : Outcome) → out_tests h 12 (layout h) (plain_words w) ≡ o → (batch_deciding w).outcome ≡ placed K (deciding edition1 (plain_words w)).outcome
      go accepted e = same e
      go (refused n q) e =
          (refused_both n q e).0 ∙ placed_outs K (refused n q) (subst (Refuses Outs) e outs_are) ∙ ap (placed K) (sym (refused_both n q e).1)

  -- ---- the reads

  -- the tests of out coins
  outs_plain : out_tests (sheet_of edition1 (stream_of file)) (batch_start (get_or (stream_of file) 12 0)) (batch_layout (sheet_of edition1 (stream_of file)) (get_or (stream_of file) 12 0)) (stream_of file) ≡ accepted →
      out_tests (sheet_of edition1 (stream_of file)) 12 (layout (sheet_of edition1 (stream_of file))) (plain_words (stream_of file)) ≡ accepted
  outs_plain e = higher_accepted K _ (sym (plain.outs_higher w tests.0 some full) ∙ e)

  abbrev v : List ℕ
  v = plain_words (stream_of file)

  -- a shift index of round 1 of the plain stream is below the number of points
  module _ (rounds : 0 < rounds_of (sheet_of edition1 (stream_of file))) where
    paired : Paired (sheet_of edition1 (stream_of file))
    paired = (lawful edition1 w (plain.enough w tests.0 some full) tests.0).paired

    below : All (λ j. j < shift_count (level_of (sheet_of edition1 (stream_of file)) 0)) (part_words edition1 (sheet_of edition1 (stream_of file)) (plain_words (stream_of file)) (shifts 0))
    below = indices_below h v paired (plain.plain_due w tests.0 some full) plain_ready.2 rounds

    first_reads_lem : reads_of (places_of (level_of (sheet_of edition1 (stream_of file)) 0) (own_place (level_of (sheet_of edition1 (stream_of file)) 0)) (part_words edition1 (sheet_of edition1 (stream_of file)) (plain_words (stream_of file)) (shifts 0)))
        ≡ level_reads (sheet_of edition1 (stream_of file)) 0 (part_words edition1 (sheet_of edition1 (stream_of file)) (plain_words (stream_of file)) (shifts 0))
    unfolding reads_of different
    first_reads_lem = level_reads_lem h 0 [] (part_words edition1 h v (shifts 0)) tt (shift_points _ (level_of h 0) (ready_sized edition1 w (plain.enough w tests.0 some full) tests.0 0 (omega arith))) below ∙ zero-add _

  batch_verdict : verify_batch file ≡ batch_deciding (stream_of file)
  unfolding verify_batch then_verdict
  batch_verdict = ap (λ (o : Outcome). then_verdict o (batch_deciding w)) read

  pub reads_with_rounds : out_tests (sheet_of edition1 (stream_of file)) (batch_start (get_or (stream_of file) 12 0)) (batch_layout (sheet_of edition1 (stream_of file)) (get_or (stream_of file) 12 0)) (stream_of file) ≡ accepted →
      0 < rounds_of (sheet_of edition1 (stream_of file)) →
      (verify_batch file).reads + level_reads (sheet_of edition1 (stream_of file)) 0 (part_words edition1 (sheet_of edition1 (stream_of file)) (plain_words (stream_of file)) (shifts 0))
      ≡ (deciding edition1 (plain_words (stream_of file))).reads
      + get_or (stream_of file) 12 0 * level_reads (sheet_of edition1 (stream_of file)) 0 (part_words edition1 (sheet_of edition1 (stream_of file)) (plain_words (stream_of file)) (shifts 0))
  reads_with_rounds o rounds =
      subst (λ (n : ℕ). (verify_batch file).reads + n ≡ (deciding edition1 v).reads + N * n) (first_reads_lem rounds)
      (subst (λ (d : Verdict). d.reads + reads_of (places_of (level_of h 0) (own_place (level_of h 0)) (part_words edition1 h v (shifts 0))) ≡ (deciding edition1 v).reads + N * reads_of (places_of (level_of h 0) (own_place (level_of h 0)) (part_words edition1 h v (shifts 0)))) (sym batch_verdict)
      (plain.reads_rounds w tests.0 some full (outs_plain o) (omega arith)))

  pub reads_without_rounds : out_tests (sheet_of edition1 (stream_of file)) (batch_start (get_or (stream_of file) 12 0)) (batch_layout (sheet_of edition1 (stream_of file)) (get_or (stream_of file) 12 0)) (stream_of file) ≡ accepted →
      rounds_of (sheet_of edition1 (stream_of file)) ≡ 0 → (verify_batch file).reads ≡ get_or (stream_of file) 12 0 * (deciding edition1 (plain_words (stream_of file))).reads
  reads_without_rounds o none₀ = ap (λ (d : Verdict). d.reads) batch_verdict ∙ plain.reads_no_round w tests.0 some full (outs_plain o) none₀

  -- ---- which of them the code is to count, by the plain outcome alone

  not_both : {b : Bool} → b ≡ true → b ≡ false → ⊥
  not_both e f = true≢false (sym e ∙ f)

  -- where deciding answers neither 7 nor 14, the tests of out coins pass
  pub outs_passed : Refuses Others (deciding edition1 (plain_words (stream_of file))).outcome →
      out_tests (sheet_of edition1 (stream_of file)) (batch_start (get_or (stream_of file) 12 0)) (batch_layout (sheet_of edition1 (stream_of file)) (get_or (stream_of file) 12 0)) (stream_of file) ≡ accepted
  unfolding higher
  outs_passed others = plain.outs_higher w tests.0 some full ∙ ap (higher K) (go (out_tests h 12 (layout h) v) refl)
    where
      go : (o : Outcome) → out_tests h 12 (layout h) v ≡ o → out_tests h 12 (layout h) v ≡ accepted
      go accepted e = e
      go (refused n q) e = absurd (not_both (subst (Refuses Outs) e outs_are) (subst (Refuses Others) (refused_both n q e).1 others))

  -- where it answers one of them, there are no reads
  pub outs_unread : (n q : ℕ) → (deciding edition1 (plain_words (stream_of file))).outcome ≡ refused n q → Outs n q → (verify_batch file).reads ≡ 0
  unfolding batch_deciding then_verdict higher
  outs_unread n q is outs = ap (λ (d : Verdict). d.reads) batch_verdict ∙ go (out_tests h 12 (layout h) v) refl
    where
      go : (o : Outcome) → out_tests h 12 (layout h) v ≡ o → (batch_deciding w).reads ≡ 0
      go accepted e = absurd (not_both outs (subst (Refuses Others) (sym (batch_decides e) ∙ plain.batch_outcome w tests.0 some full e ∙ is) decided_are))
      go (refused m r) e =
          ap (λ (o : Outcome). (then_verdict o (counted (decide_batch (sheet_field h) (sheet_root h) (first_level h) (read_batch h.spelling h (drop 12 w))))).reads) (plain.outs_higher w tests.0 some full ∙ ap (higher K) e)

-- a batch is accepted exactly when it passes reading and deciding accepts its plain stream
pub accepted_exactly : (file : List ℕ) → ((verify_batch file).outcome ≡ accepted) ↔ ((batch_reading file ≡ accepted) × ((deciding edition1 (plain_words (stream_of file))).outcome ≡ accepted))
unfolding verify_batch then_verdict placed
accepted_exactly file = (there, back)
  where
    placed_accepted : (k : ℕ) (o : Outcome) → placed k o ≡ accepted → o ≡ accepted
    placed_accepted k accepted e = refl
    placed_accepted k (refused n q) e = absurd (let z : ◌≡◌ {A = ℕ} 0 1 = cc in omega arith)

    go : (o : Outcome) → (then_verdict o (batch_deciding (stream_of file))).outcome ≡ accepted → o ≡ accepted
    go accepted e = refl
    go (refused n q) e = e

    there : (verify_batch file).outcome ≡ accepted → (batch_reading file ≡ accepted) × ((deciding edition1 (plain_words (stream_of file))).outcome ≡ accepted)
    there e = let r = go (batch_reading file) e in (r, placed_accepted _ _ (sym (decided_as_plain file r) ∙ e))

    back : (batch_reading file ≡ accepted) × ((deciding edition1 (plain_words (stream_of file))).outcome ≡ accepted) → (verify_batch file).outcome ≡ accepted
    back (r, d) = decided_as_plain file r ∙ ap (placed _) d
