-- Every honest batch is accepted, for every r and all allowed coins; and so is what the prover writes.
use Rattle.std.specs.Prelude.{ℕ, suc, ◌*◌, ◌≤◌, List, ◌++◌, map, ◌↔◌, ◌≡◌, length, get_or, take}
use Rattle.std.proofs.Common.{arith, ◌∙◌, subst, take_at}
use Rattle.std.proofs.Math.Path.{sym, ap}
use Rattle.std.proofs.Math.ListN.{drop}
use Rattle.std.proofs.lemmas.List.{length-map}
use Rattle.batch_definition.specs.Batch.{batch_coefficients_test, batch_coins_test, batch_deciding, batch_function, batch_input_tests, batch_layout, batch_out_tests, batch_range_test, batch_test, batch_words, cut_by, decide_batch, honest_batch, prove_batch, sum_of, table_numbers, verify_batch}
use Rattle.definition.specs.Block.{block_count, file_of, stream_of}
use Rattle.definition.specs.Deciding.{counted, out_tests, reads_of}
use Rattle.definition.specs.Field.{Element, Field, Spelling, elements_in, number_in}
use Rattle.definition.specs.Layout.{coin_kinds, read_coins}
use Rattle.definition.specs.Lists.{range}
use Rattle.definition.specs.Prove.{Result, done, finish, refusal, sheet_length_test}
use Rattle.definition.specs.Prover.{table_of}
use Rattle.definition.specs.Reading.{sheet_test}
use Rattle.definition.specs.Sheet.{Level, Sheet, edition1, first_level, later_levels, sheet_of}
use Rattle.definition.specs.Transcript.{Coins}
use Rattle.definition.specs.Verdict.{Outcome, ◌then◌, accepted, then_verdict}
use Rattle.layouts.proofs.Lawful.{lawful, rounds_word}
use Rattle.layouts.specs.LevelSizes.{chain_head}
use Rattle.layouts.specs.Levels.{level_of, rounds_of, sheet_field, sheet_root, words_for}
use Rattle.layouts.proofs.LevelsByNumber.{level_first}
use Rattle.layouts.specs.SheetRules.{rounds_most}
use Rattle.layouts.specs.Tests.{then_passes}
use Rattle.completeness.specs.CoinsByNumber.{coins_read}
use Rattle.completeness.specs.DecidingAccepts.{Admissible, all_places}
use Rattle.completeness.proofs.Domains.{foldable}
use Rattle.completeness.specs.Numbered.{coins_of, final_indices, fold_coin}
use Rattle.completeness.specs.Openings.{in_tables}
use Rattle.completeness.proofs.ProveAccepted.{finish_done, finish_failed}
use Rattle.completeness.specs.Ready.{ready_sized}
use Rattle.batches.proofs.AllowedBatches.{batch_enough}
use Rattle.batches.proofs.BatchAccepts.{batch_accepts}
use Rattle.batches.specs.BatchReads.{all_reads}
use Rattle.batches.proofs.BatchStream
use Rattle.batches.proofs.BatchStream.{sheet_ready, β}
use Rattle.batches.specs.Batched.{AllowedBatch, BatchRoom, batch_reads}

module _ {w bounds f coins : List ℕ} (ok : AllowedBatch w bounds f coins) where
  abbrev h : Sheet
  h = sheet_of edition1 w

  abbrev σ : Spelling
  σ = (sheet_of edition1 w).spelling

  abbrev F : Field (Element (sheet_of edition1 w).spelling)
  F = sheet_field (sheet_of edition1 w)

  abbrev ω : Element (sheet_of edition1 w).spelling
  ω = sheet_root (sheet_of edition1 w)

  abbrev N : ℕ
  N = length bounds

  abbrev first : Level
  first = first_level (sheet_of edition1 w)

  abbrev plain : List ℕ
  plain = drop (words_for (sheet_of edition1 w) 1) coins

  abbrev c : Coins (Element (sheet_of edition1 w).spelling)
  c = read_coins (sheet_of edition1 w).spelling (sheet_of edition1 w) (drop (words_for (sheet_of edition1 w) 1) coins)

  abbrev fs : List (List (Element (sheet_of edition1 w).spelling))
  fs = cut_by bounds (elements_in (sheet_of edition1 w).spelling f)

  -- the coins by number, and what they read
  numbered : read_coins σ h plain ≡ record { fold = fold_coin h plain 0; rounds = map (coins_of h plain) (range 1 (rounds_of h)); finals = final_indices h plain }
  numbered = coins_read h plain (lawful edition1 w (batch_enough ok) ok.sheet).paired

  admissible_numbered : Admissible F (sheet_ready ok).laws ω (level_of h 0) (map (coins_of h plain) (range 1 (rounds_of h))) (final_indices h plain)
  admissible_numbered =
      subst (λ (x : Coins (Element (sheet_of edition1 w).spelling)). Admissible F (sheet_ready ok).laws ω (level_of h 0) x.rounds x.finals) numbered
      (subst (λ (b : Level). Admissible F (sheet_ready ok).laws ω b c.rounds c.finals) (level_first h) (BatchStream.admissible_coins ok))

  few_rounds : rounds_of h ≤ 5
  few_rounds = omega (arith, rounds_word edition1 w (batch_enough ok) ok.sheet, rounds_most edition1 w ok.sheet)

  places_are : (batch_function F ω first (β ok)).places ≡ in_tables (table_numbers N)
  unfolding batch_function
  places_are = ap (λ (n : ℕ). in_tables (table_numbers n)) (length-map fs (table_of F ω first) ∙ BatchStream.count_tables ok)

  coins_counted : reads_of (all_places first (batch_function F ω first (β ok)).places c.rounds c.finals) ≡ batch_reads h N coins
  coins_counted =
      (λ i. reads_of (all_places (level_first h i) (places_are i) (numbered i).rounds (numbered i).finals))
      ∙ all_reads h coins (suc (sheet_ready ok).e) (sheet_ready ok).laws (ready_sized edition1 w (batch_enough ok) ok.sheet) N few_rounds admissible_numbered

  decided : counted (decide_batch F ω first (β ok)) ≡ record { outcome = accepted; reads = batch_reads h N coins }
  unfolding counted
  decided =
      ap counted (batch_accepts F (sheet_ready ok).laws ω first fs (get_or (elements_in σ coins) 0 (number_in σ 0)) c.fold c.rounds c.finals (BatchStream.cut_below ok)
      (foldable F (sheet_ready ok).laws ω (sheet_ready ok).signs (sheet_ready ok).e (sheet_ready ok).root first (chain_head _ first (later_levels h) (sheet_ready ok).chain))
      (BatchStream.admissible_coins ok))
      ∙ (λ i. record { outcome = accepted; reads = coins_counted i })

  deciding_passes : batch_deciding (stream_of (file_of (honest_batch w bounds f coins))) ≡ record { outcome = accepted; reads = batch_reads h N coins }
  unfolding batch_deciding out_tests then_verdict ◌then◌
  deciding_passes =
      ap batch_deciding (BatchStream.stream_is ok)
      ∙ rw (BatchStream.sheet_is ok, BatchStream.number_is ok, BatchStream.out_passes ok, BatchStream.equal_passes ok, BatchStream.read_back ok) decided

-- COMPLETENESS of batches.
pub completeness : (w bounds f coins : List ℕ) → AllowedBatch w bounds f coins →
    verify_batch (file_of (honest_batch w bounds f coins)) ≡ record { outcome = accepted; reads = batch_reads (sheet_of edition1 w) (length bounds) coins }
unfolding verify_batch then_verdict
completeness w bounds f coins ok = rw (BatchStream.batch_reads_lem ok) (deciding_passes ok)

module _ (w bounds f coins output : List ℕ) where
  abbrev s : Sheet
  s = sheet_of edition1 w

  abbrev blocks : ℕ
  blocks = block_count (batch_words (sheet_of edition1 w) (length bounds))

  abbrev tests : Outcome
  tests = sheet_length_test edition1 w then sheet_test edition1 w then batch_input_tests (sheet_of edition1 w) bounds f coins output

  tests_pass : tests ≡ accepted → AllowedBatch w bounds f coins × BatchRoom s (length bounds) output
  unfolding batch_input_tests
  tests_pass e =
      let ks = coin_kinds (batch_layout s (length bounds)) in
      let a = then_passes (sheet_length_test edition1 w) _ e in
      let b = then_passes (sheet_test edition1 w) _ a.1 in
      let c = then_passes (batch_test s (length bounds) bounds) _ b.1 in
      let d = then_passes (batch_coefficients_test s bounds f) _ c.1 in
      let g = then_passes (batch_coins_test ks coins) _ d.1 in
      let k = then_passes (batch_range_test s (sum_of bounds) ks (f ++ coins)) _ g.1 in
      let m = then_passes (batch_out_tests s ks coins) _ k.1 in
      (record { words = a.0; sheet = b.0; bounded = c.0; coefficients = d.0; full = g.0; range = k.0; outside = m.0 }, m.1)

  pass_tests : AllowedBatch w bounds f coins → BatchRoom s (length bounds) output → tests ≡ accepted
  unfolding batch_input_tests ◌then◌
  pass_tests ok room = rw (ok.words, ok.sheet, ok.bounded, ok.coefficients, ok.full, ok.range, ok.outside, room)

  -- done only if the tests pass, and then with the number of blocks due
  pub done_allowed : (n : ℕ) → (prove_batch w bounds f coins output).answer ≡ done n →
      AllowedBatch w bounds f coins × BatchRoom (sheet_of edition1 w) (length bounds) output × (n ≡ block_count (batch_words (sheet_of edition1 w) (length bounds)))
  unfolding prove_batch
  done_allowed n e =
      let r = finish_done tests blocks n (file_of (honest_batch w bounds f coins)) output e in
      let t = tests_pass r.0 in
      (t.0, t.1, sym r.1)

  allowed_done : AllowedBatch w bounds f coins → BatchRoom s (length bounds) output →
      prove_batch w bounds f coins output ≡ record { answer = done blocks; output = file_of (honest_batch w bounds f coins) ++ drop (512 * blocks) output }
  unfolding prove_batch finish
  allowed_done ok room =
      rw (pass_tests ok room) (λ i. record { answer = done blocks; output = file_of (honest_batch w bounds f coins) ++ drop (BatchStream.file_size ok i) output })

  pub output_done : AllowedBatch w bounds f coins → BatchRoom (sheet_of edition1 w) (length bounds) output →
      (prove_batch w bounds f coins output).output ≡ file_of (honest_batch w bounds f coins) ++ drop (512 * block_count (batch_words (sheet_of edition1 w) (length bounds))) output
  output_done ok room = ap (λ (x : Result). x.output) (allowed_done ok room)

  pub done_exactly : ((prove_batch w bounds f coins output).answer ≡ done (block_count (batch_words (sheet_of edition1 w) (length bounds))))
      ↔ (AllowedBatch w bounds f coins × BatchRoom (sheet_of edition1 w) (length bounds) output)
  done_exactly = (λ e. let r = done_allowed blocks e in (r.0, r.1), λ t. ap (λ (x : Result). x.answer) (allowed_done t.0 t.1))

  pub refused_same : (n q : ℕ) → (prove_batch w bounds f coins output).answer ≡ refusal n q → (prove_batch w bounds f coins output).output ≡ output
  unfolding prove_batch
  refused_same n q e = finish_failed tests blocks n q (file_of (honest_batch w bounds f coins)) output e

  pub prove_accepted : (n : ℕ) → (prove_batch w bounds f coins output).answer ≡ done n →
      verify_batch (take (512 * n) (prove_batch w bounds f coins output).output) ≡ record { outcome = accepted; reads = batch_reads (sheet_of edition1 w) (length bounds) coins }
  prove_accepted n e =
      let r = done_allowed n e in
      let size : length (file_of (honest_batch w bounds f coins)) ≡ 512 * n = BatchStream.file_size r.0 ∙ ap (λ (m : ℕ). 512 * m) (sym r.2) in
      ap verify_batch (ap (λ (x : Result). take (512 * n) x.output) (allowed_done r.0 r.1) ∙ take_at (file_of (honest_batch w bounds f coins)) _ (512 * n) size)
      ∙ completeness w bounds f coins r.0
