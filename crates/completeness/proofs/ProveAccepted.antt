-- Completeness of prove: it answers done exactly when its tests pass, and then the blocks at the front of its output are a file that verify accepts.
use Rattle.std.specs.Prelude.{ℕ, ◌*◌, List, ◌++◌, ◌↔◌, ◌≡◌, refl, length, take}
use Rattle.std.proofs.Common.{arith, ap, ◌∙◌, take_at}
use Rattle.std.proofs.Math.Path.{sym}
use Rattle.std.proofs.Math.ListN.{drop}
use Rattle.definition.specs.Block.{block_count, file_of}
use Rattle.definition.specs.Layout.{coin_kinds, layout, words_due}
use Rattle.definition.specs.Prove.{Result, coefficients_test, coin_domain_test, coin_equal_test, coins_test, done, finish, input_range_test, prove_in, prove_tests, refusal, sheet_length_test}
use Rattle.definition.specs.Prover.{honest_stream}
use Rattle.definition.specs.Reading.{sheet_test}
use Rattle.definition.specs.Sheet.{Edition, sheet_of}
use Rattle.definition.specs.Verdict.{Outcome, ◌then◌, accepted, refused}
use Rattle.definition.specs.Verify.{verify_in}
use Rattle.completeness.proofs.Completeness.{completeness, file_size}
use Rattle.completeness.specs.Numbered.{Allowed, Room, reads_due}
use Rattle.layouts.specs.Tests.{then_passes}

pub finish_done : (o : Outcome) (count n : ℕ) (written output : List ℕ) → (finish o count written output).answer ≡ done n → (o ≡ accepted) × (count ≡ n)
unfolding finish
finish_done accepted count n written output e = (refl, cc)
finish_done (refused a b) count n written output e = let z : ◌≡◌ {A = ℕ} 0 1 = cc in absurd (omega arith)

pub finish_failed : (o : Outcome) (count n p : ℕ) (written output : List ℕ) → (finish o count written output).answer ≡ refusal n p → (finish o count written output).output ≡ output
unfolding finish
finish_failed accepted count n p written output e = let z : ◌≡◌ {A = ℕ} 0 1 = cc in absurd (omega arith)
finish_failed (refused a b) count n p written output e = refl

module _ (ed : Edition) (w f coins output : List ℕ) where
  abbrev tests : Outcome
  tests = sheet_length_test ed w then sheet_test ed w then prove_tests ed (sheet_of ed w) f coins output

  tests_pass : tests ≡ accepted → Allowed ed w f coins × Room ed (sheet_of ed w) output
  unfolding prove_tests
  tests_pass e =
      let a = then_passes (sheet_length_test ed w) _ e in
      let b = then_passes (sheet_test ed w) _ a.1 in
      let c = then_passes (coefficients_test (sheet_of ed w) f) _ b.1 in
      let d = then_passes (coins_test (sheet_of ed w) coins) _ c.1 in
      let g = then_passes (input_range_test (sheet_of ed w) (coin_kinds (layout (sheet_of ed w))) (f ++ coins)) _ d.1 in
      let k = then_passes (coin_domain_test (sheet_of ed w) coins) _ g.1 in
      let m = then_passes (coin_equal_test (sheet_of ed w) coins) _ k.1 in
      (record { words = a.0; sheet = b.0; coefficients = c.0; full = d.0; range = g.0; outside = k.0; apart = m.0 }, m.1)

  pass_tests : Allowed ed w f coins → Room ed (sheet_of ed w) output → tests ≡ accepted
  unfolding prove_tests ◌then◌
  pass_tests ok room = rw (ok.words, ok.sheet, ok.coefficients, ok.full, ok.range, ok.outside, ok.apart, room)

  -- done only if the tests pass, and then with the number of blocks that the sheet needs
  pub done_allowed : (n : ℕ) → (prove_in ed w f coins output).answer ≡ done n → Allowed ed w f coins × Room ed (sheet_of ed w) output × (n ≡ block_count (words_due ed (sheet_of ed w)))
  unfolding prove_in
  done_allowed n e =
      let r = finish_done tests (block_count (words_due ed (sheet_of ed w))) n (file_of (honest_stream ed w f coins)) output e in
      let t = tests_pass r.0 in
      (t.0, t.1, sym r.1)

  -- and if the tests pass: the file, and after it the output as before
  allowed_done : Allowed ed w f coins → Room ed (sheet_of ed w) output →
      prove_in ed w f coins output ≡ record { answer = done (block_count (words_due ed (sheet_of ed w))); output = file_of (honest_stream ed w f coins) ++ drop (512 * block_count (words_due ed (sheet_of ed w))) output }
  unfolding prove_in finish
  allowed_done ok room =
      rw (pass_tests ok room)
      (λ i. record {
        answer = done (block_count (words_due ed (sheet_of ed w)));
        output = file_of (honest_stream ed w f coins) ++ drop (file_size ok i) output;
      })

  pub output_done : Allowed ed w f coins → Room ed (sheet_of ed w) output → (prove_in ed w f coins output).output ≡ file_of (honest_stream ed w f coins) ++ drop (512 * block_count (words_due ed (sheet_of ed w))) output
  output_done ok room = ap (λ (x : Result). x.output) (allowed_done ok room)

  -- done exactly when the tests pass
  pub done_exactly : ((prove_in ed w f coins output).answer ≡ done (block_count (words_due ed (sheet_of ed w)))) ↔ (Allowed ed w f coins × Room ed (sheet_of ed w) output)
  done_exactly = (
    λ e. let r = done_allowed (block_count (words_due ed (sheet_of ed w))) e in (r.0, r.1),
    λ t. ap (λ (x : Result). x.answer) (allowed_done t.0 t.1),
  )

  -- refused: the output as before
  pub refused_same : (n p : ℕ) → (prove_in ed w f coins output).answer ≡ refusal n p → (prove_in ed w f coins output).output ≡ output
  unfolding prove_in
  refused_same n p e = finish_failed tests (block_count (words_due ed (sheet_of ed w))) n p (file_of (honest_stream ed w f coins)) output e

  -- Completeness of prove: where it answers done with n blocks, the first n blocks of the output are a file that verify accepts.
  pub prove_accepted : (n : ℕ) → (prove_in ed w f coins output).answer ≡ done n →
      verify_in ed (take (512 * n) (prove_in ed w f coins output).output) ≡ record { outcome = accepted; reads = reads_due (sheet_of ed w) coins }
  prove_accepted n e =
      let r = done_allowed n e in
      let size : length (file_of (honest_stream ed w f coins)) ≡ 512 * n = file_size r.0 ∙ ap (λ (m : ℕ). 512 * m) (sym r.2) in
      ap (verify_in ed) (ap (λ (x : Result). take (512 * n) x.output) (allowed_done r.0 r.1) ∙ take_at (file_of (honest_stream ed w f coins)) _ (512 * n) size)
      ∙ completeness ed w f coins r.0
