-- Verify and prove, with each inverse's answer taken apart, are found and are the definition's, for every file and every input: where a test refuses, no inverse
-- is asked for, and where refusals 1 to 7 are not given, or the coins are allowed, each one is there.
use Rattle.std.specs.Prelude.{ℕ, List, ◌++◌, ◌≡◌, refl, drop}
use Rattle.std.proofs.Math.Option.{Option, some}
use Rattle.std.proofs.Common.{ap}
use Rattle.definition.specs.Block.{block_count, file_of, stream_of}
use Rattle.definition.specs.Deciding.{counted, deciding, equal_test, out_test, out_tests}
use Rattle.definition.specs.Field.{elements_in, where_found}
use Rattle.definition.specs.Layout.{layout, read_coins, read_transcript, words_due}
use Rattle.definition.specs.Prove.{finish, prove_in, prove_tests, sheet_length_test}
use Rattle.definition.specs.Prover.{honest_stream}
use Rattle.definition.specs.Reading.{reading, sheet_test}
use Rattle.definition.specs.Sheet.{Edition, first_level, sheet_length, sheet_of}
use Rattle.definition.specs.Transcript.{transcript_words}
use Rattle.definition.specs.Verdict.{Outcome, Verdict, ◌then◌, accepted, refused, then_verdict}
use Rattle.definition.specs.Verify.{verify_in}
use Rattle.layouts.specs.Levels.{sheet_field, sheet_root}
use Rattle.layouts.specs.Passed.{passed}
use Rattle.layouts.specs.Tests.{then_passes}
use Rattle.completeness.proofs.Completeness.{admissible_coins, sheet_ready}
use Rattle.completeness.proofs.Divisors.{stream_fair, stream_ready}
use Rattle.completeness.specs.Numbered.{Allowed}
use Rattle.completeness.proofs.ProveAccepted.{done_allowed}
use Rattle.inverse_laws.proofs.Found.{decide_found_lem, honest_found_lem}
use Rattle.inverse_laws.specs.TakenApart.{deciding_found, finish_found, honest_stream_found, prove_found, then_verdict_found, verify_found}

-- a refusal asks for nothing
verdict_found : (o : Outcome) (x : Option Verdict) (v : Verdict) → (o ≡ accepted → x ≡ some v) → then_verdict_found o x ≡ some (then_verdict o v)
unfolding then_verdict_found then_verdict
verdict_found accepted x v h = h refl
verdict_found (refused number place) x v h = refl

finish_found_lem : (o : Outcome) (count : ℕ) (x : Option (List ℕ)) (written output : List ℕ) → (o ≡ accepted → x ≡ some written) → finish_found o count x output ≡ some (finish o count written output)
unfolding finish_found finish where_found
finish_found_lem accepted count x written output h = rw (h refl)
finish_found_lem (refused number place) count x written output h = refl

-- verify
pub deciding_found_lem : (ed : Edition) (bytes : List ℕ) → reading ed bytes ≡ accepted → deciding_found ed (stream_of bytes) ≡ some (deciding ed (stream_of bytes))
unfolding deciding_found deciding out_tests where_found
deciding_found_lem ed bytes read =
    let w = stream_of bytes in
    let h = sheet_of ed w in
    let p = passed ed bytes read in
    let τ = read_transcript h.spelling h (drop (sheet_length ed) w) in
    verdict_found (out_tests h (sheet_length ed) (layout h) w) _ _ (λ e.
    let outside = (then_passes (out_test h (sheet_length ed) (layout h) w) (equal_test h (sheet_length ed) (layout h) w) e).0 in
    ap (where_found counted) (decide_found_lem (sheet_field h) (stream_ready ed w p.sheet p.due p.range outside).laws (sheet_root h) (first_level h) τ
    (stream_fair ed w p.sheet p.due p.range outside)))

pub verify_found_lem : (ed : Edition) (bytes : List ℕ) → verify_found ed bytes ≡ some (verify_in ed bytes)
unfolding verify_found verify_in
verify_found_lem ed bytes = verdict_found (reading ed bytes) _ _ (deciding_found_lem ed bytes)

-- prove
pub stream_found : (ed : Edition) (w f coins : List ℕ) → Allowed ed w f coins → honest_stream_found ed w f coins ≡ some (honest_stream ed w f coins)
unfolding honest_stream_found honest_stream where_found
stream_found ed w f coins ok =
    let h = sheet_of ed w in
    ap (where_found (λ τ. w ++ transcript_words h.spelling τ))
    (honest_found_lem (sheet_field h) (sheet_ready ok).laws (sheet_root h) (first_level h) (elements_in h.spelling f) (read_coins h.spelling h coins) (admissible_coins ok))

pub prove_found_lem : (ed : Edition) (w f coins output : List ℕ) → prove_found ed w f coins output ≡ some (prove_in ed w f coins output)
unfolding prove_found prove_in finish where_found
prove_found_lem ed w f coins output =
    let tests = sheet_length_test ed w then sheet_test ed w then prove_tests ed (sheet_of ed w) f coins output in
    let n = block_count (words_due ed (sheet_of ed w)) in
    finish_found_lem tests n _ (file_of (honest_stream ed w f coins)) output (λ e. ap (where_found file_of) (stream_found ed w f coins (allowed e)))
  where
    allowed : (sheet_length_test ed w then sheet_test ed w then prove_tests ed (sheet_of ed w) f coins output) ≡ accepted → Allowed ed w f coins
    allowed e = (done_allowed ed w f coins output (block_count (words_due ed (sheet_of ed w))) (rw e)).0
