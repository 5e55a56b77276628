-- "The prover's file is its blocks alone, out of any output that is long enough for them" (01, The word stream and its blocks): what is written is the same whatever
-- the output was, and 67 blocks are long enough for every file. So is what the converter writes.
use Rattle.std.specs.Prelude.{ℕ, ◌*◌, ◌≤◌, length, take}
use Rattle.std.proofs.Common.{arith, ◌∙◌, take_at, le-ltb, ltb-false}
use mathlib.Core.List.{List, [], ◌++◌}
use Rattle.std.proofs.Math.Path.{◌≡◌, refl, sym, ap}
use Rattle.std.proofs.lemmas.List.{length-replicate}
use Rattle.definition.specs.Block.{block_count, file_of, stream_of}
use Rattle.definition.specs.Convert.{backward, convert, folds_test, forward, to_edition1, to_edition2}
use Rattle.definition.specs.Layout.{coin_kinds, layout, words_due}
use Rattle.definition.specs.Prove.{Result, coefficients_test, coin_domain_test, coin_equal_test, coins_test, done, finish, input_range_test, output_test, prove_in, prove_tests, sheet_length_test}
use Rattle.definition.specs.Prover.{honest_stream}
use Rattle.definition.specs.Reading.{reading, sheet_test}
use Rattle.definition.specs.Sheet.{Edition, Sheet, edition1, edition2, sheet_length, sheet_of}
use Rattle.definition.specs.Verdict.{Outcome, ◌then◌, accepted, refused}
use Rattle.layouts.specs.FileTrip.{file_length}
use Rattle.layouts.proofs.DueSizes.{blocks_most}
use Rattle.layouts.specs.Tests.{equal_passes, if_false, if_passes, then_passes}
use Rattle.layouts.specs.Passed.{passed}
use Rattle.completeness.proofs.Completeness.{file_size}
use Rattle.completeness.proofs.Conversion.{backward_reads, forward_reads}
use Rattle.completeness.proofs.ProveAccepted.{done_allowed}
use Rattle.word_input.specs.Input.{after_test, coefficients_part, coins_part, prove_input_in, prove_words, sheet_part, taken, whole_words_test, words_of}
use Rattle.program_output.specs.Output.{convert_written, prove_written, room, room_of, written, written_for}

-- a result for each output: of those with so many bytes the same is written, and what is written fits
pub record Alike (most : ℕ) (result : List ℕ → Result) : Type 0 where
  pub same : (a b : List ℕ) → most ≤ length a → most ≤ length b → written (result a) ≡ written (result b)
  pub fits : (output : List ℕ) (n : ℕ) → (result output).answer ≡ done n → 512 * n ≤ length output

-- tests, a count and the blocks of a file
module _ {most : ℕ} (tests : List ℕ → Outcome) (count : ℕ) (file : List ℕ)
    (long : (a b : List ℕ) → most ≤ length a → most ≤ length b → tests a ≡ tests b)
    (passes : (output : List ℕ) → tests output ≡ accepted → (512 * count ≤ length output) × (length file ≡ 512 * count)) where
  finish_same : (a b : List ℕ) (t : Outcome) → (t ≡ accepted → length file ≡ 512 * count) → written (finish t count file a) ≡ written (finish t count file b)
  unfolding finish written written_for
  finish_same a b accepted size =
      ap (λ (l : List ℕ). record { output = l; error = [] }) (take_at file _ (512 * count) (size refl) ∙ sym (take_at file _ (512 * count) (size refl)))
  finish_same a b (refused n p) size = refl

  finish_fits : (output : List ℕ) (n : ℕ) (t : Outcome) → (t ≡ accepted → 512 * count ≤ length output) → (finish t count file output).answer ≡ done n → 512 * n ≤ length output
  unfolding finish
  finish_fits output n accepted room e = let m : count ≡ n = cc in omega (arith, room refl)
  finish_fits output n (refused x y) room e = let z : ◌≡◌ {A = ℕ} 0 1 = cc in absurd (omega arith)

  pub finish_alike : Alike most (λ output. finish (tests output) count file output)
  finish_alike = record {
    same = λ a b la lb. ap (λ (t : Outcome). written (finish t count file a)) (long a b la lb) ∙ finish_same a b (tests b) (λ e. (passes b e).1);
    fits = λ output n e. finish_fits output n (tests output) (λ t. (passes output t).0) e;
  }

pub then_same : (x y z : Outcome) → (x ≡ accepted → y ≡ z) → (x then y) ≡ (x then z)
unfolding ◌then◌
then_same accepted y z h = h refl
then_same (refused n p) y z h = refl

-- an output long enough for so many blocks passes its test
pub enough : (blocks have : ℕ) → 512 * blocks ≤ have → output_test blocks (512 * blocks) have ≡ accepted
unfolding output_test
enough blocks have h = if_false 11 blocks _ (le-ltb have (512 * blocks) h)

pub enough_for : (blocks have : ℕ) → output_test blocks (512 * blocks) have ≡ accepted → 512 * blocks ≤ have
unfolding output_test
enough_for blocks have e = ltb-false have (512 * blocks) (if_passes 11 blocks _ e)

-- prove
module _ (ed : Edition) (w f coins : List ℕ) where
  abbrev h : Sheet
  h = sheet_of ed w

  abbrev due : ℕ
  due = block_count (words_due ed h)

  abbrev tests : List ℕ → Outcome
  tests output = sheet_length_test ed w then sheet_test ed w then prove_tests ed h f coins output

  tests_long : (a b : List ℕ) → 34304 ≤ length a → 34304 ≤ length b → tests a ≡ tests b
  unfolding sheet_length_test prove_tests
  tests_long a b la lb =
      then_same (sheet_length_test ed w) _ _ (λ s. then_same (sheet_test ed w) _ _ (λ k.
      let few : due ≤ 67 = blocks_most ed w (omega (arith, equal_passes 10 0 (length w) (sheet_length ed) s)) k in
      let room : output_test due (512 * due) (length a) ≡ output_test due (512 * due) (length b) = enough due (length a) (omega arith) ∙ sym (enough due (length b) (omega arith)) in
      ap (λ (t : Outcome). coefficients_test h f then coins_test h coins then input_range_test h (coin_kinds (layout h)) (f ++ coins) then coin_domain_test h coins then coin_equal_test h coins then t) room))

  tests_pass : (output : List ℕ) → tests output ≡ accepted → (512 * due ≤ length output) × (length (file_of (honest_stream ed w f coins)) ≡ 512 * due)
  unfolding finish prove_in
  tests_pass output e =
      let r = done_allowed ed w f coins output due (ap (λ (t : Outcome). (finish t due (file_of (honest_stream ed w f coins)) output).answer) e) in
      (enough_for due (length output) r.1, file_size r.0)

  prove_alike : Alike 34304 (prove_in ed w f coins)
  unfolding prove_in
  prove_alike = finish_alike tests due (file_of (honest_stream ed w f coins)) tests_long tests_pass

pub after_alike : {most : ℕ} (t : Outcome) (result : List ℕ → Result) → Alike most result → Alike most (λ output. after_test t (result output) output)
unfolding after_test written written_for
after_alike accepted result alike = alike
after_alike (refused n p) result alike = record { same = λ a b la lb. refl; fits = λ output n e. let z : ◌≡◌ {A = ℕ} 0 1 = cc in absurd (omega arith) }

-- and from the bytes that a program reads
pub prove_input_alike : (ed : Edition) (bytes : List ℕ) → Alike 34304 (prove_input_in ed bytes)
unfolding prove_input_in prove_words
prove_input_alike ed bytes =
    let words = words_of (taken bytes) in
    after_alike (whole_words_test (taken bytes)) (prove_words ed words) (prove_alike ed (sheet_part ed words) (coefficients_part ed words) (coins_part ed words))

-- the converter, given the tests of a file and its words in the other edition
convert_alike : (tests : Outcome) (words : List ℕ) → (tests ≡ accepted → block_count (length words) ≤ 67) → Alike 34304 (convert tests words)
unfolding convert
convert_alike tests words few =
    let due = block_count (length words) in
    finish_alike (λ output. tests then output_test due (512 * due) (length output)) due (file_of words)
    (λ a b la lb. then_same tests _ _ (λ t. let l = few t in enough due (length a) (omega arith) ∙ sym (enough due (length b) (omega arith))))
    (λ output t. (enough_for due (length output) (then_passes tests _ t).1, file_length words))

-- the file of words that pass reading has at most 67 blocks
read_few : (ed : Edition) (words : List ℕ) → reading ed (file_of words) ≡ accepted → block_count (length words) ≤ 67
unfolding words_due
read_few ed words e =
    let file = file_of words in
    let p = passed ed file e in
    omega (arith, file_length words, p.blocks, blocks_most ed (stream_of file) (omega (arith, p.due)) p.sheet)

pub to_2_alike : (bytes : List ℕ) → Alike 34304 (to_edition2 bytes)
unfolding to_edition2
to_2_alike bytes = convert_alike (reading edition1 bytes) (forward (stream_of bytes)) (λ read. read_few edition2 (forward (stream_of bytes)) (forward_reads bytes read))

pub to_1_alike : (bytes : List ℕ) → Alike 34304 (to_edition1 bytes)
unfolding to_edition1
to_1_alike bytes =
    let tests = reading edition2 bytes then folds_test (sheet_of edition2 (stream_of bytes)) in
    convert_alike tests (backward (stream_of bytes))
    (λ t. let r = then_passes (reading edition2 bytes) _ t in read_few edition1 (backward (stream_of bytes)) (backward_reads bytes r.0 r.1))

-- So what the programs write is what prove and the converter write on any output of 67 blocks or more.
pub room_long : (n : ℕ) → n ≤ length (room_of n)
unfolding room_of
room_long n = omega (arith, length-replicate {A = ℕ} n 0)

pub prove_any_output : (e : Edition) (bytes output : List ℕ) → 34304 ≤ length output → written (prove_input_in e bytes output) ≡ prove_written e bytes
unfolding prove_written
prove_any_output e bytes output long = (prove_input_alike e bytes).same output room long (room_long 34304)

pub to_2_any_output : (bytes output : List ℕ) → 34304 ≤ length output → written (to_edition2 (take 65536 bytes) output) ≡ convert_written edition2 bytes
unfolding convert_written
to_2_any_output bytes output long = (to_2_alike (take 65536 bytes)).same output room long (room_long 34304)

pub to_1_any_output : (bytes output : List ℕ) → 34304 ≤ length output → written (to_edition1 (take 65536 bytes) output) ≡ convert_written edition1 bytes
unfolding convert_written
to_1_any_output bytes output long = (to_1_alike (take 65536 bytes)).same output room long (room_long 34304)
