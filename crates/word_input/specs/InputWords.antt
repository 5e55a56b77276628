-- The code's test and stores against the definition of an input's words, and what follows for a program's answer.
use Rattle.std.specs.Prelude.{ℕ, ◌+◌, ◌/◌, ◌%◌, ◌≡◌, List, ◌++◌, take}
use native.Mathlib.Omega.{arith}
use Rattle.std.proofs.Math.Path.{refl, ap}
use Rattle.std.proofs.Common.{sym, subst, ◌∙◌, eq-eqb, ne_eqb}
use Rattle.std.proofs.Math.ListN.{length, drop}
use Rattle.std.proofs.Math.Seq.{take-append_seam}
use Rattle.definition.specs.Verdict.{Outcome, accepted, refused, refuse_if}
use Rattle.definition.specs.Prove.{Answer, Result, done, refusal, finish}
use Rattle.list_laws.specs.Overwriting.{overwrite}
use Rattle.word_input.specs.WordLaws.{words_length}
use Rattle.word_input.specs.Input.{after_test, place_words, whole_words_test, words_of}

module _ (bytes : List ℕ) where
  whole : length bytes % 4 ≡ 0 → whole_words_test bytes ≡ accepted
  unfolding whole_words_test refuse_if
  whole h = rw (eq-eqb (length bytes % 4) 0 h)

  partial : (length bytes % 4 ≡ 0 → ⊥) → whole_words_test bytes ≡ refused 10 0
  unfolding whole_words_test refuse_if
  partial h = rw (ne_eqb (length bytes % 4) 0 h)

-- an answer and an output are those of a result
pub record Made (r : Result) (answer : Answer) (output : List ℕ) : Type 0 where
  pub answered : answer ≡ r.answer
  pub written : output ≡ r.output

finished : (t : Outcome) (n : ℕ) (w output : List ℕ) → t ≡ accepted → Made (finish t n w output) (done n) (w ++ drop (length w) output)
unfolding finish
finished t n w output e = rw e (record { answered = refl; written = refl })

declined : (t : Outcome) (n p q : ℕ) (w output : List ℕ) → t ≡ refused n p → Made (finish t q w output) (refusal n p) output
unfolding finish
declined t n p q w output e = rw e (record { answered = refl; written = refl })

module _ (bytes output : List ℕ) where
  pub words_refused : (length bytes % 4 ≡ 0 → ⊥) → Made (place_words bytes output) (refusal 10 0) output
  unfolding place_words
  words_refused h = declined (whole_words_test bytes) 10 0 _ _ output (partial bytes h)

  pub words_done : (o : List ℕ) → length bytes % 4 ≡ 0 → o ≡ overwrite output 0 (words_of bytes) → Made (place_words bytes output) (done (length bytes / 4)) o
  unfolding place_words overwrite
  words_done o h s =
      let w = words_of bytes in
      let n : 0 + length w ≡ length w = omega arith in
      let m = finished (whole_words_test bytes) (length w) w output (whole bytes h) in
      record { answered = ap done (sym (words_length bytes)) ∙ m.answered; written = s ∙ ap (λ (k : ℕ). w ++ drop k output) n ∙ m.written }

-- what an answer says of the test before it
split : (t : Outcome) (n : ℕ) (w output : List ℕ) {count : ℕ} {o : List ℕ} → n ≡ length w → Made (finish t n w output) (done count) o → (t ≡ accepted) × (take count o ≡ w)
unfolding finish
split accepted n w output {count} {o} h m =
    let e : count ≡ length w = cc m.answered in
    (refl, rw (m.written, e) (take-append_seam w (drop (length w) output)))
split (refused a b) n w output h m = let z : ◌≡◌ {A = ℕ} 0 1 = cc m.answered in absurd (omega arith)

stopped : (t : Outcome) (n a b : ℕ) (w output : List ℕ) → refusal a b ≡ (finish t n w output).answer → t ≡ refused a b
unfolding finish
stopped accepted n a b w output e = let z : ◌≡◌ {A = ℕ} 0 1 = cc in absurd (omega arith)
stopped (refused c d) n a b w output e = cc

module _ (bytes room : List ℕ) where
  pub words_taken : {count : ℕ} {o : List ℕ} → Made (place_words bytes room) (done count) o → (whole_words_test bytes ≡ accepted) × (take count o ≡ words_of bytes)
  unfolding place_words
  words_taken m = split (whole_words_test bytes) _ _ room refl m

  pub words_partial : {a b : ℕ} → refusal a b ≡ (place_words bytes room).answer → whole_words_test bytes ≡ refused a b
  unfolding place_words
  words_partial e = stopped (whole_words_test bytes) _ _ _ _ room e

passed : (t : Outcome) (r : Result) (output : List ℕ) → t ≡ accepted → r ≡ after_test t r output
unfolding after_test
passed t r output e = rw e

failed : (t : Outcome) (r : Result) (output : List ℕ) (a b : ℕ) → t ≡ refused a b → Made (after_test t r output) (refusal a b) output
unfolding after_test
failed t r output a b e = rw e (record { answered = refl; written = refl })

-- done only where the test before was passed
pub done_after : (t : Outcome) (r : Result) (output : List ℕ) (count : ℕ) → (after_test t r output).answer ≡ done count → (t ≡ accepted) × (r.answer ≡ done count)
unfolding after_test
done_after accepted r output count e = (refl, e)
done_after (refused a b) r output count e = let z : ◌≡◌ {A = ℕ} 0 1 = cc in absurd (omega arith)

-- a program's answer from its words, where the room for words was filled, and its refusal where it was not
module _ (bytes room : List ℕ) (run : List ℕ → List ℕ → Result) (output : List ℕ) where
  abbrev pub ran : Result
  ran = after_test (whole_words_test bytes) (run (words_of bytes) output) output

  pub answered_words : {count : ℕ} {o p : List ℕ} {a : Answer} → Made (place_words bytes room) (done count) o → Made (run (take count o) output) a p → Made ran a p
  answered_words {p = p} {a = a} m made =
      let s = words_taken bytes room m in
      subst (λ (r : Result). Made r a p) (passed (whole_words_test bytes) _ output s.0) (rw s.1 at made)

  pub refused_words : (a b : ℕ) → refusal a b ≡ (place_words bytes room).answer → Made ran (refusal a b) output
  refused_words a b e = failed (whole_words_test bytes) _ output a b (words_partial bytes room e)
