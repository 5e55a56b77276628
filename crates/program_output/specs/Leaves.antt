-- What a program leaves in code, as a number of bytes and a line, is what it leaves by the definition.
use Rattle.std.specs.Prelude.{ℕ, ◌*◌, ◌≤◌, List, ◌≡◌, length, take}
use Rattle.std.proofs.Common.{arith, sym, ap, ◌∙◌}
use Rattle.definition.specs.Prove.{Answer, Result, done}
use Rattle.line.specs.Text.{text_of}
use Rattle.outcome.specs.Gives.{Gives}
use Rattle.program_output.specs.Output as definition
use Rattle.program_output.specs.AnyOutput.{Alike, room_long}
use Rattle.program_output.specs.declared.Written.{Written}

-- left by an answer, whatever the output is
pub record Leaves (answer : Answer) (r : Written) : Type 0 where
  pub output : (all : List ℕ) → take r.length all ≡ (definition.written_for answer all).output
  pub error : (all : List ℕ) → text_of r.error ≡ (definition.written_for answer all).error
  pub fits : {most : ℕ} → ((n : ℕ) → answer ≡ done n → 512 * n ≤ most) → r.length ≤ most
  pub small : r.error.length ≤ 64

-- an operation whose answer and output are the definition's, on an output of as many bytes as every file fits in
module _ {most : ℕ} {result : List ℕ → Result} {before after : List ℕ} {answer : Answer} (alike : Alike most result) (long : length before ≡ most) (gives : Gives result before answer after) where
  pub left_fits : (n : ℕ) → answer ≡ done n → 512 * n ≤ most
  left_fits n e = omega (arith, alike.fits before n (sym gives.answer ∙ e), long)

  pub left_small : most ≤ 65536 → (n : ℕ) → answer ≡ done n → 512 * n ≤ 65536
  left_small l n e = omega (arith, left_fits n e, l)

  left : definition.written_for answer after ≡ definition.written (result (definition.room_of most))
  unfolding definition.written
  left =
      (λ i. definition.written_for (gives.answer i) (gives.output i))
      ∙ alike.same before (definition.room_of most) (omega (arith, long)) (room_long most)

  -- what the code leaves is what the definition says, once that is known to be of this operation
  pub left_is : {w : definition.Written} {r : Written} → w ≡ definition.written (result (definition.room_of most)) → Leaves answer r →
      (take r.length after ≡ w.output) × ((text_of r.error ≡ w.error) × ((r.length ≤ most) × (r.error.length ≤ 64)))
  left_is e l =
      let same = left ∙ sym e in
      (l.output after ∙ ap (λ (w : definition.Written). w.output) same, (l.error after ∙ ap (λ (w : definition.Written). w.error) same, (l.fits left_fits, l.small)))
