-- THE PAGE ON THE INVERSE AS IT WAS (02, CR 3), which goes on from Statements.antt. It holds theorems and nothing else; each proof is one citation. It is read with the
-- vocabulary Before.antt, the definition's text beside the definition with the inverse as it was. All theorems are of both editions and of the four fields, in either spelling.
use Rattle.std.specs.Prelude.{ℕ, List, ◌≡◌}
use Rattle.std.proofs.Math.Option.{some}
use Rattle.definition.specs.Deciding.{decide, deciding}
use Rattle.definition.specs.Field.{Element, Field, field_in, found_or, prime_of, spelling_of}
use Rattle.definition.specs.Prove.{prove_in}
use Rattle.definition.specs.Prover.{honest, honest_stream}
use Rattle.definition.specs.Sheet.{Edition, Level}
use Rattle.definition.specs.Transcript.{Coins, Transcript}
use Rattle.definition.specs.Verify.{verify_in}
use Rattle.inverse_laws.proofs.AsBefore
use Rattle.inverse_laws.specs.Before.{deciding_over, field_before, honest_stream_over, prove_over, verify_over, zero_for_none}
use Rattle.inverse_laws.specs.SameOperations

-- 2. NO VERDICT AND NO BLOCK CHANGES (document 02: "No verdict and no block changes"). The inverse as it was, x^(p-2), answers the value that is found now, and
-- 0 where there is none (document 01: "The inverse of 0 is answered as 0"); in the field of every number, in its spelling, on every word.
pub inverse_before : (field : ℕ) (x : Element (spelling_of field)) →
    (field_before (spelling_of field) (prime_of field)).inverse x ≡ some (found_or (field_in (spelling_of field) (prime_of field)).𝟘 ((field_in (spelling_of field) (prime_of field)).inverse x))
inverse_before = AsBefore.inverse_before

-- In any field, of any transcript, deciding with 0 for an inverse that is not there is deciding; and so it is with the honest prover, of any polynomial and coins.
module _ {A : Type 0} (F : Field A) (ω : A) where
  pub decide_same : (first : Level) (τ : Transcript A) → decide (zero_for_none F) ω first τ ≡ decide F ω first τ
  decide_same first τ = λ i. SameOperations.decide_same F ω i first τ

  pub honest_same : (first : Level) (f : List A) (c : Coins A) → honest (zero_for_none F) ω first f c ≡ honest F ω first f c
  honest_same first f c = λ i. SameOperations.honest_same F ω i first f c

-- The text of verify and prove over any fields is, over those of the definition, the definition's;
pub verify_text : (ed : Edition) (bytes : List ℕ) → verify_over field_in ed bytes ≡ verify_in ed bytes
verify_text = AsBefore.verify_text

pub prove_text : (ed : Edition) (w f coins output : List ℕ) → prove_over field_in ed w f coins output ≡ prove_in ed w f coins output
prove_text = AsBefore.prove_text

-- and over the fields as they were it is too: every file has the verdict and the reads that it had,
pub verify_as_before : (ed : Edition) (bytes : List ℕ) → verify_over field_before ed bytes ≡ verify_in ed bytes
verify_as_before = AsBefore.verify_before

pub deciding_as_before : (ed : Edition) (w : List ℕ) → deciding_over field_before ed w ≡ deciding ed w
deciding_as_before = AsBefore.deciding_before

-- and every input has the answer and the blocks that it had.
pub prove_as_before : (ed : Edition) (w f coins output : List ℕ) → prove_over field_before ed w f coins output ≡ prove_in ed w f coins output
prove_as_before = AsBefore.prove_before

pub stream_as_before : (ed : Edition) (w f coins : List ℕ) → honest_stream_over field_before ed w f coins ≡ honest_stream ed w f coins
stream_as_before = AsBefore.stream_before
