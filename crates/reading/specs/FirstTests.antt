-- 1 and 2, whatever tests come after them: what each answer says of the outcome, and what is loaded.
use Rattle.std.specs.Prelude.{ℕ, ◌/◌, ◌%◌, List, ◌≡◌, length}
use borrow.Author.Tests.{eq-eqb, ne_eqb}
use Rattle.std.proofs.Math.Option.{Option, none, some}
use Rattle.std.proofs.Math.Path.{sym, ap}
use Rattle.std.proofs.Common.{◌∙◌}
use Rattle.definition.specs.Block.{file_blocks, stream_of, wrong_checks}
use Rattle.definition.specs.Lists.{first_true}
use Rattle.definition.specs.Reading.{check_test, length_test}
use Rattle.definition.specs.Verdict.{Outcome, refuse_at, refuse_if, refused, ◌then◌}
use Rattle.layouts.specs.FileWords.{stream_length}
use Rattle.std.specs.Prelude.{None}
use Rattle.outcome.specs.Meaning.{Found}
use Rattle.stream.specs.Loaded.{Loaded}
use Rattle.reading.specs.Stages.{Loads}

-- what is loaded is the stream's words
pub loads_stream : (file : List ℕ) {most : ℕ} {found : Found} {words : List ℕ} → Loaded file most found words → found ≡ None → Loads most words (length file / 512) (stream_of file)
loads_stream file loaded right = record { size = stream_length file; front = loaded.front right }

module _ (file : List ℕ) (next : Outcome) where
  pub empty : length file ≡ 0 → refused 1 0 ≡ (length_test file then check_test file then next)
  unfolding length_test refuse_if ◌then◌
  empty e = sym (rw (eq-eqb (length file) 0 e))

  pub no_blocks : (length file ≡ 0 → ⊥) → (length file % 512 ≡ 0 → ⊥) → refused 1 0 ≡ (length_test file then check_test file then next)
  unfolding length_test refuse_if ◌then◌
  no_blocks h k = sym (rw (ne_eqb (length file) 0 h, ne_eqb (length file % 512) 0 k))

  module _ (h : length file ≡ 0 → ⊥) (k : length file % 512 ≡ 0) where
    to_checks : (check_test file then next) ≡ (length_test file then check_test file then next)
    unfolding length_test refuse_if ◌then◌
    to_checks = sym (rw (ne_eqb (length file) 0 h, eq-eqb (length file % 512) 0 k))

    pub wrong_check : (place : ℕ) → some place ≡ first_true 0 (wrong_checks 0 (file_blocks file)) → refused 2 place ≡ (length_test file then check_test file then next)
    unfolding check_test refuse_at ◌then◌
    wrong_check place e = ap (λ (t : Option ℕ). refuse_at 2 t then next) e ∙ to_checks

    pub checks_pass : none ≡ first_true 0 (wrong_checks 0 (file_blocks file)) → {o : Outcome} → o ≡ next → o ≡ (length_test file then check_test file then next)
    unfolding check_test refuse_at ◌then◌
    checks_pass e {o} q = q ∙ ap (λ (t : Option ℕ). refuse_at 2 t then next) e ∙ to_checks
