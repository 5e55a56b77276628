-- Verify is reading, then deciding.
use Prim.Native.Nat.{ℕ, ◌*◌, ◌/◌, ◌≤◌}
use native.Mathlib.Omega.{arith}
use mathlib.Core.Path.{◌≡◌, sym, ap, ◌∙◌, subst}
use mathlib.Core.List.{List}
use lib.ListN.{length, take}
use Rattle.definition.specs.Sheet.{Edition, sheet_length, sheet_of}
use Rattle.definition.specs.Layout.{layout, words_due}
use Rattle.definition.specs.Block.{stream_of}
use Rattle.definition.specs.Verdict as definition
use Rattle.definition.specs.Verdict.{then_verdict}
use Rattle.definition.specs.Reading.{sheet_test, range_test, reading}
use Rattle.definition.specs.Deciding.{deciding}
use Rattle.definition.specs.Verify.{verify_in}
use Rattle.outcome.specs.declared.Outcome.{Outcome}
use Rattle.outcome.specs.declared.Outcome.TheVariants.{Accepted, Refused}
use Rattle.outcome.specs.Meaning.{outcome_of}
use Rattle.reading.specs.Stages.{Read}
use Rattle.reading.specs.Passed.{sheet_passes, range_passes, words_there, few_blocks}

-- the words that deciding is handed: those of the stream, which passes
pub record Handed (ed : Edition) (w : List ℕ) : Type 0 where
  pub sheet : sheet_test ed w ≡ definition.accepted
  pub range : range_test (sheet_of ed w) (sheet_length ed) (layout (sheet_of ed w)) w ≡ definition.accepted
  pub there : words_due ed (sheet_of ed w) ≤ length w

module _ (ed : Edition) (file : List ℕ) {r : Outcome} {words : List ℕ} (read : Read ed file r words) where
  pub refused_is : {number place : ℕ} → r ≡ Refused number place → record { outcome = definition.refused number place; reads = 0 } ≡ verify_in ed file
  unfolding verify_in then_verdict outcome_of
  refused_is e = ap (λ (o : definition.Outcome). then_verdict o (deciding ed (stream_of file))) (ap outcome_of (sym e) ∙ read.outcome)

  module _ (e : r ≡ Accepted) where
    passes : reading ed file ≡ definition.accepted
    unfolding outcome_of
    passes = sym read.outcome ∙ ap outcome_of e

    stream : take (127 * (length file / 512)) words ≡ stream_of file
    stream = read.stream passes

    pub few : 127 * (length file / 512) ≤ 8636
    few = omega (arith, few_blocks ed file passes)

    pub handed : Handed ed (take (127 * (length file / 512)) words)
    handed = subst (Handed ed) (sym stream) (record { sheet = sheet_passes ed file passes; range = range_passes ed file passes; there = words_there ed file passes })

    pub decided_is : {v : definition.Verdict} → v ≡ deciding ed (take (127 * (length file / 512)) words) → v ≡ verify_in ed file
    unfolding verify_in then_verdict
    decided_is d = d ∙ ap (deciding ed) stream ∙ ap (λ (o : definition.Outcome). then_verdict o (deciding ed (stream_of file))) (sym passes)
