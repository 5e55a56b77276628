-- Reading's refusal is verify's, and deciding of any file is verify.
use Prim.Native.Nat.{ℕ}
use mathlib.Core.Path.{◌≡◌, sym, ap, ◌∙◌}
use mathlib.Core.List.{List}
use Rattle.definition.specs.Sheet.{Edition}
use Rattle.definition.specs.Block.{stream_of}
use Rattle.definition.specs.Verdict as definition
use Rattle.definition.specs.Verdict.{then_verdict}
use Rattle.definition.specs.Reading.{reading}
use Rattle.definition.specs.Deciding.{deciding}
use Rattle.definition.specs.Verify.{decide_file, verify_in}
use Rattle.outcome.specs.declared.Outcome.{Outcome}
use Rattle.outcome.specs.declared.Outcome.TheVariants.{Refused}
use Rattle.outcome.specs.Meaning.{outcome_of}

module _ (ed : Edition) (file : List ℕ) where
  pub refused_is : {r : Outcome} → outcome_of r ≡ reading ed file → {number place : ℕ} → r ≡ Refused number place → record { outcome = definition.refused number place; reads = 0 } ≡ verify_in ed file
  unfolding verify_in then_verdict outcome_of
  refused_is read e = ap (λ (o : definition.Outcome). then_verdict o (deciding ed (stream_of file))) (ap outcome_of (sym e) ∙ read)

  pub decided_is : {v : definition.Verdict} → v ≡ decide_file ed file → v ≡ verify_in ed file
  unfolding decide_file verify_in
  decided_is d = d
