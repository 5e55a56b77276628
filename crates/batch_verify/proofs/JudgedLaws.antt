-- What deciding says of the plain stream, as the verdict on the batch. Assumes nothing.
use Prim.Native.Nat.{ℕ, ◌+◌, ◌≤◌, ◌<◌}
use mathlib.Core.Bool.{true, false, cond, ◌||◌}
use mathlib.Core.List.{List}
use mathlib.Core.Path.{◌≡◌, sym, ap, ◌∙◌, subst}
use lib.Dec.{eqb}
use lib.ListN.{length}
use Rattle.batches.specs.Batched.{placed}
use Rattle.completeness.proofs.Answers.{Refuses}
use Rattle.definition.specs.Deciding.{deciding}
use Rattle.definition.specs.Sheet.{edition1}
use Rattle.definition.specs.Verdict as definition
use Rattle.outcome.specs.Meaning.{outcome_of, verdict_of}
use Rattle.outcome.specs.declared.Outcome.TheVariants.{Accepted, Refused}
use Rattle.outcome.specs.declared.Verdict.{Verdict}
use Rattle.batch_verify.specs.ByPlain.{Handed, all_reads, by_plain, reads_with}
use Rattle.batch_verify.proofs.DecidedSizes.{outs_near, reads_few}

module _ (w : List ℕ) (ready : Handed w) (v : Verdict) (told : verdict_of v ≡ deciding edition1 w) where
  pub few : v.reads ≤ 4608
  unfolding verdict_of
  few = subst (λ (d : definition.Verdict). d.reads ≤ 4608) (sym told) (reads_few edition1 w ready.sheet ready.there)

  outcome_is : {o : definition.Outcome} → outcome_of v.outcome ≡ o → (deciding edition1 w).outcome ≡ o
  unfolding verdict_of
  outcome_is e = ap (λ (d : definition.Verdict). d.outcome) (sym told) ∙ e

  pub near : {n q : ℕ} → v.outcome ≡ Refused n q → true ≡ (eqb n 7 || eqb n 14) → q < length w
  unfolding outcome_of
  near {n} {q} e out = subst (Refuses (λ m r. (eqb m 7 || eqb m 14) ≡ true → r < length w)) (outcome_is (ap outcome_of e)) (outs_near edition1 w ready.sheet ready.there) (sym out)

  module _ (count shift : ℕ) where
    by_outcome : {o : definition.Outcome} → outcome_of v.outcome ≡ o →
        by_plain shift count w ≡ record { outcome = placed shift o; reads = reads_with o (all_reads count w v.reads) }
    unfolding by_plain verdict_of
    by_outcome e =
        ap (λ (d : definition.Verdict). record { outcome = placed shift d.outcome; reads = reads_with d.outcome (all_reads count w d.reads) }) (sym told)
        ∙ ap (λ (o : definition.Outcome). record { outcome = placed shift o; reads = reads_with o (all_reads count w v.reads) }) e

    pub accepted_is : v.outcome ≡ Accepted → {r : ℕ} → r ≡ all_reads count w v.reads → record { outcome = definition.accepted; reads = r } ≡ by_plain shift count w
    unfolding outcome_of placed reads_with
    accepted_is e {r} er = (λ i. record { outcome = definition.accepted; reads = er i }) ∙ sym (by_outcome (ap outcome_of e))

    pub out_is : {n q : ℕ} → v.outcome ≡ Refused n q → true ≡ (eqb n 7 || eqb n 14) → record { outcome = definition.refused n (q + shift); reads = 0 } ≡ by_plain shift count w
    unfolding outcome_of placed reads_with
    out_is {n} {q} e out =
        (λ i. record { outcome = definition.refused n (cond (out i) (q + shift) q); reads = cond (out i) 0 (all_reads count w v.reads) }) ∙ sym (by_outcome (ap outcome_of e))

    pub other_is : {n q : ℕ} → v.outcome ≡ Refused n q → false ≡ (eqb n 7 || eqb n 14) → {r : ℕ} → r ≡ all_reads count w v.reads → record { outcome = definition.refused n q; reads = r } ≡ by_plain shift count w
    unfolding outcome_of placed reads_with
    other_is {n} {q} e other {r} er =
        (λ i. record { outcome = definition.refused n (cond (other i) (q + shift) q); reads = cond (other i) 0 (er i) }) ∙ sym (by_outcome (ap outcome_of e))
