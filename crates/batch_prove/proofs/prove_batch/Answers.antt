use Prim.Native.Nat.{ℕ, ◌*◌, ◌≤◌}
use native.Mathlib.Omega.{arith}
use mathlib.Core.Path.{sym, ap, subst}
use lib.ListN.{length}
use Rattle.definition.specs.Block.{block_count}
use Rattle.definition.specs.Prove.{Result}
use Rattle.list_laws.specs.Zeros.{length_zeros}
use Rattle.batches.proofs.AllowedBatches.{batch_enough}
use Rattle.outcome.specs.Meaning.{answer_of}
use Rattle.batch_prove.proofs.Stages.{passes, refused_is, written_is}
use Rattle.batch_prove.proofs.prove_batch.Goals as goal

-- `batch_prove::prove_batch` meets its contract. Assumes nothing.
pub prove_tests-tests-requires : goal.prove_tests-tests-requires
prove_tests-tests-requires c = tt

pub returns-in-Refused : goal.returns-in-Refused
unfolding answer_of
returns-in-Refused c =
    let a = c.args in
    let t = c.prove_tests-tests in
    let e = refused_is a.sheet.now a.bounds.now a.coefficients.now a.coins.now a.output.now t.result t.ensures c.in-Refused.is in record { result_value = sym (ap (λ (x : Result). x.answer) e); output_after = sym (ap (λ (x : Result). x.output) e) }

pub words_due-due-requires : goal.words_due-due-requires
words_due-due-requires c =
    let a = c.args in
    let t = c.prove_tests-tests in
    let ok = passes a.sheet.now a.bounds.now a.coefficients.now a.coins.now a.output.now t.result t.ensures c.in_default.is in record { edition1_in_bounds = (batch_enough ok.allowed, ok.allowed.sheet); bounds_value = ok.allowed.bounded }

pub write-requires : goal.write-requires
write-requires c =
    let a = c.args in
    let t = c.prove_tests-tests in
    let ok = passes a.sheet.now a.bounds.now a.coefficients.now a.coins.now a.output.now t.result t.ensures c.in_default.is in
    let d = c.words_due-due.ensures in record { allowed_batch = ok.allowed; due_value = (d.0, (omega (arith, length_zeros 12573, d.1), subst (λ (n : ℕ). 512 * block_count n ≤ length a.output.now) (sym d.0) ok.room)) }

pub returns : goal.returns
returns c =
    let a = c.args in
    let t = c.prove_tests-tests in
    let ok = passes a.sheet.now a.bounds.now a.coefficients.now a.coins.now a.output.now t.result t.ensures c.in_default.is in
    let v = c.write in let both = written_is ok c.words_due-due.ensures.0 v.ensures.result_value v.ensures.output_after in record { result_value = both.0; output_after = both.1 }
