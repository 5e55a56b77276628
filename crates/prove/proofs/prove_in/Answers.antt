use Prim.Native.Nat.{ℕ, ◌*◌, ◌≤◌}
use mathlib.Core.Path.{sym, ap, subst}
use native.Mathlib.Omega.{arith}
use lib.ListN.{length}
use Rattle.list_laws.specs.Zeros.{length_zeros}
use Rattle.definition.specs.Block.{block_count}
use Rattle.definition.specs.Prove.{Result}
use Rattle.completeness.proofs.Allowed.{allowed_enough}
use Rattle.edition.specs.Meaning.{edition_of}
use Rattle.outcome.specs.Meaning.{answer_of}
use Rattle.prove.proofs.Stages.{passes, refused_is, written_is}
use Rattle.prove.proofs.prove_in.Goals as goal

pub returns-in-Refused : goal.returns-in-Refused
unfolding answer_of
returns-in-Refused c =
    let a = c.args in
    let t = c.prove_tests-tests in
    let e = refused_is (edition_of a.e) a.sheet.now a.coefficients.now a.coins.now a.output.now t.result t.ensures c.in-Refused.is in record { result_value = sym (ap (λ (x : Result). x.answer) e); output_after = sym (ap (λ (x : Result). x.output) e) }

pub words_due-due-requires : goal.words_due-due-requires
words_due-due-requires c =
    let a = c.args in
    let t = c.prove_tests-tests in
    let ok = passes (edition_of a.e) a.sheet.now a.coefficients.now a.coins.now a.output.now t.result t.ensures c.in_default.is in
    (allowed_enough ok.allowed, ok.allowed.sheet)

pub write-requires : goal.write-requires
write-requires c =
    let a = c.args in
    let t = c.prove_tests-tests in
    let ok = passes (edition_of a.e) a.sheet.now a.coefficients.now a.coins.now a.output.now t.result t.ensures c.in_default.is in
    let d = c.words_due-due.ensures in record { allowed = ok.allowed; due_value = (d.0, (omega (arith, length_zeros 1016, c.if-due-le-SMALL_WORDS.true), subst (λ (n : ℕ). 512 * block_count n ≤ length a.output.now) (sym d.0) ok.room)) }

pub returns-then-due-le-SMALL_WORDS : goal.returns-then-due-le-SMALL_WORDS
returns-then-due-le-SMALL_WORDS c =
    let a = c.args in
    let t = c.prove_tests-tests in
    let ok = passes (edition_of a.e) a.sheet.now a.coefficients.now a.coins.now a.output.now t.result t.ensures c.in_default.is in
    let v = c.write in let both = written_is ok c.words_due-due.ensures.0 v.ensures.result_value v.ensures.output_after in record { result_value = both.0; output_after = both.1 }

pub write-requires-2 : goal.write-requires-2
write-requires-2 c =
    let a = c.args in
    let t = c.prove_tests-tests in
    let ok = passes (edition_of a.e) a.sheet.now a.coefficients.now a.coins.now a.output.now t.result t.ensures c.in_default.is in
    let d = c.words_due-due.ensures in record { allowed = ok.allowed; due_value = (d.0, (omega (arith, length_zeros 8509, d.1), subst (λ (n : ℕ). 512 * block_count n ≤ length a.output.now) (sym d.0) ok.room)) }

pub returns : goal.returns
returns c =
    let a = c.args in
    let t = c.prove_tests-tests in
    let ok = passes (edition_of a.e) a.sheet.now a.coefficients.now a.coins.now a.output.now t.result t.ensures c.in_default.is in
    let v = c.write-2 in let both = written_is ok c.words_due-due.ensures.0 v.ensures.result_value v.ensures.output_after in record { result_value = both.0; output_after = both.1 }
