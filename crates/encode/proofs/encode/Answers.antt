use mathlib.Core.Path.{sym, ap, ◌∙◌}
use native.Mathlib.Omega.{arith}
use lib.Seq.{length-take-le}
use Rattle.definition.specs.Prove.{Result, done}
use Rattle.outcome.specs.Meaning.{answer_of}
use Rattle.encode.proofs.Stages.{passes, placed, refused_is, table_zero}
use Rattle.encode.proofs.encode.Goals as goal

pub returns-in-Refused : goal.returns-in-Refused
unfolding answer_of
returns-in-Refused c =
    let a = c.args in
    let t = c.encode_tests-tests in
    let e = refused_is a.sheet.now a.coefficients.now a.output.now t.result t.ensures c.in-Refused.is in record { result_value = sym (ap (λ (x : Result). x.answer) e); output_after = sym (ap (λ (x : Result). x.output) e) }

pub bounds-sheet-0 : goal.bounds-sheet-0
bounds-sheet-0 c =
    let a = c.args in
    let ok = passes a.sheet.now a.coefficients.now a.output.now c.encode_tests-tests.result c.encode_tests-tests.ensures c.in_default.is in
    omega (arith, ok.long)

pub bounds-sheet-1 : goal.bounds-sheet-1
bounds-sheet-1 c =
    let a = c.args in
    let ok = passes a.sheet.now a.coefficients.now a.output.now c.encode_tests-tests.result c.encode_tests-tests.ensures c.in_default.is in
    omega (arith, ok.long)

pub overflow_cast-sheet : goal.overflow_cast-sheet
overflow_cast-sheet c =
    let a = c.args in
    let ok = passes a.sheet.now a.coefficients.now a.output.now c.encode_tests-tests.result c.encode_tests-tests.ensures c.in_default.is in
    omega (arith, ok.small)

pub words-size-requires : goal.words-size-requires
words-size-requires c =
    let a = c.args in
    let ok = passes a.sheet.now a.coefficients.now a.output.now c.encode_tests-tests.result c.encode_tests-tests.ensures c.in_default.is in
    omega (arith, ok.small)

pub slice_bounds-of_polynomial-end : goal.slice_bounds-of_polynomial-end
slice_bounds-of_polynomial-end c =
    let a = c.args in
    let ok = passes a.sheet.now a.coefficients.now a.output.now c.encode_tests-tests.result c.encode_tests-tests.ensures c.in_default.is in
    omega (arith, ok.room, c.words-size.ensures.0)

pub slice_bounds-of_polynomial-end-2 : goal.slice_bounds-of_polynomial-end-2
slice_bounds-of_polynomial-end-2 c =
    let a = c.args in
    let ok = passes a.sheet.now a.coefficients.now a.output.now c.encode_tests-tests.result c.encode_tests-tests.ensures c.in_default.is in
    let n = c.words-size in
    sym (length-take-le n.result a.output.now (omega (arith, ok.room, n.ensures.0)))

pub of_polynomial-requires : goal.of_polynomial-requires
of_polynomial-requires c =
    let a = c.args in
    let ok = passes a.sheet.now a.coefficients.now a.output.now c.encode_tests-tests.result c.encode_tests-tests.ensures c.in_default.is in
    let n = c.words-size in record { in_bounds = (omega (arith, ok.long), ok.sheet); f_len = ok.coefficients; out_len = length-take-le n.result a.output.now (omega (arith, ok.room, n.ensures.0)) ∙ n.ensures.0 }

pub returns : goal.returns
unfolding answer_of
returns c =
    let a = c.args in
    let ok = passes a.sheet.now a.coefficients.now a.output.now c.encode_tests-tests.result c.encode_tests-tests.ensures c.in_default.is in
    let n = c.words-size in
    let p = c.of_polynomial in record {
      result_value = ap done n.ensures.0 ∙ sym (ap (λ (x : Result). x.answer) ok.result);
      output_after = placed (table_zero a.sheet.now a.coefficients.now) p.new.out a.output.now n.result p.ensures (p.auto.out ∙ length-take-le n.result a.output.now (omega (arith, ok.room, n.ensures.0)))
          ∙ sym (ap (λ (x : Result). x.output) ok.result);
    }
