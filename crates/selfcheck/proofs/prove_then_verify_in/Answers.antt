use Prim.Native.Nat.{ℕ, ◌*◌}
use native.Mathlib.Omega.{arith}
use mathlib.Core.Path.{sym, ap, ◌∙◌}
use mathlib.Core.List.{List}
use lib.ListN.{take}
use lib.Seq.{length-take-le}
use Rattle.definition.specs.Verify.{verify_in}
use Rattle.edition.specs.Meaning.{edition_of}
use Rattle.outcome.specs.Meaning.{answer_of}
use Rattle.selfcheck.specs.Written.{blocks_written}
use Rattle.selfcheck.proofs.Judged.{inside, accepted_by}
use Rattle.selfcheck.proofs.prove_then_verify_in.Goals as goal

pub overflow_mul-count : goal.overflow_mul-count
overflow_mul-count c =
    let a = c.args in
    let h = inside (edition_of a.e) a.sheet.now a.coefficients.now a.coins.now a.output.now (c.blocks-count.ensures ∙ ap blocks_written c.prove_in-answer.ensures.result_value) in
    record { fits = omega (arith, h) }

pub slice_bounds-verify_in-end : goal.slice_bounds-verify_in-end
slice_bounds-verify_in-end c =
    let a = c.args in
    let h = inside (edition_of a.e) a.sheet.now a.coefficients.now a.coins.now a.output.now (c.blocks-count.ensures ∙ ap blocks_written c.prove_in-answer.ensures.result_value) in
    omega (arith, h, c.prove_in-answer.auto.output)

pub slice_bounds-verify_in-end-2 : goal.slice_bounds-verify_in-end-2
slice_bounds-verify_in-end-2 c =
    let a = c.args in
    let h = inside (edition_of a.e) a.sheet.now a.coefficients.now a.coins.now a.output.now (c.blocks-count.ensures ∙ ap blocks_written c.prove_in-answer.ensures.result_value) in
    sym (length-take-le (512 * c.blocks-count.result) c.prove_in-answer.new.output (omega (arith, h, c.prove_in-answer.auto.output)))

pub returns : goal.returns
returns c =
    let a = c.args in
    let t = c.prove_in-answer in
    let v = c.verify_in-verdict.ensures ∙ ap (λ (n : ℕ). verify_in (edition_of a.e) (take (512 * n) t.new.output)) c.blocks-count.ensures in record {
      answer_value = t.ensures.result_value;
      output_after = t.ensures.output_after;
      verdict_value = v;
      by_index = accepted_by (edition_of a.e) a.sheet.now a.coefficients.now a.coins.now a.output.now (answer_of t.result) t.ensures.result_value
          (v ∙ ap (λ (l : List ℕ). verify_in (edition_of a.e) (take (512 * blocks_written (answer_of t.result)) l)) t.ensures.output_after);
    }
