use Rattle.definition.specs.Sheet.{edition2}
use Rattle.edition.specs.Meaning.{edition_of}
use Rattle.selfcheck.proofs.Judged.{Both, both}
use Rattle.selfcheck.proofs.prove_then_verify_2.Goals as goal

pub returns : goal.returns
unfolding edition_of
returns c =
    let a = c.args in
    let p = both (c.prove_then_verify_in.ensures.answer_value, (c.prove_then_verify_in.ensures.output_after, (c.prove_then_verify_in.ensures.verdict_value, c.prove_then_verify_in.ensures.by_index))) in
    let q : Both edition2 a.sheet.now a.coefficients.now a.coins.now a.output.now _ _ _ = p in record { answer_value = q.answer; output_after = q.output; verdict_value = q.verdict; by_index = q.due }
