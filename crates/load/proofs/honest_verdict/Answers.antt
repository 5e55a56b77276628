use Rattle.list_laws.specs.Zeros.{zeros, length_zeros}
use Rattle.load.proofs.Inputs.{drawn_verdict}
use Rattle.load.proofs.honest_verdict.Goals as goal

pub returns : goal.returns
returns c =
    let p = c.prove_then_verify-checked in
    λ v e. drawn_verdict v e (zeros 34304) (length_zeros 34304) p.ensures.answer_value p.ensures.by_index
