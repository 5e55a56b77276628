use mathlib.Core.List.{[], ◌∷◌, ◌++◌}
use native.Mathlib.Omega.{arith}
use borrow.Author.Rules.{rules}
use Rattle.definition.specs.Line.{decimal, line_of, outcome_text}
use Rattle.outcome.specs.Meaning.{outcome_of, verdict_of}
use Rattle.line.specs.Decimal.{long_64}
use Rattle.line.specs.Text.{extends_then, held_then}
use Rattle.line.proofs.of_verdict.Goals as goal

pub digits-counted-requires : goal.digits-counted-requires
digits-counted-requires c =
    omega (arith, long_64 c.args.v.reads (search rules))

pub put-requires-2 : goal.put-requires-2
put-requires-2 c =
    omega (arith, long_64 c.args.v.reads (search rules))

pub returns : goal.returns
unfolding line_of verdict_of
returns c =
    let last = c.put-2 in
    let d = c.digits-counted in
    let p = c.put in
    let o = c.outcome_text in
    let reads = decimal c.args.v.reads in
    let counted = extends_then p.result d.result last.result reads (10 ∷ []) d.ensures last.ensures in
    let more = extends_then o.result p.result last.result (32 ∷ []) (reads ++ (10 ∷ [])) p.ensures counted in
    let whole = held_then o.result last.result (outcome_text (outcome_of c.args.v.outcome)) (32 ∷ (reads ++ (10 ∷ []))) o.ensures.0 more in record { bytes_value = whole.text; length_value = whole.long; length_bound = omega (arith, long_64 c.args.v.reads (search rules)) }
