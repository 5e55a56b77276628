use mathlib.Core.Path.{◌∙◌}
use native.Mathlib.Omega.{arith}
use Rattle.outcome.specs.Meaning.{outcome_of, verdict_of}
use Rattle.load.proofs.LineLaws.{lines_refused, lines_run}
use Rattle.load.proofs.lines.Goals as goal

pub returns-then-seed-eq0 : goal.returns-then-seed-eq0
unfolding outcome_of verdict_of
returns-then-seed-eq0 c =
    let o = c.of_verdict in
    let w = c.write in record { out_after = w.ensures.out_after ∙ o.ensures.bytes_value ∙ lines_refused c.args.seed c.if-seed-eq0.true; upper_bound = omega (arith, w.ensures.value, o.ensures.length_bound) }

pub returns : goal.returns
returns c =
    let r = c.run_lines.ensures in record { out_after = r.out_after ∙ lines_run c.args.seed c.if-seed-eq0.false; upper_bound = r.upper_bound }
