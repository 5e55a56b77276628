use mathlib.Core.Path.{sym, ap}
use Rattle.outcome.specs.declared.Answer.{Answer}
use Rattle.outcome.specs.Meaning.{answer_of}
use Rattle.selfcheck.specs.Written.{blocks_written}
use Rattle.selfcheck.proofs.blocks.Goals as goal

pub returns-in-Done : goal.returns-in-Done
unfolding blocks_written answer_of
returns-in-Done c = sym (ap (λ (x : Answer). blocks_written (answer_of x)) c.in-Done.is)

pub returns-in-Refusal : goal.returns-in-Refusal
unfolding blocks_written answer_of
returns-in-Refusal c = sym (ap (λ (x : Answer). blocks_written (answer_of x)) c.in-Refusal.is)
