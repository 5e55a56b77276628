use Rattle.verify.proofs.read_in.Goals as goal

pub returns-then-file-le4096 : goal.returns-then-file-le4096
returns-then-file-le4096 c = c.read.ensures.outcome

pub returns : goal.returns
returns c = c.read-2.ensures.outcome
