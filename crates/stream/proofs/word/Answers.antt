use native.Mathlib.Omega.{arith}
use Rattle.layouts.specs.FileWords.{word_sum}
use Rattle.stream.proofs.word.Goals as goal

pub returns : goal.returns
returns c =
    omega (arith, word_sum c.args.s.now c.args.at c.requires)
