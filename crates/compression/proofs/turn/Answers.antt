use mathlib.Core.Path.{refl}
use native.Mathlib.Omega.{arith}
use Rattle.hash_laws.specs.Steps.{turn_law}
use Rattle.compression.specs.Meaning.{state_of}
use Rattle.compression.proofs.turn.Goals as goal

pub returns : goal.returns
returns c =
    let a = c.args in
    turn_law (state_of a.s) a.k a.w c.big_sigma1.ensures c.choose.ensures (omega arith) c.big_sigma0.ensures c.majority.ensures refl refl refl
