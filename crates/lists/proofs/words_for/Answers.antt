use Prim.Native.Nat.{◌+◌, ◌/◌}
use native.Mathlib.Omega.{arith}
use mathlib.Core.Path.{refl}
use Rattle.lists.proofs.Interpolating.{words_are}
use Rattle.lists.proofs.words_for.Goals as goal

pub overflow_mul-result : goal.overflow_mul-result
overflow_mul-result c = omega (arith, (words_are c.args.k c.args.e c.requires.0).0)

pub returns : goal.returns
returns c =
    let a = c.args in
    let w = words_are a.k a.e c.requires.0 in
    ((omega (arith, w.1), (omega (arith, w.0), ((a.e + a.k) / a.k, refl))), w.1)
