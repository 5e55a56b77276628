use native.Mathlib.Omega.{arith}
use mathlib.Core.Path.{refl}
use Rattle.stream.specs.Checks.{weighted_small}
use Rattle.stream.proofs.add_weighted.Goals as goal

pub overflow_mul-result : goal.overflow_mul-result
overflow_mul-result c = omega (arith, weighted_small c.args.w c.args.x c.requires.0 c.ranges.x.fits)

pub overflow_add-result-2 : goal.overflow_add-result-2
overflow_add-result-2 c = omega (arith, weighted_small c.args.w c.args.x c.requires.0 c.ranges.x.fits)

pub returns : goal.returns
returns c = (refl, omega (arith, weighted_small c.args.w c.args.x c.requires.0 c.ranges.x.fits))
