use Rattle.std.proofs.Common.{arith}
use Rattle.lists.proofs.interpolated.Goals as goal

pub whole_as_front-divisors : goal.whole_as_front-divisors
whole_as_front-divisors g c = (c.requires.xs_in_bounds.0, omega (arith, c.requires.xs_in_bounds.1.1))

pub whole_as_slice-divisors : goal.whole_as_slice-divisors
whole_as_slice-divisors g c = omega (arith, c.requires.xs_in_bounds.1.1)

pub shared_whole_as_front-steps : goal.shared_whole_as_front-steps
shared_whole_as_front-steps g c = (c.requires.xs_in_bounds.0, omega (arith, c.requires.xs_in_bounds.1.1))

pub whole_as_slice-steps : goal.whole_as_slice-steps
whole_as_slice-steps g c = omega (arith, c.requires.xs_in_bounds.1.1)
