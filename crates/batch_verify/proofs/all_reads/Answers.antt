use Prim.Native.Nat.{◌-◌, ◌≤◌}
use native.Mathlib.Nat.{mul-le-mul}
use native.Mathlib.Omega.{arith}
use Rattle.batch_verify.proofs.FirstLaws.{no_round_lem, numbers, rounds_there, some_round}
use Rattle.batch_verify.proofs.all_reads.Goals as goal

-- `batch_verify::all_reads` meets its contract. Assumes nothing.
pub bounds-plain-4 : goal.bounds-plain-4
bounds-plain-4 c = omega (arith, (numbers c.args.plain.now c.requires.0).0)

pub overflow_mul-result : goal.overflow_mul-result
overflow_mul-result c =
    omega (arith, mul-le-mul c.requires.1.1.0 c.requires.1.1.1)

pub returns-then-plain-eq0 : goal.returns-then-plain-eq0
returns-then-plain-eq0 c =
    no_round_lem c.args.plain.now c.requires.0 c.args.count c.args.reads c.if-plain-eq0.true

pub first_reads-requires : goal.first_reads-requires
first_reads-requires c =
    (c.requires.0, rounds_there c.args.plain.now c.requires.0 c.args.count c.args.reads c.if-plain-eq0.false)

pub overflow_mul-result-2 : goal.overflow_mul-result-2
overflow_mul-result-2 c =
    let few : c.args.count - 1 ≤ 8 = omega (arith, c.requires.1.1.0) in
    omega (arith, mul-le-mul few c.first_reads.ensures.1)

pub overflow_add-result : goal.overflow_add-result
overflow_add-result c =
    let few : c.args.count - 1 ≤ 8 = omega (arith, c.requires.1.1.0) in
    omega (arith, c.requires.1.1.1, mul-le-mul few c.first_reads.ensures.1)

pub returns : goal.returns
returns c =
    some_round c.args.plain.now c.requires.0 c.args.count c.args.reads c.if-plain-eq0.false c.first_reads.ensures.0
