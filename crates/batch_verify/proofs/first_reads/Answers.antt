use native.Mathlib.Omega.{arith}
use Rattle.batch_verify.proofs.FirstLaws.{indices_few, indices_there, numbers, reads_are, start_is}
use Rattle.batch_verify.proofs.first_reads.Goals as goal

-- `batch_verify::first_reads` meets its contract. Assumes nothing.
pub bounds-plain-1 : goal.bounds-plain-1
bounds-plain-1 c = omega (arith, (numbers c.args.plain.now c.requires.0).0)

pub overflow_cast-size : goal.overflow_cast-size
overflow_cast-size c = omega (arith, (numbers c.args.plain.now c.requires.0).1)

pub bounds-plain-5 : goal.bounds-plain-5
bounds-plain-5 c = omega (arith, (numbers c.args.plain.now c.requires.0).0)

pub overflow_cast-s : goal.overflow_cast-s
overflow_cast-s c = omega (arith, (numbers c.args.plain.now c.requires.0).2)

pub bounds-plain-6 : goal.bounds-plain-6
bounds-plain-6 c = omega (arith, (numbers c.args.plain.now c.requires.0).0)

pub overflow_cast-t : goal.overflow_cast-t
overflow_cast-t c = omega (arith, (numbers c.args.plain.now c.requires.0).3)

pub bounds-plain-0 : goal.bounds-plain-0
bounds-plain-0 c =
    let m = numbers c.args.plain.now c.requires.0 in
    omega (arith, m.0, m.1, m.2)

pub overflow_add-size : goal.overflow_add-size
overflow_add-size c =
    let m = numbers c.args.plain.now c.requires.0 in
    omega (arith, m.0, m.1, m.2)

pub overflow_add-size-2 : goal.overflow_add-size-2
overflow_add-size-2 c =
    let m = numbers c.args.plain.now c.requires.0 in
    omega (arith, m.0, m.1, m.2)

pub overflow_add-size-3 : goal.overflow_add-size-3
overflow_add-size-3 c =
    let m = numbers c.args.plain.now c.requires.0 in
    omega (arith, m.0, m.1, m.2)

pub overflow_add-size-4 : goal.overflow_add-size-4
overflow_add-size-4 c =
    let m = numbers c.args.plain.now c.requires.0 in
    omega (arith, m.0, m.1, m.2)

pub overflow_add-size-5 : goal.overflow_add-size-5
overflow_add-size-5 c =
    let m = numbers c.args.plain.now c.requires.0 in
    omega (arith, m.0, m.1, m.2)

pub words-at-requires : goal.words-at-requires
words-at-requires c =
    let m = numbers c.args.plain.now c.requires.0 in
    omega (arith, m.0, m.1, m.2)

pub overflow_add-at : goal.overflow_add-at
overflow_add-at c =
    let m = numbers c.args.plain.now c.requires.0 in
    omega (arith, m.1, m.2, c.words-at.ensures.1)

pub overflow_add-at-2 : goal.overflow_add-at-2
overflow_add-at-2 c =
    let m = numbers c.args.plain.now c.requires.0 in
    omega (arith, m.1, m.2, m.3, c.words-at.ensures.1)

pub offset_bounds-plain-at : goal.offset_bounds-plain-at
offset_bounds-plain-at c =
    let m = numbers c.args.plain.now c.requires.0 in
    omega (arith, m.1, m.2, m.3, c.words-at.ensures.1)

pub slice_bounds-count-end : goal.slice_bounds-count-end
slice_bounds-count-end c =
    omega (arith, indices_there c.args.plain.now c.requires.0 c.requires.1, start_is c.args.plain.now c.requires.0 c.words-at.ensures.0)

pub count-requires : goal.count-requires
count-requires c =
    indices_few c.args.plain.now c.requires.0 c.requires.1 (start_is c.args.plain.now c.requires.0 c.words-at.ensures.0)

pub bounds-plain-3 : goal.bounds-plain-3
bounds-plain-3 c = omega (arith, (numbers c.args.plain.now c.requires.0).0)

pub overflow_cast-result : goal.overflow_cast-result
overflow_cast-result c = omega (arith, (numbers c.args.plain.now c.requires.0).4)

pub overflow_mul-result : goal.overflow_mul-result
overflow_mul-result c =
    omega (arith, (reads_are c.args.plain.now c.requires.0 c.requires.1 (start_is c.args.plain.now c.requires.0 c.words-at.ensures.0) c.count.ensures).1)

pub returns : goal.returns
returns c =
    reads_are c.args.plain.now c.requires.0 c.requires.1 (start_is c.args.plain.now c.requires.0 c.words-at.ensures.0) c.count.ensures
