use Prim.Native.Nat.{◌*◌}
use native.Mathlib.Omega.{arith}
use mathlib.Core.Path.{sym, ◌∙◌}
use lib.Seq.{length-take-le}
use Rattle.batch_reading.proofs.NumberLaws.{few_blocks}
use Rattle.batch_reading.proofs.StageLaws.{blocks_there, body_passed, body_ruled, numbers_refused, told_passes}
use Rattle.batch_reading.proofs.after_checks.Goals as goal

pub returns-in-Refused : goal.returns-in-Refused
returns-in-Refused c = λ w l. numbers_refused c.requires.1 (omega (arith, c.requires)) l c.numbers-told.ensures c.in-Refused.is

pub overflow_mul-blocks : goal.overflow_mul-blocks
overflow_mul-blocks c = omega (arith, few_blocks c.args.blocks c.args.words.now (told_passes c.numbers-told.ensures c.in_default.is) (omega (arith, c.requires)))

pub slice_bounds-body-end : goal.slice_bounds-body-end
slice_bounds-body-end c = blocks_there c.args.words.now c.args.blocks c.requires.0 c.requires.1 (told_passes c.numbers-told.ensures c.in_default.is)

pub slice_bounds-body-end-2 : goal.slice_bounds-body-end-2
slice_bounds-body-end-2 c = sym (length-take-le (127 * c.args.blocks) c.args.words.now (blocks_there c.args.words.now c.args.blocks c.requires.0 c.requires.1 (told_passes c.numbers-told.ensures c.in_default.is)))

pub body-requires : goal.body-requires
body-requires c =
    let ok = told_passes c.numbers-told.ensures c.in_default.is in
    body_ruled c.args.words.now c.args.blocks (blocks_there c.args.words.now c.args.blocks c.requires.0 c.requires.1 ok) c.requires.1 ok

pub returns : goal.returns
returns c =
    λ w l.
    let ok = told_passes c.numbers-told.ensures c.in_default.is in
    body_passed c.requires.1 (omega (arith, c.requires)) l ok (c.body.auto.w ∙ length-take-le (127 * c.args.blocks) c.args.words.now (blocks_there c.args.words.now c.args.blocks c.requires.0 c.requires.1 ok)) c.body.ensures
