use native.Mathlib.Omega.{arith}
use mathlib.Core.Path.{sym}
use Rattle.definition.specs.Field.{spelling_of}
use Rattle.spelling.specs.ByField.{elements_at, field_at}
use Rattle.spelling.specs.Words.{elements_few}
use Rattle.closest.proofs.Counting.{further_all, further_nil, further_other, further_same}
use mathlib.Core.Path.{ap}
use Rattle.std.specs.Prelude.{not}
use Rattle.closest.proofs.differ.Goals as goal

pub loop-i-init : goal.loop-i-init
loop-i-init c =
    let a = c.args in
    let e = c.count-n.ensures in
    (omega (arith, e), further_nil (field_at a.field) (elements_at a.field a.xs.now) (elements_at a.field a.ys.now) _ (sym e))

pub alike-requires : goal.alike-requires
alike-requires c = (omega (arith, c.loop-i.invariant.0, c.loop-i-test.true), omega (arith, c.loop-i.invariant.0, c.loop-i-test.true, c.requires))

pub overflow_add-count : goal.overflow_add-count
overflow_add-count c = omega (arith, c.loop-i.invariant.0, elements_few (spelling_of c.args.field) c.args.xs.now)

pub loop-i-preserved-then-not-alike : goal.loop-i-preserved-then-not-alike
loop-i-preserved-then-not-alike c =
    let a = c.args in
    let l = c.loop-i in
    let t = c.loop-i-test.true in
    (omega (arith, l.invariant.0, t), further_other (field_at a.field) (elements_at a.field a.xs.now) (elements_at a.field a.ys.now) l.i t (omega (arith, l.invariant.0)) (omega (arith, l.invariant.0, c.requires)) c.alike.ensures (ap not c.if-not-alike.true) l.invariant.1)

pub loop-i-preserved : goal.loop-i-preserved
loop-i-preserved c =
    let a = c.args in
    let l = c.loop-i in
    let t = c.loop-i-test.true in
    (omega (arith, l.invariant.0, t), further_same (field_at a.field) (elements_at a.field a.xs.now) (elements_at a.field a.ys.now) l.i t (omega (arith, l.invariant.0)) (omega (arith, l.invariant.0, c.requires)) c.alike.ensures (ap not c.if-not-alike.false) l.invariant.1)

pub returns : goal.returns
returns c =
    let a = c.args in
    let l = c.loop-i in
    further_all (field_at a.field) (elements_at a.field a.xs.now) (elements_at a.field a.ys.now) l.i (omega (arith, c.loop-i-test.false)) l.invariant.1
