use native.Mathlib.Omega.{arith}
use mathlib.Core.Bool.{not}
use mathlib.Core.Path.{sym, ◌∙◌}
use Rattle.definition.specs.Sheet.{edition1, sheet_of}
use Rattle.outcome.specs.Meaning.{place_of}
use Rattle.batch_sheet.proofs.RuleLaws.{all_kept, bound_broken, bound_kept, enough, number_broken, number_kept}
use mathlib.Core.Path.{ap}
use Rattle.batch_sheet.proofs.broken.Goals as goal

pub number_rule-requires : goal.number_rule-requires
number_rule-requires c = c.requires.0

pub returns-then-not-number_rule : goal.returns-then-not-number_rule
unfolding place_of
returns-then-not-number_rule c =
    let a = c.args in
    number_broken (sheet_of edition1 a.w.now) a.count a.bounds.now c.number_rule.ensures (ap not c.if-not-number_rule.true)

pub bounds-w-2 : goal.bounds-w-2
bounds-w-2 c = omega (arith, c.requires.0)

pub overflow_cast-most : goal.overflow_cast-most
overflow_cast-most c = omega (arith, c.shared_slice_known-3-1.given 2)

pub loop-m-init : goal.loop-m-init
unfolding sheet_of
loop-m-init c =
    let a = c.args in
    let h = sheet_of edition1 a.w.now in
    let e = c.number_rule.ensures in
    let right = (ap not c.if-not-number_rule.false) in
    (enough h a.count a.bounds.now e right c.requires.1, number_kept h a.count a.bounds.now e right)

pub offset_bounds-bounds-m : goal.offset_bounds-bounds-m
offset_bounds-bounds-m c = omega (arith, c.loop-m.invariant.0)

pub bounds-bounds-m : goal.bounds-bounds-m
bounds-bounds-m c = omega (arith, c.loop-m.invariant.0)

pub overflow_cast-bounds : goal.overflow_cast-bounds
overflow_cast-bounds c = omega (arith, c.shared_slice_known-in-loop-m-1.given c.loop-m.m)

pub from_one-requires : goal.from_one-requires
from_one-requires c = tt

pub returns-then-not-from_one : goal.returns-then-not-from_one
unfolding place_of
returns-then-not-from_one c =
    let v = c.loop-m.invariant in
    let a = c.args in
    sym (bound_broken _ a.count a.bounds.now v.0 _ c.loop-m-test.true c.from_one.ensures (ap not c.if-not-from_one.true)) ∙ v.1

pub loop-m-preserved : goal.loop-m-preserved
loop-m-preserved c =
    let v = c.loop-m.invariant in
    let a = c.args in
    let kept = bound_kept _ a.count a.bounds.now v.0 _ c.loop-m-test.true c.from_one.ensures (ap not c.if-not-from_one.false) in
    (v.0, sym kept ∙ v.1)

pub returns : goal.returns
unfolding place_of
returns c =
    let v = c.loop-m.invariant in
    let a = c.args in
    sym (all_kept _ a.count a.bounds.now v.0 _ c.loop-m-test.false) ∙ v.1
