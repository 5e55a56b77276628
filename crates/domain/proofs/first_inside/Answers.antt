use native.Mathlib.Omega.{arith}
use Rattle.outcome.specs.Meaning.{place_of}
use Rattle.domain.proofs.Walked.{element_there, walk_begins, walk_ends, walk_here, walk_on}
use Rattle.domain.proofs.first_inside.Goals as goal

pub loop-init : goal.loop-init
loop-init c = let a = c.args in walk_begins a.field a.w.now a.pw.now a.scale a.at a.count c.requires.1

pub element_inside-requires : goal.element_inside-requires
element_inside-requires c = let a = c.args in (c.requires.0, element_there a.field a.w.now a.pw.now a.scale a.at a.count c.loop.invariant c.loop-test.true)

pub returns-then-element_inside : goal.returns-then-element_inside
unfolding place_of
returns-then-element_inside c =
    let a = c.args in
    walk_here a.field a.w.now a.pw.now a.scale a.at a.count c.loop.invariant c.loop-test.true c.element_inside.ensures c.if-element_inside.true

pub overflow_add-place : goal.overflow_add-place
overflow_add-place c =
    let a = c.args in
    omega (arith, c.words-width.ensures.0, element_there a.field a.w.now a.pw.now a.scale a.at a.count c.loop.invariant c.loop-test.true)

pub loop-preserved : goal.loop-preserved
loop-preserved c =
    let a = c.args in
    walk_on a.field a.w.now a.pw.now a.scale a.at a.count c.loop.invariant c.loop-test.true c.element_inside.ensures c.if-element_inside.false c.words-width.ensures.0

pub returns : goal.returns
unfolding place_of
returns c =
    let a = c.args in
    walk_ends a.field a.w.now a.pw.now a.scale a.at a.count c.loop.invariant c.loop-test.false
