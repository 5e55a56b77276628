use mathlib.Core.Path.{refl, ap, ◌∙◌}
use mathlib.Core.Bool.{not}
use native.Mathlib.Omega.{arith}
use lib.ListN.{get_or}
use borrow.Author.Tests.{eq-eqb, ne_eqb}
use Rattle.outcome.specs.Meaning.{place_of}
use Rattle.ranges.proofs.FirstFrom.{true_here, false_here, none_left}
use Rattle.ranges.proofs.fill_not_zero.Invariants.{filled}
use Rattle.ranges.proofs.fill_not_zero.Goals as goal

pub loop-at-init : goal.loop-at-init
loop-at-init c = refl

pub returns-then-w-at-ne0 : goal.returns-then-w-at-ne0
unfolding place_of
returns-then-w-at-ne0 c =
    let a = c.args in
    let l = c.loop-at in
    true_here filled a.w.now l.at (omega arith) (ap not (ne_eqb (get_or a.w.now l.at 0) 0 c.if-w-at-ne0.true)) ∙ l.invariant

pub loop-at-preserved : goal.loop-at-preserved
loop-at-preserved c =
    let a = c.args in
    let l = c.loop-at in
    false_here filled a.w.now l.at (omega arith) (ap not (eq-eqb (get_or a.w.now l.at 0) 0 c.if-w-at-ne0.false)) ∙ l.invariant

pub returns : goal.returns
unfolding place_of
returns c =
    let a = c.args in
    let l = c.loop-at in
    none_left filled a.w.now l.at (omega arith) ∙ l.invariant
