use native.Mathlib.Numerals.{unary_clauses}
use mathlib.Core.Path.{ap}
use Rattle.std.proofs.lemmas.List.{length_push}
use Rattle.std.proofs.lemmas.Iterator.Adapters.{YieldsList-from_rev_slice}
use Rattle.std.proofs.lemmas.Iterator.Consumers.{YieldsList-turn}
use Rattle.places.specs.Marks.{count_start, marked_start}
use Rattle.places.proofs.Turn.{next_marks, next_new, next_old}
use Rattle.std.specs.Prelude.{not}
use Rattle.places.proofs.count_by.Goals as goal

pub loop-j-init : goal.loop-j-init
loop-j-init c = simp unary_clauses (count_start c.args.js.now, marked_start c.args.js.now c.args.marks.now c.requires.marks_value)

pub loop-j-preserved-then-not-mark : goal.loop-j-preserved-then-not-mark
loop-j-preserved-then-not-mark c =
    let l = c.loop-j in
    let s = length_push l.yielded c.in-Some.j in
    let t = YieldsList-turn (YieldsList-from_rev_slice c.args.js.now cc) l.yielded _ l.yielded_by _ _ c.in-Some.j c.in-Some.is c.next.ensures.steps in
    (next_new _ l.marks _ _ _ _ c.requires.all t s l.invariant c.mark.ensures.value (ap not c.if-not-mark.true), next_marks _ l.marks l.count _ _ _ c.requires.all t s l.invariant c.mark.ensures.marks_after)

pub loop-j-preserved : goal.loop-j-preserved
loop-j-preserved c =
    let l = c.loop-j in
    let s = length_push l.yielded c.in-Some.j in
    let t = YieldsList-turn (YieldsList-from_rev_slice c.args.js.now cc) l.yielded _ l.yielded_by _ _ c.in-Some.j c.in-Some.is c.next.ensures.steps in
    (next_old _ l.marks _ _ _ _ c.requires.all t s l.invariant c.mark.ensures.value (ap not c.if-not-mark.false), next_marks _ l.marks l.count _ _ _ c.requires.all t s l.invariant c.mark.ensures.marks_after)
