use native.Mathlib.Omega.{arith}
use Rattle.definition.specs.Sheet.{sheet_of}
use Rattle.edition.specs.Meaning.{edition_of}
use Rattle.elements.specs.Meaning.{value_in}
use Rattle.outcome.specs.Meaning.{outcome_of, verdict_of}
use Rattle.decide_rounds.proofs.Ready.{differ_ready, place_ready, same_ready}
use Rattle.decide_rounds.proofs.decide_final.Goals as goal

-- `decide_rounds::decide_final` meets its contract. Assumes nothing.
pub final_difference-f-requires : goal.final_difference-f-requires
final_difference-f-requires c = record { table_inside = c.requires.invariant.inside; final_inside = c.requires.level_value.1; clear = c.requires.represented.clear }

pub overflow_add-i : goal.overflow_add-i
overflow_add-i c =
    let a = c.args in
    let h = sheet_of (edition_of a.e) a.w.now in
    let q = c.final_difference-f in
    let i = c.requires.level_value in
    let few = place_ready h a.w.now a.pw.now a.ac.now a.vg.now a.state a.reads (value_in h.spelling a.r) a.oracle c.requires.invariant i.0 q.result q.ensures c.in-Some.is c.requires.represented in
    omega (arith, few, i.1.numbers.few)

pub reads_after_finals-requires : goal.reads_after_finals-requires
reads_after_finals-requires c =
    let a = c.args in
    let h = sheet_of (edition_of a.e) a.w.now in
    let q = c.final_difference-f in
    let i = c.requires.level_value in
    let few = place_ready h a.w.now a.pw.now a.ac.now a.vg.now a.state a.reads (value_in h.spelling a.r) a.oracle c.requires.invariant i.0 q.result q.ensures c.in-Some.is c.requires.represented in record { final_inside = (i.1, omega (arith, c.requires.reads_bound, i.1.numbers.level)); count_bound = omega (arith, few) }

pub returns-in-Some : goal.returns-in-Some
unfolding verdict_of outcome_of
returns-in-Some c =
    let a = c.args in
    let h = sheet_of (edition_of a.e) a.w.now in
    let q = c.final_difference-f in
    differ_ready h a.w.now a.pw.now a.ac.now a.vg.now a.state a.reads (value_in h.spelling a.r) a.oracle c.requires.invariant c.requires.level_value.0 q.result q.ensures
    c.in-Some.is c.reads_after_finals.ensures

pub reads_after_finals-requires-2 : goal.reads_after_finals-requires-2
reads_after_finals-requires-2 c =
    let i = c.requires.level_value.1 in record { final_inside = (i, omega (arith, c.requires.reads_bound, i.numbers.level)); count_bound = omega (arith, i.numbers.times) }

pub returns : goal.returns
unfolding verdict_of outcome_of
returns c =
    let a = c.args in
    let h = sheet_of (edition_of a.e) a.w.now in
    let q = c.final_difference-f in
    let i = c.requires.level_value in
    same_ready h a.w.now a.pw.now a.ac.now a.vg.now a.state a.reads (value_in h.spelling a.r) a.oracle c.requires.invariant i.0 q.result q.ensures
    (edition_of a.e) i.1 i.1.numbers.times c.in_default.is c.reads_after_finals-2.ensures
