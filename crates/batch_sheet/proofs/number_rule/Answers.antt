use native.Mathlib.Omega.{arith}
use native.Mathlib.Nat.{mul-le-mul_right}
use borrow.Author.Tests.{not-false}
use mathlib.Core.Path.{sym, ◌∙◌}
use lib.ListN.{get_or}
use Rattle.layouts.specs.SheetRules.{between_true}
use Rattle.definition.specs.Sheet.{edition1, sheet_of}
use Rattle.batch_sheet.proofs.RuleLaws.{other_number, right_number}
use mathlib.Core.Path.{ap}
use Rattle.std.specs.Prelude.{not}
use Rattle.batch_sheet.proofs.number_rule.Goals as goal

pub returns-then-not-from_one : goal.returns-then-not-from_one
returns-then-not-from_one c =
    let a = c.args in
    other_number (sheet_of edition1 a.w.now) a.count c.from_one.ensures (ap not c.if-not-from_one.true)

pub overflow_cast-result : goal.overflow_cast-result
overflow_cast-result c = omega (arith, c.shared_slice_known-2-1.given 1)

pub overflow_mul-result : goal.overflow_mul-result
overflow_mul-result c =
    let a = c.args in
    let few = between_true 1 8 a.count (sym c.from_one.ensures ∙ not-false _ (ap not c.if-not-from_one.false)) in
    omega (arith, c.shared_slice_known-2-1.given 1, few, mul-le-mul_right (get_or a.w.now 1 0) few.1)

pub returns : goal.returns
returns c =
    let a = c.args in
    right_number a.w.now a.count c.from_one.ensures (ap not c.if-not-from_one.false) c.most_entries.ensures
