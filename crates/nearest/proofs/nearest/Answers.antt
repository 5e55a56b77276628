use native.Mathlib.Omega.{arith}
use mathlib.Core.Path.{sym, ap}
use Rattle.definition.specs.Prove.{Result}
use Rattle.outcome.specs.Meaning.{answer_of}
use Rattle.nearest.proofs.Orders.{passes, refused_is, searches}
use Rattle.nearest.proofs.nearest.Goals as goal

pub returns-in-Refused : goal.returns-in-Refused
unfolding answer_of
returns-in-Refused c =
    let a = c.args in
    let t = c.nearest_tests-tests in
    let e = refused_is a.sheet.now a.table.now a.output.now t.result t.ensures c.in-Refused.is in record { result_value = sym (ap (λ (x : Result). x.answer) e); output_after = sym (ap (λ (x : Result). x.output) e) }

pub search_for-requires : goal.search_for-requires
search_for-requires c =
    let a = c.args in
    let t = c.nearest_tests-tests in
    let ok = passes a.sheet.now a.table.now a.output.now t.result t.ensures c.in_default.is in record { in_bounds = (omega (arith, ok.long), ok.sheet); table_len = ok.entries; w_in_bounds = ok.room }

pub returns : goal.returns
returns c =
    let a = c.args in
    let t = c.nearest_tests-tests in let both = searches a.sheet.now a.table.now a.output.now t.result t.ensures c.in_default.is c.search_for.ensures in record { result_value = both.0; output_after = both.1 }
