use Rattle.outcome.specs.Meaning.{outcome_of, verdict_of}
use Rattle.edition.specs.Meaning.{edition_of}
use Rattle.deciding.proofs.Ready.{out_passed, out_refused, outside_passed, range_rest}
use Rattle.deciding.proofs.test_outs_then_decide.Goals as goal

pub returns-in-Refused : goal.returns-in-Refused
unfolding verdict_of outcome_of
returns-in-Refused c =
    let a = c.args in
    let q = c.tests-outs in
    out_refused (edition_of a.e) a.w.now q.result q.ensures c.in-Refused.is

pub decide_past_out_tests-requires : goal.decide_past_out_tests-requires
decide_past_out_tests-requires c =
    let p = c.requires in
    let a = c.args in
    let q = c.tests-outs in record { w_value = (p.w_value.0, range_rest (edition_of a.e) a.w.now p.w_value.0 p.w_in_bounds p.w_value.1); w_in_bounds = p.w_in_bounds; powers = p.powers; w_value_2 = outside_passed (edition_of a.e) a.w.now q.result q.ensures c.in_default.is; px_len = p.px_len }

pub returns : goal.returns
returns c =
    let a = c.args in
    let q = c.tests-outs in
    out_passed (edition_of a.e) a.w.now q.result q.ensures c.in_default.is c.decide_past_out_tests.ensures
