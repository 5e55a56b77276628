use mathlib.Core.Path.{sym, ◌∙◌}
use native.Mathlib.Omega.{arith}
use Rattle.edition.specs.Meaning.{edition_of}
use Rattle.outcome.specs.Meaning.{outcome_of, verdict_of}
use Rattle.batch_verify.proofs.JudgedLaws.{accepted_is, few, near, other_is, out_is}
use Rattle.batch_verify.proofs.judged.Goals as goal

-- `batch_verify::judged` meets its contract. Assumes nothing.
pub deciding-v-requires : goal.deciding-v-requires
unfolding edition_of
deciding-v-requires c =
    let h = c.requires.0 in record { w_value = (h.sheet, h.range); w_in_bounds = h.there }

pub all_reads-requires : goal.all_reads-requires
unfolding edition_of
all_reads-requires c =
    let d = c.deciding-v in
    (c.requires.0, (c.requires.1.0, (c.requires.1.1.0, few c.args.plain.now c.requires.0 d.result d.ensures)))

pub returns-in_default : goal.returns-in_default
unfolding edition_of verdict_of outcome_of
returns-in_default c =
    let d = c.deciding-v in
    accepted_is c.args.plain.now c.requires.0 d.result d.ensures c.args.count c.args.shift c.in_default.is c.all_reads.ensures

pub overflow_add-result : goal.overflow_add-result
unfolding edition_of
overflow_add-result c =
    let d = c.deciding-v in
    omega (arith, c.requires.1.1.1, near c.args.plain.now c.requires.0 d.result d.ensures c.in-Refused.is (sym c.if-of_out_coin.true ∙ c.of_out_coin.ensures))

pub returns-then-of_out_coin : goal.returns-then-of_out_coin
unfolding edition_of verdict_of outcome_of
returns-then-of_out_coin c =
    let d = c.deciding-v in
    out_is c.args.plain.now c.requires.0 d.result d.ensures c.args.count c.args.shift c.in-Refused.is (sym c.if-of_out_coin.true ∙ c.of_out_coin.ensures)

pub all_reads-requires-2 : goal.all_reads-requires-2
unfolding edition_of
all_reads-requires-2 c =
    let d = c.deciding-v in
    (c.requires.0, (c.requires.1.0, (c.requires.1.1.0, few c.args.plain.now c.requires.0 d.result d.ensures)))

pub returns : goal.returns
unfolding edition_of verdict_of outcome_of
returns c =
    let d = c.deciding-v in
    other_is c.args.plain.now c.requires.0 d.result d.ensures c.args.count c.args.shift c.in-Refused.is (sym c.if-of_out_coin.false ∙ c.of_out_coin.ensures) c.all_reads-2.ensures
