use Prim.Native.Nat.{ℕ}
use native.Mathlib.Omega.{arith}
use mathlib.Core.List.{List}
use mathlib.Core.Path.{ap, ◌∙◌}
use lib.ListN.{length}
use Rattle.list_laws.specs.Lists.{rest_all}
use Rattle.definition.specs.Prove.{coin_domain_test, coin_equal_test}
use Rattle.definition.specs.Sheet.{edition1, sheet_of}
use Rattle.definition.specs.Verdict.{◌then◌}
use Rattle.edition.specs.Meaning.{edition_of}
use Rattle.outcome.specs.Meaning.{outcome_of}
use Rattle.batch_inputs.proofs.Coins.{coins_few, enough, others_long, outs_passed, outs_place, outs_refused}
use Rattle.batch_inputs.proofs.out_tests.Goals as goal

-- `batch_inputs::out_tests`: the tests of the coins after r, with its words counted. Assumes nothing.
pub bounds-w-0 : goal.bounds-w-0
bounds-w-0 c = omega (arith, c.requires.edition1_in_bounds.0)

pub slice_bounds-coin_tests-count : goal.slice_bounds-coin_tests-count
unfolding sheet_of
slice_bounds-coin_tests-count c =
    let a = c.args in
    omega (arith, enough a.w.now a.coins.now c.requires.coins_len c.words-first.ensures.0)

pub slice_bounds-coin_tests-start : goal.slice_bounds-coin_tests-start
unfolding sheet_of
slice_bounds-coin_tests-start c =
    let a = c.args in
    omega (arith, enough a.w.now a.coins.now c.requires.coins_len c.words-first.ensures.0)

pub coin_tests-outs-requires : goal.coin_tests-outs-requires
unfolding edition_of sheet_of
coin_tests-outs-requires c =
    let a = c.args in
    let u = c.words-first in record { e_in_bounds = c.requires.edition1_in_bounds; coins_len = ap length (rest_all u.result a.coins.now) ∙ others_long a.w.now a.coins.now c.requires.coins_len u.ensures.0 }

pub overflow_add-result : goal.overflow_add-result
unfolding edition_of sheet_of
overflow_add-result c =
    let a = c.args in
    let u = c.words-first in
    let h = sheet_of edition1 a.w.now in
    let t = c.coin_tests-outs in
    let e = t.ensures ∙ ap (λ (l : List ℕ). coin_domain_test h l then coin_equal_test h l) (rest_all u.result a.coins.now) in
    omega (arith, u.ensures.1, coins_few a.w.now a.coins.now c.requires.coins_len c.requires.edition1_in_bounds.0 c.requires.edition1_in_bounds.1, outs_place a.w.now a.coins.now c.requires.coins_len u.ensures.0 t.result e c.in-Refused.is)

pub returns-in-Refused : goal.returns-in-Refused
unfolding outcome_of edition_of sheet_of
returns-in-Refused c =
    λ count.
    let a = c.args in
    let u = c.words-first in
    let h = sheet_of edition1 a.w.now in
    let t = c.coin_tests-outs in
    let e = t.ensures ∙ ap (λ (l : List ℕ). coin_domain_test h l then coin_equal_test h l) (rest_all u.result a.coins.now) in
    outs_refused a.w.now a.coins.now c.requires.coins_len u.ensures.0 t.result e count c.in-Refused.is

pub returns : goal.returns
unfolding outcome_of edition_of sheet_of
returns c =
    λ count.
    let a = c.args in
    let u = c.words-first in
    let h = sheet_of edition1 a.w.now in
    let t = c.coin_tests-outs in
    let e = t.ensures ∙ ap (λ (l : List ℕ). coin_domain_test h l then coin_equal_test h l) (rest_all u.result a.coins.now) in
    outs_passed a.w.now a.coins.now c.requires.coins_len u.ensures.0 t.result e count c.in_default.is
