use native.Mathlib.Omega.{arith}
use mathlib.Core.Path.{refl}
use Rattle.layouts.specs.SheetRules.{long_enough}
use Rattle.edition.specs.Meaning.{edition_of}
use Rattle.outcome.specs.Answers.{at_place, nowhere}
use Rattle.outcome.specs.Meaning.{outcome_of, place_of}
use Rattle.out_coins.proofs.Rounds.{asked, begin, ended, ended_at, ended_nowhere, few_messages, few_rounds, found, found_first, in_words, outs_first, round_there, small_scale, some_scale, turned, twelve}
use Rattle.out_coins.proofs.after_fold.Goals as goal

pub bounds-w-0 : goal.bounds-w-0
bounds-w-0 c = omega (arith, long_enough (edition_of c.args.e) c.args.w.now c.requires.e_in_bounds.0)

pub bounds-w-4 : goal.bounds-w-4
bounds-w-4 c = omega (arith, long_enough (edition_of c.args.e) c.args.w.now c.requires.e_in_bounds.0)

pub overflow_cast-rounds : goal.overflow_cast-rounds
overflow_cast-rounds c = omega (arith, c.shared_slice_known-5-1.given 4)

pub bounds-w-5 : goal.bounds-w-5
bounds-w-5 c = omega (arith, long_enough (edition_of c.args.e) c.args.w.now c.requires.e_in_bounds.0)

pub overflow_cast-s : goal.overflow_cast-s
overflow_cast-s c = omega (arith, c.shared_slice_known-6-1.given 5)

pub loop-i-init : goal.loop-i-init
unfolding place_of
loop-i-init c = λ ed A. begin A

pub overflow_mul-scale : goal.overflow_mul-scale
overflow_mul-scale c =
    let A = asked c.requires.e_in_bounds c.requires.w_in_bounds in
    let r = c.loop-i.invariant _ A in
    omega (arith, small_scale A r c.loop-i-test.true)

pub nonzero_div-pw : goal.nonzero_div-pw
nonzero_div-pw c =
    let A = asked c.requires.e_in_bounds c.requires.w_in_bounds in
    let r = c.loop-i.invariant _ A in
    some_scale A r c.loop-i-test.true

pub words-requires : goal.words-requires
words-requires c =
    let A = asked c.requires.e_in_bounds c.requires.w_in_bounds in
    let r = c.loop-i.invariant _ A in
    omega (arith, few_messages A r c.loop-i-test.true c.requires.powers.1, c.messages.ensures)

pub overflow_add-outs : goal.overflow_add-outs
overflow_add-outs c =
    let A = asked c.requires.e_in_bounds c.requires.w_in_bounds in
    let r = c.loop-i.invariant _ A in
    omega (arith, round_there A r c.loop-i-test.true c.requires.powers.1, in_words _ c.words.ensures.0 c.messages.ensures)

pub first_inside-inside-requires : goal.first_inside-inside-requires
first_inside-inside-requires c =
    let A = asked c.requires.e_in_bounds c.requires.w_in_bounds in
    let r = c.loop-i.invariant _ A in
    (some_scale A r c.loop-i-test.true, omega (arith, round_there A r c.loop-i-test.true c.requires.powers.1, in_words _ c.words.ensures.0 c.messages.ensures, outs_first c.args.alone c.args.w.now c.loop-i.i))

pub returns-in-Some : goal.returns-in-Some
unfolding outcome_of place_of
returns-in-Some c =
    let A = asked c.requires.e_in_bounds c.requires.w_in_bounds in
    let r = c.loop-i.invariant _ A in
    found A r c.loop-i-test.true c.requires.powers.1 c.args.pw.now refl (edition_of c.args.e) c.requires.powers.0 (in_words _ c.words.ensures.0 c.messages.ensures) c.first_inside-inside.ensures
    (at_place refl c.in-Some.is)

pub second_equal-requires : goal.second_equal-requires
second_equal-requires c =
    let A = asked c.requires.e_in_bounds c.requires.w_in_bounds in
    let r = c.loop-i.invariant _ A in
    omega (arith, round_there A r c.loop-i-test.true c.requires.powers.1, in_words _ c.words.ensures.0 c.messages.ensures, outs_first c.args.alone c.args.w.now c.loop-i.i)

pub after_round-at-requires : goal.after_round-at-requires
after_round-at-requires c =
    let A = asked c.requires.e_in_bounds c.requires.w_in_bounds in
    let r = c.loop-i.invariant _ A in record { in_bounds = (twelve A, omega (arith, few_rounds A, c.loop-i-test.true)); i_bound = omega (arith, round_there A r c.loop-i-test.true c.requires.powers.1, in_words _ c.words.ensures.0 c.messages.ensures) }

pub loop-i-preserved : goal.loop-i-preserved
unfolding place_of
loop-i-preserved c =
    λ ed A.
    turned A (c.loop-i.invariant ed A) c.loop-i-test.true c.requires.powers.1 c.args.pw.now refl (edition_of c.args.e) c.requires.powers.0 (in_words _ c.words.ensures.0 c.messages.ensures)
    c.first_inside-inside.ensures (nowhere refl c.in_default.is) (found_first _ _ c.or-equal.ensures) c.second_equal.ensures c.after_round-at.ensures

pub returns-in-Some-equal : goal.returns-in-Some-equal
unfolding outcome_of
returns-in-Some-equal c =
    let A = asked c.requires.e_in_bounds c.requires.w_in_bounds in
    ended_at c.in-Some-equal.is (ended A (c.loop-i.invariant _ A) c.loop-i-test.false)

pub returns : goal.returns
unfolding outcome_of
returns c =
    let A = asked c.requires.e_in_bounds c.requires.w_in_bounds in
    ended_nowhere c.in_default-equal.is (ended A (c.loop-i.invariant _ A) c.loop-i-test.false)
