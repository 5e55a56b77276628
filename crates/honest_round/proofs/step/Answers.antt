use native.Mathlib.Omega.{arith}
use mathlib.Core.Path.{◌∙◌, sym}
use lib.ListN.{get_or}
use Rattle.edition.specs.Meaning.{edition_of}
use Rattle.list_laws.specs.Zeros.{length_zeros}
use Rattle.honest_words.proofs.Words.{early}
use Rattle.honest_round.proofs.Rounds.{next_words, part_fits, part_long, part_size, round_of}
use Rattle.honest_round.proofs.step.Goals as goal

-- `honest_round::step` meets its contract. The places are enough. Assumes nothing.
pub overflow_mul-n : goal.overflow_mul-n
overflow_mul-n c =
    let a = c.args in
    let p = c.requires in
    let d = c.width-width in
    let W = get_or a.w.now 0 0 in
    omega (arith, d.ensures.0 a.d, p.round_coins_fit.1)

pub slice_bounds-round-end : goal.slice_bounds-round-end
slice_bounds-round-end c =
    let a = c.args in
    let p = c.requires in
    let d = c.width-width in
    let W = get_or a.w.now 0 0 in
    part_fits W d.result a.d d.ensures a.g.now p.round_coins_fit.1

pub slice_bounds-round-end-2 : goal.slice_bounds-round-end-2
slice_bounds-round-end-2 c =
    let a = c.args in
    let p = c.requires in
    let d = c.width-width in
    let W = get_or a.w.now 0 0 in
    sym (part_long W d.result a.d d.ensures a.g.now p.round_coins_fit.1)

pub round-requires : goal.round-requires
round-requires c =
    let a = c.args in
    let p = c.requires in
    let d = c.width-width in
    let W = get_or a.w.now 0 0 in record { invariant = p.invariant; g_len = part_size W d.result a.d d.ensures a.g.now p.round_coins_fit.1 ∙ p.d_value.0; round_coins_fit = (p.round_coins_fit.0, p.out_len) }

pub next_fold-requires : goal.next_fold-requires
next_fold-requires c =
    let a = c.args in
    let p = c.requires in
    let d = c.width-width in
    let W = get_or a.w.now 0 0 in record { invariant = p.invariant; d_value = p.d_value; round_coins_fit = (p.round_coins_fit.0, (p.round_coins_fit.1, omega (arith, length_zeros 64, d.ensures.0 a.d, c.if-n-le-FEW_FOLD.true))) }

pub next_fold-requires-else-n-le-FEW_FOLD : goal.next_fold-requires-else-n-le-FEW_FOLD
next_fold-requires-else-n-le-FEW_FOLD c =
    let a = c.args in
    let p = c.requires in
    let d = c.width-width in
    let W = get_or a.w.now 0 0 in record { invariant = p.invariant; d_value = p.d_value; round_coins_fit = (p.round_coins_fit.0, (p.round_coins_fit.1, omega (arith, length_zeros 1024, next_words p.invariant.0 p.d_value.0))) }

pub returns-then-n-le-FEW_FOLD : goal.returns-then-n-le-FEW_FOLD
returns-then-n-le-FEW_FOLD c =
    let a = c.args in
    let p = c.requires in
    let d = c.width-width in
    let W = get_or a.w.now 0 0 in
    let q = c.round in record { out_after = round_of (edition_of a.e) a.w.now a.level a.d d.result a.coins.now a.g.now q.new.out d.ensures p.round_coins_fit.1 q.ensures; fold_after = c.next_fold.ensures }

pub returns-else-n-le-FEW_FOLD : goal.returns-else-n-le-FEW_FOLD
returns-else-n-le-FEW_FOLD c =
    let a = c.args in
    let p = c.requires in
    let d = c.width-width in
    let W = get_or a.w.now 0 0 in
    let q = c.round in record { out_after = round_of (edition_of a.e) a.w.now a.level a.d d.result a.coins.now a.g.now q.new.out d.ensures p.round_coins_fit.1 q.ensures; fold_after = c.next_fold-else-n-le-FEW_FOLD.ensures }
