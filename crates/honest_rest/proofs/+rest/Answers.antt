use Prim.Native.Nat.{◌+◌, ◌-◌, ◌*◌}
use native.Mathlib.Nat.{div-le_self}
use native.Mathlib.Omega.{arith}
use mathlib.Core.Path.{◌∙◌, refl, subst, sym}
use lib.ListN.{length, take}
use lib.Seq.{length-take-le}
use Rattle.definition.specs.Field.{elements_in}
use Rattle.definition.specs.Sheet.{sheet_of}
use Rattle.list_laws.specs.Lists.{rest_all}
use Rattle.edition.specs.Meaning.{edition_of}
use Rattle.honest_words.specs.Sizes.{next_place, numbers, sizes}
use Rattle.honest_words.specs.Invariant.{CoinRunsFrom}
use Rattle.honest_rest.proofs.NextLevel.{last_level, not_last, to_next_level, words_end, words_join, words_last}
use Rattle.list_laws.specs.LentParts.{begun_long, filled_long, joined, others_long}
use Rattle.honest_rest.proofs.+rest.Goals as goal

pub bounds-w-4 : goal.bounds-w-4
bounds-w-4 t c = omega (arith, (numbers c.requires.invariant.0.place).twelve)

pub overflow_cast-w : goal.overflow_cast-w
overflow_cast-w t c =
    let v = numbers c.requires.invariant.0.place in
    omega (arith, v.rounds, v.most_rounds)

pub finals-requires : goal.finals-requires
finals-requires t c =
    let a = c.args in
    let st = c.requires.invariant.0 in
    let e = words_last st.place a.coins.now c.requires.invariant.1.0 c.requires.coin_runs_from.0 c.requires.coin_runs_from.1 (last_level st.place c.if-level-w.true) in record { in_bounds = ((numbers st.place).twelve, (omega (arith, c.requires.invariant.1.0, (sizes st).most), c.requires.invariant.1.1)); out_len = e }

pub overflow_add-next : goal.overflow_add-next
overflow_add-next t c =
    omega (arith, c.requires.invariant.0.place.level, (numbers c.requires.invariant.0.place).most_rounds)

pub fold_length-folded-requires : goal.fold_length-folded-requires
fold_length-folded-requires t c =
    let st = c.requires.invariant.0 in
    next_place st (not_last st.place c.if-level-w.false)

pub round_coins-used-requires : goal.round_coins-used-requires
round_coins-used-requires t c =
    let p = c.requires.invariant.0.place in
    let v = numbers p in
    (v.twelve, (omega (arith, p.level, v.most_rounds), (omega (arith, v.outs, v.most_outs), omega (arith, v.repetitions, v.most_repetitions))))

pub round_words-written-requires : goal.round_words-written-requires
round_words-written-requires t c =
    let a = c.args in
    let p = c.requires.invariant.0.place in
    let v = numbers p in
    let z = sizes c.requires.invariant.0 in record { in_bounds = (v.twelve, (omega (arith, p.level, v.most_rounds), (omega (arith, v.outs, v.most_outs), omega (arith, v.repetitions, v.most_repetitions)))); scale_nonzero = (z.scaled, (z.small, omega (arith, z.points_most, div-le_self (length a.pw.now) (2 * a.scale)))) }

pub slice_bounds-step-end : goal.slice_bounds-step-end
slice_bounds-step-end t c = ((
    let st = c.requires.invariant.0 in
    to_next_level st c.requires.invariant.1.0 c.requires.coin_runs_from.0 c.requires.coin_runs_from.1 (not_last st.place c.if-level-w.false)
    c.fold_length-folded.ensures c.round_coins-used.ensures c.round_words-written.ensures)).within

pub slice_bounds-step-end-else-level-w : goal.slice_bounds-step-end-else-level-w
slice_bounds-step-end-else-level-w t c = sym (length-take-le c.round_words-written.result c.args.out.now ((
    let st = c.requires.invariant.0 in
    to_next_level st c.requires.invariant.1.0 c.requires.coin_runs_from.0 c.requires.coin_runs_from.1 (not_last st.place c.if-level-w.false)
    c.fold_length-folded.ensures c.round_coins-used.ensures c.round_words-written.ensures)).within)

pub step-requires : goal.step-requires
step-requires t c =
    let o = (
    let st = c.requires.invariant.0 in
    to_next_level st c.requires.invariant.1.0 c.requires.coin_runs_from.0 c.requires.coin_runs_from.1 (not_last st.place c.if-level-w.false)
    c.fold_length-folded.ensures c.round_coins-used.ensures c.round_words-written.ensures) in record { invariant = (c.requires.invariant.0, o.more); d_value = (c.requires.invariant.1.0, o.degree); round_coins_fit = (o.round, c.requires.invariant.1.1); out_len = length-take-le c.round_words-written.result c.args.out.now o.within ∙ o.words }

pub overflow_mul-scale : goal.overflow_mul-scale
overflow_mul-scale t c =
    let z = sizes c.requires.invariant.0 in
    omega (arith, z.small)

pub offset_bounds-coins-used : goal.offset_bounds-coins-used
offset_bounds-coins-used t c = omega (
  arith,
  ((
      let st = c.requires.invariant.0 in
      to_next_level st c.requires.invariant.1.0 c.requires.coin_runs_from.0 c.requires.coin_runs_from.1 (not_last st.place c.if-level-w.false)
      c.fold_length-folded.ensures c.round_coins-used.ensures c.round_words-written.ensures)).few,
)

pub slice_bounds-rest-count : goal.slice_bounds-rest-count
slice_bounds-rest-count t c = ((
    let st = c.requires.invariant.0 in
    to_next_level st c.requires.invariant.1.0 c.requires.coin_runs_from.0 c.requires.coin_runs_from.1 (not_last st.place c.if-level-w.false)
    c.fold_length-folded.ensures c.round_coins-used.ensures c.round_words-written.ensures)).inside

pub slice_bounds-rest-start : goal.slice_bounds-rest-start
slice_bounds-rest-start t c = ((
    let st = c.requires.invariant.0 in
    to_next_level st c.requires.invariant.1.0 c.requires.coin_runs_from.0 c.requires.coin_runs_from.1 (not_last st.place c.if-level-w.false)
    c.fold_length-folded.ensures c.round_coins-used.ensures c.round_words-written.ensures)).inside

pub offset_bounds-out-written : goal.offset_bounds-out-written
offset_bounds-out-written t c = omega (
  arith,
  ((
      let st = c.requires.invariant.0 in
      to_next_level st c.requires.invariant.1.0 c.requires.coin_runs_from.0 c.requires.coin_runs_from.1 (not_last st.place c.if-level-w.false)
      c.fold_length-folded.ensures c.round_coins-used.ensures c.round_words-written.ensures)).short,
)

pub slice_bounds-rest-count-else-level-w : goal.slice_bounds-rest-count-else-level-w
slice_bounds-rest-count-else-level-w t c =
    let a = c.args in
    let o = (
    let st = c.requires.invariant.0 in
    to_next_level st c.requires.invariant.1.0 c.requires.coin_runs_from.0 c.requires.coin_runs_from.1 (not_last st.place c.if-level-w.false)
    c.fold_length-folded.ensures c.round_coins-used.ensures c.round_words-written.ensures) in
    let n = c.round_words-written.result in
    let q = c.step in
    omega (arith, o.within, begun_long a.out.now q.new.out n o.within q.auto.out)

pub slice_bounds-rest-start-else-level-w : goal.slice_bounds-rest-start-else-level-w
slice_bounds-rest-start-else-level-w t c =
    let a = c.args in
    let o = (
    let st = c.requires.invariant.0 in
    to_next_level st c.requires.invariant.1.0 c.requires.coin_runs_from.0 c.requires.coin_runs_from.1 (not_last st.place c.if-level-w.false)
    c.fold_length-folded.ensures c.round_coins-used.ensures c.round_words-written.ensures) in
    let n = c.round_words-written.result in
    let q = c.step in
    omega (arith, o.within, begun_long a.out.now q.new.out n o.within q.auto.out)

pub rest-requires : goal.rest-requires
rest-requires t c =
    let a = c.args in
    let o = (
    let st = c.requires.invariant.0 in
    to_next_level st c.requires.invariant.1.0 c.requires.coin_runs_from.0 c.requires.coin_runs_from.1 (not_last st.place c.if-level-w.false)
    c.fold_length-folded.ensures c.round_coins-used.ensures c.round_words-written.ensures) in
    let n = c.round_words-written.result in
    let q = c.step in
    let v = numbers c.requires.invariant.0.place in
    let l = rest_all c.round_coins-used.result a.coins.now in
    let g = q.auto.g in (
      omega (arith, c.decreases, o.more, v.most_rounds),
      (
        (o.next, (o.degree, omega (arith, o.fewer, g, c.requires.invariant.1.1))),
        (subst (CoinRunsFrom (sheet_of (edition_of a.e) a.w.now) (a.level + 1)) (sym l) o.runs, others_long a.out.now q.new.out n o.within q.auto.out ∙ o.left),
      ),
    )

pub returns-then-level-w : goal.returns-then-level-w
returns-then-level-w t c =
    let a = c.args in
    words_end (edition_of a.e) a.w.now a.level a.d a.g.now a.coins.now (last_level c.requires.invariant.0.place c.if-level-w.true) c.requires.invariant.1.1 c.finals.ensures

pub shape_of-out-else-level-w : goal.shape_of-out-else-level-w
shape_of-out-else-level-w t c =
    let a = c.args in
    let o = (
    let st = c.requires.invariant.0 in
    to_next_level st c.requires.invariant.1.0 c.requires.coin_runs_from.0 c.requires.coin_runs_from.1 (not_last st.place c.if-level-w.false)
    c.fold_length-folded.ensures c.round_coins-used.ensures c.round_words-written.ensures) in
    let n = c.round_words-written.result in
    let q = c.step in
    let v = c.rest in
    filled_long a.out.now q.new.out n o.within q.auto.out v.new.out v.auto.out

pub returns-else-level-w : goal.returns-else-level-w
returns-else-level-w t c =
    let a = c.args in
    let o = (
    let st = c.requires.invariant.0 in
    to_next_level st c.requires.invariant.1.0 c.requires.coin_runs_from.0 c.requires.coin_runs_from.1 (not_last st.place c.if-level-w.false)
    c.fold_length-folded.ensures c.round_coins-used.ensures c.round_words-written.ensures) in
    let n = c.round_words-written.result in
    let q = c.step in
    let v = c.rest in
    let u = c.round_coins-used in
    words_join (sheet_of (edition_of a.e) a.w.now) a.level (take a.d (elements_in (sheet_of (edition_of a.e) a.w.now).spelling a.g.now)) a.coins.now u.result o.more
    (joined a.out.now q.new.out n o.within q.auto.out v.new.out refl refl)
    q.ensures.out_after q.ensures.fold_after (rest_all u.result a.coins.now) o.coins_are v.ensures
