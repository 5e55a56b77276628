use lib.ListN.{get_or}
use Rattle.layouts.specs.Levels.{rounds_of}
use Rattle.elements.specs.Meaning.{value_in}
use Prim.Native.Nat.{◌-◌}
use mathlib.Core.Path.{◌∙◌, ap, refl}
use native.Mathlib.Omega.{arith}
use Rattle.definition.specs.Field.{word_count}
use Rattle.definition.specs.Sheet.{sheet_of}
use Rattle.edition.specs.Meaning.{edition_of}
use Rattle.outcome.specs.Meaning.{outcome_of, verdict_of}
use Rattle.round_words.specs.Coins.{coin_at}
use Rattle.decide_rounds.proofs.Inside.{final_inside, round_inside, scale_small}
use Rattle.decide_rounds.proofs.Ready.{apart_ready, clash_ready, level_next, most_next, next_decided, next_ready, not_last, room_in}
use Rattle.decide_rounds.proofs.+decide_rest.Goals as goal

-- where rounds are left: the words of the next one are there
pub bounds-w-4 : goal.bounds-w-4
bounds-w-4 t c = omega (arith, c.requires.written.long)

pub overflow_cast-w : goal.overflow_cast-w
overflow_cast-w t c = omega (arith, c.type_inv.w 4)

pub decide_final-requires : goal.decide_final-requires
decide_final-requires t c =
    let a = c.args in
    let w = a.w.now in
    let v = c.requires.written in
    let ok = c.requires.invariant in
    let end = c.if-state-w.true ∙ v.rounds in record { invariant = ok; represented = c.requires.represented; level_value = (end, final_inside (sheet_of (edition_of a.e) w) w a.state ok.place end (edition_of a.e) v); reads_bound = c.requires.reads_bound.0 }

pub shape_of-ac-then-state-w : goal.shape_of-ac-then-state-w
shape_of-ac-then-state-w t c = refl

pub shape_of-vg-then-state-w : goal.shape_of-vg-then-state-w
shape_of-vg-then-state-w t c = refl

pub returns-then-state-w : goal.returns-then-state-w
returns-then-state-w t c = c.decide_final.ensures

pub next_state-next-requires : goal.next_state-next-requires
next_state-next-requires t c =
    let a = c.args in
    let S = sheet_of (edition_of a.e) a.w.now in
    let more = not_last a.state.level (rounds_of S) (get_or a.w.now 4 0) c.requires.written.rounds c.requires.invariant.place.level c.if-state-w.false in
    let inside = round_inside S a.w.now a.state c.requires.invariant.place more (edition_of a.e) c.requires.written in
    inside

pub reads_after_round-now-requires : goal.reads_after_round-now-requires
reads_after_round-now-requires t c =
    let a = c.args in
    let S = sheet_of (edition_of a.e) a.w.now in
    let more = not_last a.state.level (rounds_of S) (get_or a.w.now 4 0) c.requires.written.rounds c.requires.invariant.place.level c.if-state-w.false in
    let inside = round_inside S a.w.now a.state c.requires.invariant.place more (edition_of a.e) c.requires.written in
    let ok = c.requires.invariant in
    (inside, omega (arith, c.requires.reads_bound.0, ok.place.level, ok.place.sheet.rounds))

pub next_samples-g-requires : goal.next_samples-g-requires
next_samples-g-requires t c =
    let a = c.args in
    let S = sheet_of (edition_of a.e) a.w.now in
    let more = not_last a.state.level (rounds_of S) (get_or a.w.now 4 0) c.requires.written.rounds c.requires.invariant.place.level c.if-state-w.false in
    let inside = round_inside S a.w.now a.state c.requires.invariant.place more (edition_of a.e) c.requires.written in
    record { table_inside = c.requires.invariant.inside; round_inside = inside; px_len = c.requires.reads_bound.1; clear = c.requires.represented.clear }

pub shape_of-px-in_default : goal.shape_of-px-in_default
shape_of-px-in_default t c = c.next_samples-g.auto.px

pub shape_of-py-in_default : goal.shape_of-py-in_default
shape_of-py-in_default t c = c.next_samples-g.auto.py

pub shape_of-ac-in_default : goal.shape_of-ac-in_default
shape_of-ac-in_default t c = refl

pub shape_of-vg-in_default : goal.shape_of-vg-in_default
shape_of-vg-in_default t c = refl

pub returns-in_default : goal.returns-in_default
unfolding verdict_of outcome_of
returns-in_default t c =
    let a = c.args in
    let S = sheet_of (edition_of a.e) a.w.now in
    let more = not_last a.state.level (rounds_of S) (get_or a.w.now 4 0) c.requires.written.rounds c.requires.invariant.place.level c.if-state-w.false in
    let n = c.next_state-next in
    let p = c.reads_after_round-now in
    let q = c.next_samples-g in
    clash_ready (edition_of a.e) a.w.now a.pw.now a.ac.now a.vg.now a.state a.reads (value_in S.spelling a.r) a.oracle c.requires.invariant more n.result n.ensures q.result
    q.new.px q.new.py p.result p.ensures c.in_default.is q.ensures.next_samples

pub correction-words-requires : goal.correction-words-requires
correction-words-requires t c =
    let a = c.args in
    let S = sheet_of (edition_of a.e) a.w.now in
    let more = not_last a.state.level (rounds_of S) (get_or a.w.now 4 0) c.requires.written.rounds c.requires.invariant.place.level c.if-state-w.false in
    let inside = round_inside S a.w.now a.state c.requires.invariant.place more (edition_of a.e) c.requires.written in
    let q = c.next_samples-g in
    let lx = q.auto.px ∙ c.requires.reads_bound.1.0 in
    let ly = q.auto.py ∙ c.requires.reads_bound.1.1 in
    let n = c.next_state-next in record {
      round_inside = inside;
      from_bound = (room_in q.result c.in-Some.j c.in-Some.is q.ensures.room, (lx, ly));
      ac_len = (c.requires.invariant.inside.in_answers, c.requires.invariant.inside.in_factors);
      apart = apart_ready (edition_of a.e) a.w.now a.pw.now a.ac.now a.vg.now a.state a.reads (value_in S.spelling a.r) a.oracle c.requires.invariant more n.result n.ensures q.result
          q.new.px q.new.py lx ly c.in-Some.j c.in-Some.is q.ensures.next_samples c.requires.represented;
    }

pub bounds-w-0 : goal.bounds-w-0
bounds-w-0 t c = omega (arith, c.requires.written.long)

pub next_coin-requires : goal.next_coin-requires
next_coin-requires t c =
    let a = c.args in
    let S = sheet_of (edition_of a.e) a.w.now in
    let more = not_last a.state.level (rounds_of S) (get_or a.w.now 4 0) c.requires.written.rounds c.requires.invariant.place.level c.if-state-w.false in
    let inside = round_inside S a.w.now a.state c.requires.invariant.place more (edition_of a.e) c.requires.written in
    inside

pub at-requires : goal.at-requires
at-requires t c = omega (arith, c.next_coin.ensures.1, ap (λ σ. word_count σ 1) c.requires.written.spelling)

pub next_oracle-requires : goal.next_oracle-requires
next_oracle-requires t c =
    let a = c.args in
    let S = sheet_of (edition_of a.e) a.w.now in
    let more = not_last a.state.level (rounds_of S) (get_or a.w.now 4 0) c.requires.written.rounds c.requires.invariant.place.level c.if-state-w.false in
    let inside = round_inside S a.w.now a.state c.requires.invariant.place more (edition_of a.e) c.requires.written in
    let ok = c.requires.invariant in
    (inside, omega (arith, scale_small S a.w.now a.state ok.place a.oracle.scale ok.scale))

pub decide_rest-requires : goal.decide_rest-requires
decide_rest-requires t c =
    let a = c.args in
    let S = sheet_of (edition_of a.e) a.w.now in
    let more = not_last a.state.level (rounds_of S) (get_or a.w.now 4 0) c.requires.written.rounds c.requires.invariant.place.level c.if-state-w.false in
    let p = c.reads_after_round-now in
    let q = c.next_samples-g in
    let lx = q.auto.px ∙ c.requires.reads_bound.1.0 in
    let ly = q.auto.py ∙ c.requires.reads_bound.1.1 in
    let n = c.next_state-next in
    let k = c.correction-words in
    let la = k.auto.ac ∙ c.requires.invariant.inside.in_answers in
    let lv = k.auto.vg ∙ c.requires.invariant.inside.in_factors in
    let way = c.next_oracle in
    let ready = next_ready (edition_of a.e) a.w.now a.pw.now a.ac.now a.vg.now a.state a.reads (value_in S.spelling a.r) a.oracle c.requires.invariant more n.result n.ensures q.result
    q.new.px q.new.py lx ly c.in-Some.j c.in-Some.is q.ensures.next_samples c.requires.represented
    k.result way.result way.ensures k.new.ac k.new.vg la lv k.ensures.columned k.ensures.next_correcting in
    let most = most_next (edition_of a.e) a.w.now a.pw.now a.ac.now a.vg.now a.state a.reads (value_in S.spelling a.r) a.oracle c.requires.invariant more n.result n.ensures q.result p.result p.ensures c.requires.reads_bound.0 in
    (omega (arith, c.decreases, level_next S a.state n.result n.ensures, more, c.requires.invariant.place.sheet.rounds), (c.requires.written, (ready.0, (ready.1, (most, (lx, ly))))))

pub shape_of-px : goal.shape_of-px
shape_of-px t c = c.decide_rest.auto.px ∙ c.next_samples-g.auto.px

pub shape_of-py : goal.shape_of-py
shape_of-py t c = c.decide_rest.auto.py ∙ c.next_samples-g.auto.py

pub shape_of-ac : goal.shape_of-ac
shape_of-ac t c = c.decide_rest.auto.ac ∙ c.correction-words.auto.ac

pub shape_of-vg : goal.shape_of-vg
shape_of-vg t c = c.decide_rest.auto.vg ∙ c.correction-words.auto.vg

pub returns : goal.returns
returns t c =
    let a = c.args in
    let S = sheet_of (edition_of a.e) a.w.now in
    let more = not_last a.state.level (rounds_of S) (get_or a.w.now 4 0) c.requires.written.rounds c.requires.invariant.place.level c.if-state-w.false in
    let p = c.reads_after_round-now in
    let q = c.next_samples-g in
    let lx = q.auto.px ∙ c.requires.reads_bound.1.0 in
    let ly = q.auto.py ∙ c.requires.reads_bound.1.1 in
    let n = c.next_state-next in
    let k = c.correction-words in
    let la = k.auto.ac ∙ c.requires.invariant.inside.in_answers in
    let lv = k.auto.vg ∙ c.requires.invariant.inside.in_factors in
    let way = c.next_oracle in
    let v = c.at in
    next_decided (edition_of a.e) a.w.now a.pw.now a.ac.now a.vg.now a.state a.reads (value_in S.spelling a.r) a.oracle c.requires.invariant more n.result n.ensures q.result
    q.new.px q.new.py lx ly c.in-Some.j c.in-Some.is q.ensures.next_samples c.requires.represented
    k.result way.result way.ensures k.new.ac k.new.vg la lv k.ensures.columned k.ensures.next_correcting
    p.ensures (coin_at (edition_of a.e) a.w.now v.result c.next_coin.ensures.0 v.ensures) c.decide_rest.ensures
