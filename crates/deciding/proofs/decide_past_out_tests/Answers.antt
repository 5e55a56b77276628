use native.Mathlib.Omega.{arith}
use mathlib.Core.Path.{ap}
use Rattle.definition.specs.Field.{word_count}
use Rattle.edition.specs.Meaning.{edition_of}
use Rattle.round_words.specs.Coins.{coin_at}
use Rattle.deciding.proofs.Ready.{coin_place, coin_there, first_decided, first_ready, sheet_shaped, sheet_written}
use Rattle.deciding.proofs.decide_past_out_tests.Goals as goal

pub bounds-w-0 : goal.bounds-w-0
bounds-w-0 c = let s = c.requires in let a = c.args in omega (arith, (sheet_written (edition_of a.e) a.w.now s.w_value.0 s.w_in_bounds).long)

pub bounds-w-1 : goal.bounds-w-1
bounds-w-1 c = let s = c.requires in let a = c.args in omega (arith, (sheet_written (edition_of a.e) a.w.now s.w_value.0 s.w_in_bounds).long)

pub overflow_add-at : goal.overflow_add-at
overflow_add-at c =
    let p = c.requires in
    let a = c.args in
    omega (arith, coin_there (edition_of a.e) a.w.now p.w_value.0 p.w_in_bounds, coin_place (edition_of a.e) a.w.now p.w_value.0 p.w_in_bounds c.sheet_words.ensures c.words.ensures.0)

pub first_state-requires : goal.first_state-requires
first_state-requires c =
    let p = c.requires in
    let a = c.args in
    (sheet_written (edition_of a.e) a.w.now p.w_value.0 p.w_in_bounds, (sheet_shaped (edition_of a.e) a.w.now p.w_value.0 p.w_in_bounds).law.small)

pub bounds-w-0-2 : goal.bounds-w-0-2
bounds-w-0-2 c = let s = c.requires in let a = c.args in omega (arith, (sheet_written (edition_of a.e) a.w.now s.w_value.0 s.w_in_bounds).long)

pub at-requires : goal.at-requires
at-requires c =
    let p = c.requires in
    let a = c.args in
    omega (
      arith,
      coin_there (edition_of a.e) a.w.now p.w_value.0 p.w_in_bounds,
      coin_place (edition_of a.e) a.w.now p.w_value.0 p.w_in_bounds c.sheet_words.ensures c.words.ensures.0,
      ap (λ σ. word_count σ 1) (sheet_written (edition_of a.e) a.w.now p.w_value.0 p.w_in_bounds).spelling,
    )

pub first_oracle-requires : goal.first_oracle-requires
first_oracle-requires c =
    let p = c.requires in
    let a = c.args in
    let x = sheet_shaped (edition_of a.e) a.w.now p.w_value.0 p.w_in_bounds in
    (sheet_written (edition_of a.e) a.w.now p.w_value.0 p.w_in_bounds, (x.law.small, omega (arith, (x.folds 0 (omega arith)).large)))

pub decide_rest-requires : goal.decide_rest-requires
decide_rest-requires c =
    let p = c.requires in
    let a = c.args in
    let st = c.first_state in
    let oracle = c.first_oracle in
    let lent = p.px_len in
    let ready = first_ready (edition_of a.e) a.w.now p.w_value.0 p.w_in_bounds a.pw.now a.ac.now a.vg.now p.w_value.1 p.powers.0 p.powers.1 p.w_value_2
    st.result st.ensures oracle.result oracle.ensures lent.1.1.0 lent.1.1.1 in record { written = sheet_written (edition_of a.e) a.w.now p.w_value.0 p.w_in_bounds; invariant = ready.0; represented = ready.1; reads_bound = (omega arith, (lent.0, lent.1.0)) }

pub returns : goal.returns
returns c =
    let p = c.requires in
    let a = c.args in
    let st = c.first_state in
    let oracle = c.first_oracle in
    let v = c.at in
    first_decided (edition_of a.e) a.w.now p.w_value.0 p.w_in_bounds a.pw.now a.ac.now a.vg.now p.w_value.1 p.powers.0 p.powers.1 p.w_value_2
    st.result st.ensures oracle.result oracle.ensures
    (coin_at (edition_of a.e) a.w.now v.result (coin_place (edition_of a.e) a.w.now p.w_value.0 p.w_in_bounds c.sheet_words.ensures c.words.ensures.0) v.ensures) c.decide_rest.ensures
