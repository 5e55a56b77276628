use native.Mathlib.Omega.{arith}
use Prim.Native.Nat.{ℕ, ◌+◌, ◌*◌}
use mathlib.Core.Path.{◌∙◌, ap, sym}
use lib.ListN.{get_or}
use Rattle.definition.specs.Field.{spelling_of}
use Rattle.definition.specs.Sheet.{sheet_of}
use Rattle.edition.specs.Meaning.{edition_of}
use Rattle.list_laws.specs.LentParts.{begun_long, front_there}
use Rattle.spelling.specs.Words.{elements_many}
use Rattle.honest_words.proofs.Words.{early}
use Rattle.honest_words.specs.Sizes.{multiplied, next_place, numbers}
use Rattle.honest_words.specs.Invariant.{fold_of}
use Rattle.honest_round.proofs.Rounds.{coin_there, folded_next, held, part_fits, part_long, part_size, room}
use Rattle.honest_round.proofs.Round.next_fold.Goals as goal

-- `honest_round::next_fold` meets its contract. The fold stands at the front of g, for the correction, and then the next one. Assumes nothing.
pub overflow_mul-n : goal.overflow_mul-n
overflow_mul-n c =
    let a = c.args in
    let p = c.requires in
    let d = c.width-width in
    let W = get_or a.self.now.w.now 0 0 in
    omega (arith, d.ensures.0 a.d, p.round_coins_fit.1.0)

pub overflow_mul-m : goal.overflow_mul-m
overflow_mul-m c =
    let a = c.args in
    let p = c.requires in
    let d = c.width-width in
    let W = get_or a.self.now.w.now 0 0 in
    omega (arith, d.ensures.0 a.folded, room p.invariant.0 p.invariant.1 p.d_value.0 p.d_value.1 p.round_coins_fit.1.0)

pub slice_bounds-correct-end : goal.slice_bounds-correct-end
slice_bounds-correct-end c =
    let a = c.args in
    let p = c.requires in
    let d = c.width-width in
    let W = get_or a.self.now.w.now 0 0 in
    part_fits W d.result a.d d.ensures a.next.now p.round_coins_fit.1.1

pub slice_bounds-correct-end-2 : goal.slice_bounds-correct-end-2
slice_bounds-correct-end-2 c =
    let a = c.args in
    let p = c.requires in
    let d = c.width-width in
    let W = get_or a.self.now.w.now 0 0 in
    sym (part_long W d.result a.d d.ensures a.next.now p.round_coins_fit.1.1)

pub correct-requires : goal.correct-requires
correct-requires c =
    let a = c.args in
    let p = c.requires in
    let d = c.width-width in
    let W = get_or a.self.now.w.now 0 0 in
    let n = part_size W d.result a.d d.ensures a.next.now p.round_coins_fit.1.1 in record { invariant = p.invariant; next_len = n ∙ p.d_value.0; round_coins_fit = (p.round_coins_fit.0, omega (arith, n, held (spelling_of W) a.d a.g.now p.round_coins_fit.1.0)) }

pub coin-r-requires : goal.coin-r-requires
coin-r-requires c =
    let p = c.requires in
    let v = early {P = Unit {0}} (p.invariant, tt) in record { in_bounds = (v.words, (v.outs, omega arith)); w_in_bounds = coin_there p.invariant.0.place p.round_coins_fit.0 1 (omega arith) }

pub overflow_add-self : goal.overflow_add-self
overflow_add-self c =
    let p = c.requires in
    omega (arith, p.invariant.1, (numbers p.invariant.0.place).most_rounds)

pub slice_bounds-fold-end : goal.slice_bounds-fold-end
slice_bounds-fold-end c =
    let a = c.args in
    let p = c.requires in
    let d = c.width-width in
    let W = get_or a.self.now.w.now 0 0 in
    let q = c.correct in
    omega (arith, part_fits W d.result a.d d.ensures a.next.now p.round_coins_fit.1.1, begun_long a.next.now q.new.next (d.result * a.d) (part_fits W d.result a.d d.ensures a.next.now p.round_coins_fit.1.1) q.auto.next)

pub slice_bounds-fold-end-2 : goal.slice_bounds-fold-end-2
slice_bounds-fold-end-2 c =
    let a = c.args in
    let p = c.requires in
    let d = c.width-width in
    let W = get_or a.self.now.w.now 0 0 in
    let q = c.correct in
    sym (front_there a.next.now q.new.next (d.result * a.d) (part_fits W d.result a.d d.ensures a.next.now p.round_coins_fit.1.1) q.auto.next)

pub slice_bounds-fold-end-3 : goal.slice_bounds-fold-end-3
slice_bounds-fold-end-3 c =
    let a = c.args in
    let p = c.requires in
    let d = c.width-width in
    let W = get_or a.self.now.w.now 0 0 in
    let q = c.correct in
    omega (arith, d.ensures.0 a.folded, room p.invariant.0 p.invariant.1 p.d_value.0 p.d_value.1 p.round_coins_fit.1.0, q.auto.g)

pub slice_bounds-fold-end-4 : goal.slice_bounds-fold-end-4
slice_bounds-fold-end-4 c =
    let a = c.args in
    let p = c.requires in
    let d = c.width-width in
    let W = get_or a.self.now.w.now 0 0 in
    let q = c.correct in
    sym (part_long W d.result a.folded d.ensures q.new.g (omega (arith, room p.invariant.0 p.invariant.1 p.d_value.0 p.d_value.1 p.round_coins_fit.1.0, q.auto.g)))

pub fold-requires : goal.fold-requires
fold-requires c =
    let a = c.args in
    let p = c.requires in
    let d = c.width-width in
    let W = get_or a.self.now.w.now 0 0 in
    let q = c.correct in
    let at = next_place p.invariant.0 p.invariant.1 in
    let n = elements_many (spelling_of W) a.d _ (front_there a.next.now q.new.next (d.result * a.d) (part_fits W d.result a.d d.ensures a.next.now p.round_coins_fit.1.1) q.auto.next ∙ d.ensures.0 a.d) in
    let m = part_size W d.result a.folded d.ensures q.new.g (omega (arith, room p.invariant.0 p.invariant.1 p.d_value.0 p.d_value.1 p.round_coins_fit.1.0, q.auto.g)) in
    (at, n ∙ p.d_value.0 ∙ multiplied at ∙ ap (λ (j : ℕ). fold_of (sheet_of (edition_of a.self.now.e) a.self.now.w.now) (a.self.now.level + 1) * j) (sym (m ∙ p.d_value.1)))

pub returns : goal.returns
returns c =
    let a = c.args in
    let p = c.requires in
    let d = c.width-width in
    let W = get_or a.self.now.w.now 0 0 in
    let q = c.correct in
    let r = c.coin-r in
    let v = c.fold in
    folded_next (edition_of a.self.now.e) a.self.now.w.now a.self.now.level a.d a.folded d.result a.self.now.coins.now a.g.now q.new.g a.next.now q.new.next v.new.out r.result p.invariant.0.place d.ensures
    p.round_coins_fit.1.1 q.auto.next q.ensures r.ensures (omega (arith, room p.invariant.0 p.invariant.1 p.d_value.0 p.d_value.1 p.round_coins_fit.1.0, q.auto.g)) v.auto.out v.ensures
