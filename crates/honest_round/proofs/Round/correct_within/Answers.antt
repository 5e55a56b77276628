use native.Mathlib.Omega.{arith}
use Prim.Native.Nat.{ℕ}
use mathlib.Core.Path.{sym, subst}
use lib.ListN.{get_or}
use Rattle.definition.specs.Field.{spelling_of}
use Rattle.definition.specs.Sheet.{sheet_of}
use Rattle.edition.specs.Meaning.{edition_of}
use Rattle.spelling.specs.Words.{elements_even}
use Rattle.honest_words.proofs.Words.{early}
use Rattle.honest_round.specs.Rounds.{CorrectedIn}
use Rattle.honest_round.proofs.Rounds.{coin_there, corrected_is}
use Rattle.honest_round.proofs.Round.correct_within.Goals as goal

pub coin-c-requires : goal.coin-c-requires
coin-c-requires c =
    let v = early {P = Unit {0}} (c.requires.invariant, tt) in record { in_bounds = (v.words, (v.outs, omega arith)); w_in_bounds = coin_there c.requires.invariant.0.place c.requires.round_coins_fit.0 0 (omega arith) }

pub corrected-requires : goal.corrected-requires
corrected-requires c =
    let a = c.args in
    let p = c.requires in
    let q = c.sample_points-from in
    let n = c.count-d.ensures in
    let same = elements_even (spelling_of (get_or a.self.now.w.now 0 0)) q.new.xs a.xs.now q.auto.xs in record { from_in_bounds = (omega (arith, same, q.ensures.upper_bound), omega (arith, same, q.ensures.upper_bound, n, p.next_len)); count_in_bounds = (omega (arith, n, p.round_coins_fit.1), (sym n, omega (arith, q.auto.xs, p.xs_len.1))) }

pub returns : goal.returns
returns c =
    let a = c.args in
    let p = c.sample_points-from in
    let n = c.count-d in
    let r = c.coin-c in
    let q = c.corrected in
    subst (λ (d : ℕ). CorrectedIn (sheet_of (edition_of a.self.now.e) a.self.now.w.now) a.self.now.level a.self.now.coins.now d a.g.now q.new.out) n.ensures
    (corrected_is c.requires.invariant.0.place c.requires.round_coins_fit.0 r.result r.ensures p.new.xs p.result p.ensures.points n.result a.g.now q.new.out q.ensures)
