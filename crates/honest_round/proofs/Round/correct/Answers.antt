use native.Mathlib.Omega.{arith}
use lib.ListN.{get_or}
use Rattle.honest_words.proofs.Words.{early}
use Rattle.honest_round.proofs.Rounds.{four_points, one_points}
use Rattle.honest_round.proofs.Round.correct.Goals as goal

-- `honest_round::correct` meets its contract. Assumes nothing.
pub correct_by-requires : goal.correct_by-requires
correct_by-requires c =
    let p = c.requires in record { invariant = p.invariant; next_len = p.next_len; round_coins_fit = p.round_coins_fit; places = four_points (get_or c.args.self.now.w.now 0 0) (omega arith) }

pub correct_by-requires-else-self-eq3 : goal.correct_by-requires-else-self-eq3
correct_by-requires-else-self-eq3 c =
    let p = c.requires in record { invariant = p.invariant; next_len = p.next_len; round_coins_fit = p.round_coins_fit; places = one_points (get_or c.args.self.now.w.now 0 0) (omega arith) }
