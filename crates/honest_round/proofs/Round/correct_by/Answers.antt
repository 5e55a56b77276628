use native.Mathlib.Omega.{arith}
use mathlib.Core.Path.{◌∙◌}
use lib.ListN.{get_or}
use Rattle.definition.specs.Field.{spelling_of}
use Rattle.layouts.specs.Spellings.{count_most}
use Rattle.list_laws.specs.Zeros.{zeros, length_zeros}
use Rattle.spelling.specs.Words.{elements_many}
use Rattle.honest_round.proofs.Round.correct_by.Goals as goal

pub correct_within-requires : goal.correct_within-requires
correct_within-requires g c =
    let p = c.requires in
    let σ = spelling_of (get_or c.args.self.now.w.now 0 0) in record { invariant = p.invariant; next_len = p.next_len; round_coins_fit = p.round_coins_fit; xs_len = (elements_many σ 50 (zeros g.row.N) (length_zeros g.row.N ∙ p.places), omega (arith, length_zeros g.row.N, p.places, count_most σ 50)) }

pub whole_as_slice-correct_within : goal.whole_as_slice-correct_within
whole_as_slice-correct_within g c = omega (arith, c.requires.places, count_most (spelling_of (get_or c.args.self.now.w.now 0 0)) 50)
