use Prim.Native.Nat.{ℕ, ◌+◌}
use native.Mathlib.Omega.{arith}
use mathlib.Core.Path.{ap}
use lib.ListN.{get_or}
use Rattle.out_coins.specs.Kinds.{round_word_count}
use Rattle.out_coins.proofs.Rounds.{in_words, messages_most}
use Rattle.out_coins.proofs.after_round.Goals as goal

pub overflow_cast-s : goal.overflow_cast-s
overflow_cast-s c = omega (arith, c.shared_slice_known-2-1.given 5)

pub overflow_add-s : goal.overflow_add-s
overflow_add-s c =
    let a = c.args in omega (arith, c.shared_slice_known-2-1.given 5, c.messages.ensures, messages_most a.alone (get_or a.w.now 5 0))

pub overflow_add-s-2 : goal.overflow_add-s-2
overflow_add-s-2 c =
    let a = c.args in omega (arith, c.shared_slice_known-2-1.given 5, c.messages.ensures, messages_most a.alone (get_or a.w.now 5 0))

pub words-requires : goal.words-requires
words-requires c =
    let a = c.args in omega (arith, c.shared_slice_known-2-1.given 5, c.messages.ensures, messages_most a.alone (get_or a.w.now 5 0))

pub overflow_cast-result : goal.overflow_cast-result
overflow_cast-result c = omega (arith, c.shared_slice_known-4-1.given (6 + c.args.i))

pub overflow_add-result-2 : goal.overflow_add-result-2
unfolding round_word_count
overflow_add-result-2 c =
    let a = c.args in omega (arith, c.requires.i_bound, in_words _ c.words.ensures.0 (ap (λ (m : ℕ). get_or a.w.now 5 0 + m + 2) c.messages.ensures))

pub overflow_add-result-3 : goal.overflow_add-result-3
unfolding round_word_count
overflow_add-result-3 c =
    let a = c.args in omega (arith, c.requires.i_bound, in_words _ c.words.ensures.0 (ap (λ (m : ℕ). get_or a.w.now 5 0 + m + 2) c.messages.ensures))

pub returns : goal.returns
unfolding round_word_count
returns c =
    let a = c.args in ap (λ (v : ℕ). a.outs + (v + get_or a.w.now (6 + a.i) 0)) (in_words _ c.words.ensures.0 (ap (λ (m : ℕ). get_or a.w.now 5 0 + m + 2) c.messages.ensures))
