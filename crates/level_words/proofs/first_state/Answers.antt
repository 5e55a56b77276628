use native.Mathlib.Omega.{arith}
use Rattle.level_words.proofs.Made.{first_place}
use Rattle.level_words.proofs.first_state.Goals as goal

pub overflow_cast-result : goal.overflow_cast-result
overflow_cast-result c = omega (arith, c.shared_slice_known-3-1.given 2)

pub returns : goal.returns
returns c = first_place _ _ _ c.requires.0.spelling c.sheet_words-from.ensures c.requires.0.size c.requires.0.degree c.words.ensures.0
