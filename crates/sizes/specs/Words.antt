-- The number of words of a round.
use Rattle.std.specs.Prelude.{ℕ, ◌+◌}
use Rattle.definition.specs.Field.{Spelling, word_count}

-- The words of a round whose table has n entries, after a level with t repetitions: table, out coins, replies, combination coin, fold coin, shift indices.
unfoldable pub round_word_count : Spelling → ℕ → ℕ → ℕ → ℕ
round_word_count σ n s t = word_count σ n + (word_count σ s + (word_count σ s + (word_count σ 2 + t)))
