-- WHAT FOLLOWS THE FOLD COIN OF LEVEL i: the kinds of the words after it, and of the coins among them: those of the next round and of what comes after it, or at
-- level M the final coefficients and indices. It holds no lemma and no proof.
use Rattle.std.specs.Prelude.{ℕ, suc, ◌+◌, ◌-◌, Bool, true, false, List, [], ◌∷◌, ◌++◌, map, take, drop, replicate}
use Rattle.definition.specs.Field.{Spelling, word_count}
use Rattle.definition.specs.Layout.{Kind, coin, coin_kinds, index, later_count, out_layout, rest_layout}
use Rattle.definition.specs.Lists.{range}
use Rattle.definition.specs.Sheet.{Level, Sheet, shift_count}
use Rattle.layouts.specs.EachWord.{Each}
use Rattle.layouts.specs.Levels.{level_of, out_coin_count, rounds_of}

-- all kinds, or those of the coins alone
unfoldable pub chosen : Bool → List Kind → List Kind
chosen false ks = ks
chosen true ks = coin_kinds ks

abbrev pub words_after : Sheet → ℕ → List Kind
words_after h i = rest_layout h.spelling (out_coin_count h) (level_of h i) (map (level_of h) (range (suc i) (rounds_of h - i)))

abbrev pub kinds_after : Sheet → ℕ → List Kind
kinds_after h i = coin_kinds (words_after h i)

-- the later coins of a round after level b: combination coin, fold coin and shift indices
abbrev pub later_layout : Spelling → Level → List Kind
later_layout σ b = replicate (word_count σ 2) coin ++ replicate b.repetitions (index (shift_count b))

-- the out coins of round i + 1, and its other coins: combination coin, fold coin, shift indices
abbrev pub out_kinds : Sheet → ℕ → List Kind
out_kinds h i = out_layout h.spelling (out_coin_count h) (level_of h (i + 1))

abbrev pub later_kinds : Sheet → ℕ → List Kind
later_kinds h i = later_layout h.spelling (level_of h i)

-- the coins of the rounds after level b, each run with its kinds
abbrev pub CoinRuns : {A : Type 0} → (Kind → A → Type 0) → Spelling → ℕ → Level → List Level → List A → Type 0
CoinRuns R σ s b [] w = Each R (replicate b.repetitions (index (shift_count b))) w
CoinRuns R σ s b (l ∷ ls) w =
    Each R (out_layout σ s l) (take (word_count σ s) w)
    × Each R (later_layout σ b) (take (later_count σ b) (drop (word_count σ s) w))
    × CoinRuns R σ s l ls (drop (later_count σ b) (drop (word_count σ s) w))
