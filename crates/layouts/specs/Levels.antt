-- THE LEVELS OF A SHEET BY NUMBER, with the coins and the words of each round: 01's notions over a sheet h. It holds no lemma and no proof.
-- M is the number of rounds, s the number of out coins of a round; k_i, t_i, n_i and d_i belong to level i.
use Rattle.std.specs.Prelude.{ℕ, zero, suc, ◌+◌, ◌/◌, ◌^◌, length, get_or, take, drop}
use mathlib.Core.List.{List, [], ◌∷◌, tail}
use Rattle.definition.specs.Field.{Element, Field, Spelling, field_in, four, number_in, one, quads, word_count}
use Rattle.definition.specs.Layout.{later_count}
use Rattle.definition.specs.Lists.{product_of}
use Rattle.definition.specs.Sheet.{Edition, Level, Sheet, root_of_unity, sheet_length}

-- the sheet's field, and its ω
abbrev pub sheet_field : (h : Sheet) → Field (Element h.spelling)
sheet_field h = field_in h.spelling h.prime

abbrev pub sheet_root : (h : Sheet) → Element h.spelling
sheet_root h = number_in h.spelling (root_of_unity h)

-- its 0, which also stands for an entry that is not there
abbrev pub zero_of : (h : Sheet) → Element h.spelling
zero_of h = number_in h.spelling 0

-- the number of words of so many of its elements, and the element that begins at word i of a list
abbrev pub words_for : Sheet → ℕ → ℕ
words_for h n = word_count h.spelling n

unfoldable pub element_at : (σ : Spelling) → List ℕ → ℕ → Element σ
element_at one w i = get_or w i 0
element_at four w i = get_or (quads (drop i w)) 0 (number_in four 0)

-- M, the number of levels after level 0, and s
abbrev pub rounds_of : Sheet → ℕ
rounds_of h = length (tail h.folds)

abbrev pub out_coin_count : Sheet → ℕ
out_coin_count h = h.out_coins

-- d_i = d0 over the product of k_0 to k_(i-1)
abbrev pub degree_of : Sheet → ℕ → ℕ
degree_of h i = h.degree / product_of (take i h.folds)

-- level i: n_i = n0 / 2^i points, degree bound d_i, folding number k_i, and t_i repetitions
abbrev pub level_of : Sheet → ℕ → Level
level_of h i = record {
  number = i;
  size = h.size / 2 ^ i;
  degree = degree_of h i;
  fold = get_or h.folds i 0;
  repetitions = get_or h.repetitions i 0;
}

-- the sum of a list
unfoldable pub total : List ℕ → ℕ
total [] = 0
total (x ∷ xs) = x + total xs

-- THE COINS BY ROUND, in words. Round 0 has fold coin 0 alone; round i + 1 has s out coins, a combination coin, fold coin i + 1 and t_i shift indices.
unfoldable pub coin_count : Sheet → ℕ → ℕ
coin_count h zero = words_for h 1
coin_count h (suc i) = words_for h (out_coin_count h) + later_count h.spelling (level_of h i)

-- the number of coin words sent before table i; for i = M + 1 before the final coefficients
unfoldable pub coins_before : Sheet → ℕ → ℕ
coins_before h zero = 0
coins_before h (suc i) = coins_before h i + coin_count h i

-- THE WORDS BY ROUND. Round 0 has table 0 and its coin; round i + 1 has table, out coins, replies and the other coins.
unfoldable pub round_count : Sheet → ℕ → ℕ
round_count h zero = words_for h (level_of h 0).size + words_for h 1
round_count h (suc i) =
    words_for h (level_of h (suc i)).size + (words_for h (out_coin_count h) + (words_for h (out_coin_count h) + later_count h.spelling (level_of h i)))

-- the word number at which round i begins, which is that of table i; for i = M + 1 that of the final coefficients
unfoldable pub round_start : Edition → Sheet → ℕ → ℕ
round_start e h zero = sheet_length e
round_start e h (suc i) = round_start e h i + round_count h i
