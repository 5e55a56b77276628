-- Where deciding stands: the level, the levels after it, the words still to come and the next place. The sheet h says how many of each there are.
use Rattle.std.specs.Prelude.{ℕ, ◌+◌, ◌*◌, ◌/◌, List, eqb, length, get_or, take, drop}
use Rattle.definition.specs.Field.{Element, elements_in}
use Rattle.definition.specs.Layout.{read_rest}
use Rattle.definition.specs.Lists.{different}
use Rattle.definition.specs.Sheet.{Level, Sheet, levels_from}
use Rattle.definition.specs.Transcript.{Round, Rest}
use Rattle.layouts.specs.Levels.{element_at, words_for}
use Rattle.fractions.specs.declared.Oracle.{Oracle}
use Rattle.level_words.specs.declared.State.{State}

-- the level's folding number and repetitions
abbrev pub current_fold : Sheet → State → ℕ
current_fold h st = get_or h.folds st.level 0

abbrev pub current_repetitions : Sheet → State → ℕ
current_repetitions h st = get_or h.repetitions st.level 0

-- the size of the next table, the next degree bound, which is the number of final coefficients at level M, and the next folding number
abbrev pub next_size : State → ℕ
next_size st = st.size / 2

abbrev pub next_degree : Sheet → State → ℕ
next_degree h st = st.degree / current_fold h st

abbrev pub next_fold : Sheet → State → ℕ
next_fold h st = get_or h.folds (st.level + 1) 0

-- at which word the parts of the next round begin: the table stands first, then the out coins, the replies, two coins and the shift indices
abbrev pub outs_at : Sheet → State → ℕ
outs_at h st = st.at + words_for h (next_size st)

abbrev pub replies_at : Sheet → State → ℕ
replies_at h st = outs_at h st + words_for h h.out_coins

abbrev pub coins_at : Sheet → State → ℕ
coins_at h st = replies_at h st + words_for h h.out_coins

abbrev pub fold_coin_at : Sheet → State → ℕ
fold_coin_at h st = coins_at h st + words_for h 1

abbrev pub shifts_at : Sheet → State → ℕ
shifts_at h st = coins_at h st + words_for h 2

unfoldable pub current_level : Sheet → State → Level
current_level h st = record { number = st.level; size = st.size; degree = st.degree; fold = current_fold h st; repetitions = current_repetitions h st }

-- the levels after it
unfoldable pub later_levels_at : Sheet → State → List Level
later_levels_at h st = levels_from (st.level + 1) (next_size st) (next_degree h st) (drop (st.level + 1) h.folds) (drop (st.level + 1) h.repetitions)

-- the next place: at the level of the next round, after its fold coin
unfoldable pub next_state : Sheet → State → State
next_state h st = record {
  level = st.level + 1;
  size = next_size st;
  degree = next_degree h st;
  table = st.at;
  at = shifts_at h st + current_repetitions h st;
}

-- how the next level's function is worked out, where this level's has the scale, with so many words of coefficients
unfoldable pub next_oracle : Sheet → State → ℕ → ℕ → Oracle
next_oracle h st scale words = record { scale = 2 * scale; step = next_size st / next_fold h st; words = words }

-- the first place, where the words after the sheet begin at a number: at level 0, after fold coin 0
abbrev pub after_fold : ℕ → Sheet → ℕ
after_fold from h = from + words_for h h.size + words_for h 1

unfoldable pub first_state : ℕ → Sheet → State
first_state from h = record {
  level = 0;
  size = h.size;
  degree = h.degree;
  table = from;
  at = after_fold from h;
}

-- how table 0 is read: with no samples and so no coefficients
unfoldable pub first_oracle : Sheet → Oracle
first_oracle h = record { scale = 1; step = h.size / get_or h.folds 0 0; words = 0 }

-- the words of the level's table
unfoldable pub current_table : Sheet → List ℕ → State → List ℕ
current_table h w st = take (words_for h st.size) (drop st.table w)

-- the words of the parts of the next round, and its two coins
unfoldable pub next_outs : Sheet → List ℕ → State → List ℕ
next_outs h w st = take (words_for h h.out_coins) (drop (outs_at h st) w)

unfoldable pub next_replies : Sheet → List ℕ → State → List ℕ
next_replies h w st = take (words_for h h.out_coins) (drop (replies_at h st) w)

unfoldable pub next_shifts : Sheet → List ℕ → State → List ℕ
next_shifts h w st = take (current_repetitions h st) (drop (shifts_at h st) w)

abbrev pub next_combination : (h : Sheet) → List ℕ → State → Element h.spelling
next_combination h w st = element_at h.spelling w (coins_at h st)

abbrev pub next_fold_coin : (h : Sheet) → List ℕ → State → Element h.spelling
next_fold_coin h w st = element_at h.spelling w (fold_coin_at h st)

unfoldable pub next_round : (h : Sheet) → List ℕ → State → Round (Element h.spelling)
next_round h w st = record {
  table = elements_in h.spelling (current_table h w (next_state h st));
  coins = record {
    level = current_level h (next_state h st);
    outs = elements_in h.spelling (next_outs h w st);
    combination = next_combination h w st;
    fold = next_fold_coin h w st;
    shifts = next_shifts h w st;
  };
  replies = elements_in h.spelling (next_replies h w st);
}

-- the words of the final coefficients, and the final indices
unfoldable pub coefficients_of : Sheet → List ℕ → State → List ℕ
coefficients_of h w st = take (words_for h (next_degree h st)) (drop st.at w)

unfoldable pub finals_of : Sheet → List ℕ → State → List ℕ
finals_of h w st = take (current_repetitions h st) (drop (st.at + words_for h (next_degree h st)) w)

-- the reads after some of the level's coins: k more for each different index
unfoldable pub reads_after : Sheet → State → ℕ → List ℕ → ℕ
reads_after h st reads js = reads + length (different eqb js) * current_fold h st

-- the transcript from here on
unfoldable pub rest_of : (h : Sheet) → List ℕ → State → Rest (Element h.spelling)
rest_of h w st = read_rest h.spelling h.out_coins (current_level h st) (later_levels_at h st) (drop st.at w)
