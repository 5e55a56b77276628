-- The words that the code reads at a level are there, and its numbers are small enough.
use Rattle.std.specs.Prelude.{ℕ, ◌+◌, ◌/◌, ◌≤◌, ◌<◌, ◌≡◌, List, length, get_or}
use Rattle.layouts.specs.Levels.{rounds_of, words_for}
use Rattle.definition.specs.Field.{prime_of, spelling_of}
use Rattle.definition.specs.Sheet.{Edition, Sheet, fold_words, sheet_length}
use Rattle.fractions.specs.Values.{Below}
use Rattle.level_words.specs.declared.State.{State}
use Rattle.level_words.specs.State.{finals_of, current_fold, current_repetitions, next_degree, next_fold, next_shifts, shifts_at}

-- The words, which begin with a sheet of the edition, say what h does.
pub record Written (ed : Edition) (h : Sheet) (w : List ℕ) : Type 0 where
  pub long : 12 ≤ length w
  pub sheet : sheet_length ed ≤ length w
  pub spelling : h.spelling ≡ spelling_of (get_or w 0 0)
  pub prime : h.prime ≡ prime_of (get_or w 0 0)
  pub size : get_or w 1 0 ≡ h.size
  pub degree : get_or w 2 0 ≡ h.degree
  pub rounds : get_or w 4 0 ≡ rounds_of h
  pub outs : get_or w 5 0 ≡ h.out_coins
  pub times : (i : ℕ) → i ≤ rounds_of h → get_or w (6 + i) 0 ≡ get_or h.repetitions i 0
  pub folds : (i : ℕ) → i ≤ rounds_of h → get_or (fold_words ed w) i 0 ≡ get_or h.folds i 0

-- What the code needs of a level's numbers: where they stand in the words, and how large they are.
pub record Numbers (ed : Edition) (h : Sheet) (w : List ℕ) (st : State) : Type 0 where
  pub long : 12 ≤ length w
  pub sheet : sheet_length ed ≤ length w
  pub spelling : h.spelling ≡ spelling_of (get_or w 0 0)
  pub level : st.level ≤ 5
  pub outs : get_or w 5 0 ≡ h.out_coins
  pub times : get_or w (6 + st.level) 0 ≡ current_repetitions h st
  pub fold : get_or (fold_words ed w) st.level 0 ≡ current_fold h st
  pub large : 2 ≤ current_fold h st
  pub small : current_fold h st ≤ 16
  pub few : current_repetitions h st ≤ 48
  pub shifts : st.size / current_fold h st ≤ 2048

-- The next round's words are there, and its shift indices are below the number of shift points.
pub record RoundInside (ed : Edition) (h : Sheet) (w : List ℕ) (st : State) : Type 0 where
  pub numbers : Numbers ed h w st
  pub level : st.level < 5
  pub there : shifts_at h st + current_repetitions h st ≤ length w
  pub below : Below (st.size / current_fold h st) (next_shifts h w st)
  pub next : get_or (fold_words ed w) (st.level + 1) 0 ≡ next_fold h st
  pub next_large : 2 ≤ next_fold h st
  pub next_small : next_fold h st ≤ 16

-- The final coefficients and indices are there, and the indices are below the number of shift points.
pub record FinalInside (ed : Edition) (h : Sheet) (w : List ℕ) (st : State) : Type 0 where
  pub numbers : Numbers ed h w st
  pub there : st.at + words_for h (next_degree h st) + current_repetitions h st ≤ length w
  pub below : Below (st.size / current_fold h st) (finals_of h w st)
