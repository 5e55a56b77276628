-- The folding numbers and the degree bounds of a sheet, level by level, as far as the code has them.
use Rattle.std.specs.Prelude.{ℕ, suc, ◌/◌, ◌≤◌, ◌<◌, true, List, ◌≡◌, get_or, take}
use Rattle.definition.specs.Lists.{product_of}
use Rattle.definition.specs.Sheet.{Edition, fold_words, folding_number}

-- k_0 to k_(i-1) are folding numbers, as far as M
pub record Folds (ed : Edition) (w : List ℕ) (i : ℕ) : Type 0 where
  pub folding : (j : ℕ) → j < i → j ≤ get_or w 4 0 → folding_number w (get_or (fold_words ed w) j 0) ≡ true

-- d is d_i, where i is at most M + 1
pub record DegreeAt (ed : Edition) (w : List ℕ) (i d : ℕ) : Type 0 where
  pub degree : i ≤ suc (get_or w 4 0) → d ≡ get_or w 2 0 / product_of (take i (fold_words ed w))
