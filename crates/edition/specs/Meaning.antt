-- What each case of an edition in code says, in the terms of the definition.
use Rattle.std.specs.Prelude.{ℕ, ◌<◌, List, get_or}
use Rattle.definition.specs.Sheet as definition
use Rattle.edition.specs.declared.Edition.{Edition}
use Rattle.edition.specs.declared.Edition.TheVariants.{One, Two}

unfoldable pub edition_of : Edition → definition.Edition
edition_of One = definition.edition1
edition_of Two = definition.edition2

-- none of k_0 to k_(i-1) is 0
pub record Positive (ed : definition.Edition) (w : List ℕ) (i : ℕ) : Type 0 where
  pub folds : (j : ℕ) → j < i → 0 < get_or (definition.fold_words ed w) j 0
