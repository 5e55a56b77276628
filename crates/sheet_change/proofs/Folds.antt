-- The walk over the folding numbers for the first that is not k_0: what is known from level i on.
use Prim.Native.Nat.{ℕ, suc, ◌+◌, ◌≤◌, ◌<◌}
use native.Mathlib.Omega.{arith}
use mathlib.Core.Bool.{Bool, not}
use mathlib.Core.List.{List}
use mathlib.Core.Option.{Option, none, some}
use mathlib.Core.Path.{◌≡◌, refl, sym, ap, ◌∙◌}
use lib.Dec.{eqb}
use lib.ListN.{length, get_or, take}
use lib.Seq.{get_or-take, length-take-le}
use borrow.Author.Tests.{eq-eqb, ne_eqb}
use Rattle.definition.specs.Convert.{folds_test}
use Rattle.definition.specs.Sheet.{edition2, fold_words, sheet_of}
use Rattle.definition.specs.Verdict.{refuse_at}
use Rattle.layouts.specs.SheetRules.{fold_count}
use Rattle.ranges.proofs.FirstFrom.{first_from, true_here, false_here, none_left}

-- k_0 to k_M, and which of them is not k_0
abbrev folds_of : List ℕ → List ℕ
folds_of w = take (suc (get_or w 4 0)) (fold_words edition2 w)

abbrev other : List ℕ → ℕ → Bool
other w k = not (eqb k (get_or (folds_of w) 0 0))

-- the first such level from level i on
unfoldable pub folds_from : List ℕ → ℕ → Option ℕ
folds_from w i = first_from (other w) (folds_of w) i

module _ (w : List ℕ) (few : get_or w 4 0 ≤ 5) where
  count : length (folds_of w) ≡ suc (get_or w 4 0)
  count = length-take-le (suc (get_or w 4 0)) (fold_words edition2 w) (omega (arith, fold_count edition2 w))

  at : (i : ℕ) {k : ℕ} → i ≤ get_or w 4 0 → k ≡ get_or (fold_words edition2 w) i 0 → k ≡ get_or (folds_of w) i 0
  at i l e = e ∙ sym (get_or-take (suc (get_or w 4 0)) (fold_words edition2 w) i 0 (omega arith))

  pub from_one : refuse_at 13 (folds_from w 1) ≡ folds_test (sheet_of edition2 w)
  unfolding folds_from folds_test sheet_of
  from_one = ap (refuse_at 13) (false_here (other w) (folds_of w) 0 (omega (arith, count)) (ap not (eq-eqb (get_or (folds_of w) 0 0) (get_or (folds_of w) 0 0) refl)))

  pub none_after : (i : ℕ) → get_or w 4 0 < i → none ≡ folds_from w i
  unfolding folds_from
  none_after i l = none_left (other w) (folds_of w) i (omega (arith, count))

  -- k and first are k_i and k_0
  module _ (i : ℕ) {k first : ℕ} (inside : i ≤ get_or w 4 0) (is : k ≡ get_or (fold_words edition2 w) i 0) (is₀ : first ≡ get_or (fold_words edition2 w) 0 0) where
    pub differs_here : (k ≡ first → ⊥) → some i ≡ folds_from w i
    unfolding folds_from
    differs_here n =
        true_here (other w) (folds_of w) i (omega (arith, count)) (ap not (ne_eqb (get_or (folds_of w) i 0) (get_or (folds_of w) 0 0) (λ e. n (at i inside is ∙ e ∙ sym (at 0 (omega arith) is₀)))))

    pub equal_here : k ≡ first → folds_from w (i + 1) ≡ folds_from w i
    unfolding folds_from
    equal_here e =
        false_here (other w) (folds_of w) i (omega (arith, count)) (ap not (eq-eqb (get_or (folds_of w) i 0) (get_or (folds_of w) 0 0) (sym (at i inside is) ∙ e ∙ at 0 (omega arith) is₀)))
