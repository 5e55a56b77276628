-- The folding numbers and the degree bounds, level by level. Assumes nothing.
use Prim.Native.Nat.{ℕ, ◌+◌, ◌/◌, ◌^◌, ◌≤◌, ◌<◌}
use native.Mathlib.Omega.{arith}
use mathlib.Core.Bool.{true, ◌&&◌}
use mathlib.Core.List.{List}
use mathlib.Core.Path.{◌≡◌, sym, ◌∙◌, subst}
use lib.Count.{ones}
use lib.ListN.{get_or}
use Rattle.list_laws.specs.Booleans.{and_true}
use Rattle.layouts.specs.SheetRules.{fold_words_lem, pow_most}
use Rattle.definition.specs.Reading.{sheet_test}
use Rattle.definition.specs.Sheet.{Edition, between, fold_words, folding_number, power_of_two}
use Rattle.definition.specs.Verdict.{accepted}
use Rattle.edition.specs.Places.{degree_next, degree_none}
use Rattle.sizes.specs.Degrees.{DegreeAt, Folds}
use Rattle.sizes.specs.OneBit.{power_one_bit}

-- ---- the folding numbers

pub passed_folds : (ed : Edition) (w : List ℕ) → sheet_test ed w ≡ accepted → Folds ed w 6
passed_folds ed w passed = record { folding = λ j l m. fold_words_lem ed w passed j m }

pub fewer_folds : {ed : Edition} {w : List ℕ} {i : ℕ} (j : ℕ) → j ≤ i → Folds ed w i → Folds ed w j
fewer_folds j l f = record { folding = λ n u m. f.folding n (omega arith) m }

pub folding : {ed : Edition} {w : List ℕ} {i k : ℕ} → Folds ed w (i + 1) → i ≤ get_or w 4 0 → k ≡ get_or (fold_words ed w) i 0 → folding_number w k ≡ true
folding {ed} {w} {i} f l e = subst (λ (k : ℕ). folding_number w k ≡ true) (sym e) (f.folding i (omega arith) l)

pub fold_one_bit : (w : List ℕ) (k : ℕ) → folding_number w k ≡ true → ones k ≡ 1
unfolding folding_number
fold_one_bit w k e = power_one_bit k (and_true (power_of_two k) _ (and_true (power_of_two k && between 2 16 k) _ e).0).0

-- a logarithm of k is at most 4
pub log_small : (k a : ℕ) → k ≡ 2 ^ a → k ≤ 16 → a ≤ 4
log_small k a e h = pow_most a 4 (subst (λ (x : ℕ). x ≤ 16) e h)

-- ---- the degree bounds

pub degree_first : (ed : Edition) (w : List ℕ) → DegreeAt ed w 0 (get_or w 2 0)
degree_first ed w = record { degree = λ l. degree_none ed w }

pub degree_past : {ed : Edition} {w : List ℕ} {i d : ℕ} → get_or w 4 0 < i → DegreeAt ed w (i + 1) d
degree_past h = record { degree = λ l. absurd (omega arith) }

pub degree_moved : {ed : Edition} {w : List ℕ} {i d k : ℕ} (a : ℕ) → i < 6 → DegreeAt ed w i d → k ≡ get_or (fold_words ed w) i 0 → k ≡ 2 ^ a → DegreeAt ed w (i + 1) (d / 2 ^ a)
degree_moved {ed} {w} {i} a few d ek ea = record { degree = λ l. degree_next ed w i few (d.degree (omega arith)) (sym ea ∙ ek) }
