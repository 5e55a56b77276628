-- The rules of refusal 15 as the code tests them, and the first bound that breaks its rule, by number. Assumes nothing.
use Prim.Native.Nat.{ℕ, suc, ◌+◌, ◌*◌, ◌≤◌, ◌<◌, min}
use native.Mathlib.Omega.{arith}
use mathlib.Core.Bool.{Bool, true, false, not, ◌&&◌}
use mathlib.Core.List.{List, ◌∷◌, map}
use mathlib.Core.Option.{Option, none, some}
use mathlib.Core.Path.{◌≡◌, sym, ap, ◌∙◌}
use lib.Dec.{leb}
use lib.ListN.{length, get_or, take, drop, drop_of_length-le}
use lib.Seq.{drop-cons, get_or-take, length-take-le}
use borrow.Author.Tests.{le-leb, lt-leb, not-false, not-true}
use Rattle.batch_definition.specs.Batch.{batch_rules, most_entries}
use Rattle.definition.specs.Field.{spelling_of}
use Rattle.definition.specs.Lists.{first_true}
use Rattle.definition.specs.Sheet.{Sheet, between, edition1, sheet_of}
use Rattle.list_laws.specs.Booleans.{and_true}
use Rattle.layouts.specs.SheetRules.{between_true}
use Rattle.widths.specs.ByField.{spelling_other, spelling_three}

-- 1 to most: below 1, and from 1 on
pub below_one : (most x : ℕ) → x < 1 → false ≡ between 1 most x
unfolding between
below_one most x l = simp (lt-leb 1 x l)

pub from_one_on : (most x : ℕ) → 1 ≤ x → leb x most ≡ between 1 most x
unfolding between
from_one_on most x l = simp (le-leb 1 x l)

pub most_of_three : (field : ℕ) → field ≡ 3 → 2048 ≡ most_entries (spelling_of field)
unfolding most_entries
most_of_three field e = sym (ap most_entries (spelling_three field e))

pub most_of_one : (field : ℕ) → (field ≡ 3 → ⊥) → 8192 ≡ most_entries (spelling_of field)
unfolding most_entries
most_of_one field e = sym (ap most_entries (spelling_other field e))

-- the rule of the number of tables
abbrev pub number_rule : Sheet → ℕ → Bool
number_rule h count = between 1 8 count && leb (count * h.size) (most_entries h.spelling)

pub other_number : (h : Sheet) (count : ℕ) {b : Bool} → b ≡ between 1 8 count → not b ≡ true → false ≡ number_rule h count
other_number h count {b} e n = ap (λ (t : Bool). t && leb (count * h.size) (most_entries h.spelling)) (sym (not-true b n) ∙ e)

pub right_number : (w : List ℕ) (count : ℕ) {b : Bool} {m : ℕ} → b ≡ between 1 8 count → not b ≡ false → m ≡ most_entries (spelling_of (get_or w 0 0)) →
    leb (count * get_or w 1 0) m ≡ number_rule (sheet_of edition1 w) count
unfolding sheet_of
right_number w count {b} e n q =
    ap (leb (count * get_or w 1 0)) q ∙ ap (λ (t : Bool). t && leb (count * get_or w 1 0) (most_entries (spelling_of (get_or w 0 0)))) (sym (not-false b n) ∙ e)

-- The rules of the bounds from number m on, counted from 0, up to the number of tables: the first that is broken.
abbrev pub broken_from : ℕ → ℕ → List ℕ → ℕ → Option ℕ
broken_from d count bounds m = first_true (m + 1) (map not (map (between 1 d) (drop m (take count bounds))))

module _ (h : Sheet) (count : ℕ) (bounds : List ℕ) where
  pub number_broken : {b : Bool} → b ≡ number_rule h count → not b ≡ true → some 0 ≡ first_true 0 (map not (batch_rules h count bounds))
  unfolding batch_rules first_true
  number_broken {b} e n = sym (simp (sym e ∙ not-true b n))

  pub number_kept : {b : Bool} → b ≡ number_rule h count → not b ≡ false → broken_from h.degree count bounds 0 ≡ first_true 0 (map not (batch_rules h count bounds))
  unfolding batch_rules first_true
  number_kept {b} e n = sym (simp (sym e ∙ not-false b n))

  -- there are as many bounds
  pub enough : {b : Bool} → b ≡ number_rule h count → not b ≡ false → min count 8 ≤ length bounds → count ≤ length bounds
  enough {b} e n l = omega (arith, l, between_true 1 8 count (and_true (between 1 8 count) _ (sym e ∙ not-false b n)).0)

module _ (d count : ℕ) (bounds : List ℕ) (few : count ≤ length bounds) (m : ℕ) where
  module _ (more : m < count) where
    here : drop m (take count bounds) ≡ get_or bounds m 0 ∷ drop (suc m) (take count bounds)
    here = drop-cons (take count bounds) m 0 (omega (arith, length-take-le count bounds few)) ∙ ap {B = List ℕ} (λ x. x ∷ drop (suc m) (take count bounds)) (get_or-take count bounds m 0 more)

    pub bound_broken : {b : Bool} → b ≡ between 1 d (get_or bounds m 0) → not b ≡ true → broken_from d count bounds m ≡ some (m + 1)
    unfolding first_true
    bound_broken {b} e n = rw here (simp (sym e ∙ not-true b n))

    pub bound_kept : {b : Bool} → b ≡ between 1 d (get_or bounds m 0) → not b ≡ false → broken_from d count bounds m ≡ broken_from d count bounds (m + 1)
    unfolding first_true
    bound_kept {b} e n =
        let s : suc m ≡ m + 1 = omega arith in
        let t : suc (m + 1) ≡ m + 1 + 1 = omega arith in
        rw here (simp (sym e ∙ not-false b n) (λ i. first_true (t i) (map not (map (between 1 d) (drop (s i) (take count bounds))))))

  pub all_kept : count ≤ m → broken_from d count bounds m ≡ none
  unfolding first_true
  all_kept l = rw (drop_of_length-le (take count bounds) {i = m} (omega (arith, length-take-le count bounds few)))
