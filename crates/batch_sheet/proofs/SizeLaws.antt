-- The word numbers and the coefficients of a batch, counted. Assumes nothing.
use Prim.Native.Nat.{ℕ, zero, suc, ◌+◌, ◌-◌, ◌*◌, ◌≤◌, ◌<◌}
use native.Mathlib.Nat.{mul-add, mul-le-mul_left, mul-le-mul_right, suc-mul}
use native.Mathlib.Omega.{arith}
use mathlib.Core.List.{List}
use mathlib.Core.Path.{◌≡◌, ap, ◌∙◌, subst}
use lib.ListN.{length, get_or, drop, drop_of_length-le}
use lib.Seq.{drop-cons, take_all}
use Rattle.batch_definition.specs.Batch.{batch_start, batch_test, most_entries, sum_of}
use Rattle.definition.specs.Field.{Spelling, four, one, word_count}
use Rattle.definition.specs.Reading.{sheet_test}
use Rattle.definition.specs.Sheet.{Sheet, edition1, sheet_of}
use Rattle.definition.specs.Verdict.{accepted}
use Rattle.list_laws.specs.All.{All}
use Rattle.layouts.proofs.PlainSheet.{sheet_plain}
use Rattle.layouts.specs.Spellings.{count_add, count_least}
use Rattle.batches.specs.BatchRules.{bounds_within, entries_few, sum_most}
use Rattle.batches.specs.Batched.{fold_number, higher_by}

-- ---- the tables but one

tables_but_one : (count size : ℕ) → 1 ≤ count → count * size ≡ (count - 1) * size + size
tables_but_one zero size l = absurd (omega arith)
tables_but_one (suc m) size l = let e : suc m - 1 ≡ m = omega arith in rw e (omega (arith, suc-mul m size))

-- of up to 8 tables with so many entries, all but one have at most seven eighths of them
others_small : (count size most : ℕ) → 1 ≤ count → count ≤ 8 → count * size ≤ most → 8 * ((count - 1) * size) ≤ 7 * most
others_small count size most some few l =
    let e : count - 1 ≤ 7 = omega arith in
    omega (arith, tables_but_one count size some, mul-le-mul_right size e)

-- so many elements, and one more
elements_small : (σ : Spelling) (x : ℕ) → 8 * x ≤ 7 * most_entries σ → (x ≤ 7168) × (word_count σ (x + 1) ≤ 7172)
unfolding most_entries word_count
elements_small one x l = (omega arith, omega arith)
elements_small four x l = (omega arith, omega arith)

module _ (h : Sheet) (count : ℕ) (some : 1 ≤ count) where
  pub shift_is : {v : ℕ} → v ≡ word_count h.spelling ((count - 1) * h.size + 1) → 1 + count + v ≡ higher_by h count
  unfolding higher_by fold_number batch_start
  shift_is e =
      let σ = h.spelling in
      let x = (count - 1) * h.size in
      omega (arith, e, count_add σ x 1, ap (word_count σ) (tables_but_one count h.size some), count_add σ x h.size)

  pub shift_small : count ≤ 8 → count * h.size ≤ most_entries h.spelling → ((count - 1) * h.size ≤ 7168) × (word_count h.spelling ((count - 1) * h.size + 1) ≤ 7172)
  shift_small few l = elements_small h.spelling ((count - 1) * h.size) (others_small count h.size (most_entries h.spelling) some few l)

-- ---- the coefficients

half_small : (σ : Spelling) (s : ℕ) → s + s ≤ most_entries σ → word_count σ s ≤ 4096
unfolding most_entries word_count
half_small one s l = omega arith
half_small four s l = omega arith

module _ (w bounds : List ℕ) (passed : sheet_test edition1 w ≡ accepted) (ruled : batch_test (sheet_of edition1 w) (length bounds) bounds ≡ accepted) where
  -- each bound is at most d0, which is at most n0/2
  pub coefficients_small : word_count (sheet_of edition1 w).spelling (sum_of bounds) ≤ 4096
  unfolding sheet_of
  coefficients_small =
      let N = length bounds in
      let d = get_or w 2 0 in
      let n = get_or w 1 0 in
      let b : All (λ x. (1 ≤ x) × (x ≤ d)) bounds = subst (All (λ x. (1 ≤ x) × (x ≤ d))) (take_all N bounds (omega arith)) (bounds_within (sheet_of edition1 w) N bounds ruled) in
      let half : d + d ≤ n = omega (arith, (sheet_plain edition1 w passed).plain.degree_range.1) in
      half_small (sheet_of edition1 w).spelling (sum_of bounds)
      (omega (arith, sum_most d bounds b, mul-le-mul_left N half, mul-add N d d, entries_few (sheet_of edition1 w) N bounds ruled))

  pub sum_small : sum_of bounds ≤ 4096
  sum_small = omega (arith, count_least (sheet_of edition1 w).spelling (sum_of bounds), coefficients_small)

module _ (bounds : List ℕ) (m : ℕ) where
  pub sum_next : m < length bounds → sum_of (drop m bounds) ≡ get_or bounds m 0 + sum_of (drop (m + 1) bounds)
  unfolding sum_of
  sum_next l = let s : suc m ≡ m + 1 = omega arith in ap sum_of (drop-cons bounds m 0 l) ∙ ap (λ (k : ℕ). get_or bounds m 0 + sum_of (drop k bounds)) s

  pub sum_end : length bounds ≤ m → sum_of (drop m bounds) ≡ 0
  unfolding sum_of
  sum_end l = ap sum_of (drop_of_length-le bounds {i = m} l)
