-- The check of a block and the search for the first wrong one, as a loop makes them.
use Rattle.std.specs.Prelude.{ℕ, suc, ◌+◌, ◌*◌, ◌%◌, ◌≤◌, ◌<◌, ◌≡◌, Bool, true, false, eqb, length, get_or, take, drop}
use Rattle.std.proofs.Common.{mul-le-mul, add-one, arith, ap, ◌∙◌, drop_of_length-le, drop-cons}
use Rattle.std.proofs.Math.Option.{none, some}
use mathlib.Core.List.{List, [], ◌∷◌}
use Rattle.definition.specs.Lists.{first_true}
use Rattle.definition.specs.Block.{check_word, weighted_sum, wrong_checks}

-- is the check word of block b right?
unfoldable pub right_check : ℕ → List ℕ → Bool
right_check b x = eqb (get_or x 127 0) (check_word b (take 127 x))

-- The sum for block b of the words x as a loop makes it: sum is made of the words before number w, and what the rest adds gives the whole.
-- A word below 2^32 adds at most 127·2^32, so that the sum stays in 64 bits.
pub record Summed (x : List ℕ) (b sum w : ℕ) : Type 0 where
  pub upto : w ≤ 127
  pub small : sum ≤ b + 1 + 545460846592 * w
  pub due : sum + weighted_sum w (drop w x) ≡ weighted_sum 0 x + suc b

pub summed_start : (x : List ℕ) (b : ℕ) → Summed x b (b + 1) 0
summed_start x b = record { upto = omega arith; small = omega arith; due = omega arith }

pub summed_next : (x : List ℕ) {b sum w v r : ℕ} → length x ≡ 127 → w < 127 → v ≡ get_or x w 0 → (r ≡ sum + (w + 1) * v) × (r ≤ sum + 545460846592)
    → Summed x b sum w → Summed x b r (w + 1)
unfolding weighted_sum
summed_next x {b} {sum} {w} {v} {r} n h e a s =
    let d : drop w x ≡ get_or x w 0 ∷ drop (suc w) x = drop-cons x w 0 (omega arith) in
    let f : r ≡ sum + suc w * get_or x w 0 = a.0 ∙ rw (e, add-one) in
    let g = rw d at s.due in
    record { upto = omega arith; small = omega (arith, s.small, a.1); due = rw add-one (omega (arith, f, g)) }

pub summed_end : (x : List ℕ) {b sum w : ℕ} → length x ≡ 127 → 127 ≤ w → Summed x b sum w → sum % 4294967291 ≡ check_word b x
unfolding weighted_sum check_word
summed_end x {b} {sum} {w} n h s =
    let l : length x ≤ w = omega arith in
    let d : drop w x ≡ [] = drop_of_length-le x l in
    let g = rw d at s.due in
    let e : sum ≡ weighted_sum 0 x + suc b = omega (arith, g) in
    ap (λ (k : ℕ). k % 4294967291) e

-- a word below 2^32 times at most 127
pub weighted_small : (w v : ℕ) → w < 127 → v < 4294967296 → (w + 1) * v ≤ 545460846592
weighted_small w v h l = let a : w + 1 ≤ 127 = omega arith in let b : v ≤ 4294967296 = omega arith in mul-le-mul a b

-- the first wrong check among the blocks from number b on
module _ (xss : List (List ℕ)) (b : ℕ) where
  pub wrong_here : b < length xss → right_check b (get_or xss b []) ≡ false → first_true b (wrong_checks b (drop b xss)) ≡ some b
  unfolding wrong_checks first_true right_check
  wrong_here h e = rw (drop-cons xss b [] h) (rw e)

  pub wrong_later : b < length xss → right_check b (get_or xss b []) ≡ true
      → first_true (b + 1) (wrong_checks (b + 1) (drop (b + 1) xss)) ≡ first_true b (wrong_checks b (drop b xss))
  unfolding wrong_checks first_true right_check
  wrong_later h e = rw (drop-cons xss b [] h, add-one) (rw e)

  pub wrong_nowhere : length xss ≤ b → first_true b (wrong_checks b (drop b xss)) ≡ none
  unfolding wrong_checks first_true
  wrong_nowhere h = rw (drop_of_length-le xss h)
