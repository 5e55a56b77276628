-- The different ones among some indices, counted from the last on, and the marks of those met so far.
use Rattle.std.specs.Prelude.{ℕ, zero, suc, ◌+◌, ◌-◌, ◌≤◌, ◌<◌, Bool, true, false, not, ◌||◌, List, [], ◌∷◌, ◌≡◌, refl, eqb, length, get_or, drop, replicate, set}
use Rattle.std.proofs.Common.{le_refl, arith, sym, ap, ◌∙◌, length-set, drop_of_length-le, get_or-set_same, get_or-set_other, eqb-true}
use Rattle.std.proofs.lemmas.List.{get_or-replicate, length-replicate}
use Rattle.std.proofs.lemmas.Bool.{eqb-false, not-true, not-false}
use Rattle.std.proofs.Math.Dec.{eqb-suc-zero}
use Rattle.list_laws.specs.All.{All}
use Rattle.definition.specs.Lists.{different, member}
use Rattle.list_laws.specs.Backwards.{drop_back}

-- The number of different ones from index i on.
pub record Counted (js : List ℕ) (count i : ℕ) : Type 0 where
  pub within : i ≤ length js
  pub few : count + i ≤ length js
  pub counted : count ≡ length (different eqb (drop i js))

pub count_start : (js : List ℕ) → Counted js 0 (length js)
unfolding different
count_start js = let z = drop_of_length-le js (le_refl (length js)) in record { within = omega arith; few = omega arith; counted = rw z }

-- the count goes up exactly at an index that is not among those after it
module _ (js : List ℕ) (count i : ℕ) (h : 0 < i) (c : Counted js count i) where
  pub count_new : member eqb (get_or js (i - 1) 0) (drop i js) ≡ false → Counted js (count + 1) (i - 1)
  unfolding different
  count_new z = record {
    within = omega (arith, c.within);
    few = omega (arith, c.few);
    counted = rw (drop_back js 0 i h c.within, z) (omega (arith, c.counted));
  }

  pub count_old : member eqb (get_or js (i - 1) 0) (drop i js) ≡ true → Counted js count (i - 1)
  unfolding different
  count_old z = record { within = omega (arith, c.within); few = omega (arith, c.few); counted = rw (drop_back js 0 i h c.within, z) c.counted }

pub count_done : (js : List ℕ) (count i : ℕ) → i ≤ 0 → Counted js count i → count ≡ length (different eqb js)
count_done js count zero h c = c.counted
count_done js count (suc i) h c = absurd (omega arith)

-- ---- marks

-- 0 is no mark
unfoldable pub is_mark : ℕ → Bool
is_mark zero = false
is_mark (suc m) = true

-- a byte is a mark exactly where it is not 0
pub mark_test : (m : ℕ) → not (eqb m 0) ≡ is_mark m
unfolding is_mark
mark_test zero = refl
mark_test (suc m) = rw (eqb-suc-zero m)

-- of n indices, those marked are the ones among js
pub record Marked (n : ℕ) (js marks : List ℕ) : Type 0 where
  pub long : length marks ≡ n
  pub flags : (j : ℕ) → j < n → is_mark (get_or marks j 0) ≡ member eqb j js

pub marked_none : (n : ℕ) → Marked n [] (replicate n 0)
unfolding is_mark member
marked_none n = record { long = length-replicate n 0; flags = λ j l. ap is_mark (get_or-replicate n j 0 0 l) }

pub marked_next : (n : ℕ) (js marks : List ℕ) (x : ℕ) → x < n → Marked n js marks → Marked n (x ∷ js) (set marks x 1)
unfolding is_mark member
marked_next n js marks x h m = record { long = length-set marks x 1 ∙ m.long; flags = λ j l. go j l (eqb j x) refl }
  where
    go : (j : ℕ) → j < n → (b : Bool) → eqb j x ≡ b → is_mark (get_or (set marks x 1) j 0) ≡ (b || member eqb j js)
    go j l true e = rw (eqb-true j x e) (ap is_mark (get_or-set_same marks x 1 0 (omega (arith, m.long))))
    go j l false e = ap is_mark (get_or-set_other marks x j 1 0 (eqb-false j x e)) ∙ m.flags j l

-- an index from a list of which each is below n
pub below_at : (n : ℕ) (js : List ℕ) (i : ℕ) → All (λ j. j < n) js → i < length js → get_or js i 0 < n
below_at n [] i h l = absurd (omega arith)
below_at n (j ∷ js) zero h l = h.0
below_at n (j ∷ js) (suc i) h l = below_at n js i h.1 (omega arith)

-- One turn with marks: those from index i on are counted and marked.
module _ (js marks : List ℕ) (count i : ℕ) (all : All (λ j. j < 2048) js) (h : 0 < i) (c : Counted js count i) (m : Marked 2048 (drop i js) marks) where
  pub index_below : get_or js (i - 1) 0 < 2048
  index_below = below_at 2048 js (i - 1) all (omega (arith, c.within))

  pub marked_turn : Marked 2048 (drop (i - 1) js) (set marks (get_or js (i - 1) 0) 1)
  marked_turn = rw (drop_back js 0 i h c.within) (marked_next 2048 (drop i js) marks (get_or js (i - 1) 0) index_below m)

  met : {b : Bool} → b ≡ is_mark (get_or marks (get_or js (i - 1) 0) 0) → b ≡ member eqb (get_or js (i - 1) 0) (drop i js)
  met e = e ∙ m.flags (get_or js (i - 1) 0) index_below

  pub mark_new : {b : Bool} → b ≡ is_mark (get_or marks (get_or js (i - 1) 0) 0) → not b ≡ true → Counted js (count + 1) (i - 1)
  mark_new {b} e n = count_new js count i h c (sym (met e) ∙ not-true b n)

  pub mark_old : {b : Bool} → b ≡ is_mark (get_or marks (get_or js (i - 1) 0) 0) → not b ≡ false → Counted js count (i - 1)
  mark_old {b} e n = count_old js count i h c (sym (met e) ∙ not-false b n)

pub marked_start : (js marks : List ℕ) → marks ≡ replicate 2048 0 → Marked 2048 (drop (length js) js) marks
marked_start js marks e = let z = drop_of_length-le js (le_refl (length js)) in rw (z, e) (marked_none 2048)

-- One turn without marks: an index is looked for among those after it.
module _ (js : List ℕ) (count i : ℕ) (h : 0 < i) (c : Counted js count i) where
  same_rest : drop (i - 1 + 1) js ≡ drop i js
  same_rest = let s : i - 1 + 1 ≡ i = omega arith in ap (λ (n : ℕ). drop n js) s

  pub few_new : {b : Bool} → b ≡ member eqb (get_or js (i - 1) 0) (drop (i - 1 + 1) js) → not b ≡ true → Counted js (count + 1) (i - 1)
  few_new {b} e n = count_new js count i h c (ap (member eqb (get_or js (i - 1) 0)) (sym same_rest) ∙ sym e ∙ not-true b n)

  pub few_old : {b : Bool} → b ≡ member eqb (get_or js (i - 1) 0) (drop (i - 1 + 1) js) → not b ≡ false → Counted js count (i - 1)
  few_old {b} e n = count_old js count i h c (ap (member eqb (get_or js (i - 1) 0)) (sym same_rest) ∙ sym e ∙ not-false b n)
