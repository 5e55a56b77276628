-- The reads level by level: k_i for each different index of level i, and of an accepted transcript no more than k_0·t_0 + .. + k_M·t_M.
use Prim.Native.Nat.{ℕ, zero, suc, ◌+◌, ◌*◌, ◌≤◌, ◌<◌}
use Rattle.std.proofs.Common.{add-zero, ◌∙◌}
use Rattle.std.proofs.Math.Nat.{mul_comm, mul-le-mul_right, zero-add}
use native.Mathlib.Omega.{arith}
use Rattle.std.specs.Prelude.{Bool, cond, ◌≡◌, drop}
use Rattle.std.proofs.Math.Bool.{true, false}
use mathlib.Core.List.{List, [], ◌++◌, map, zip_with, append_assoc}
use Rattle.std.proofs.Math.Path.{refl, sym, ap}
use Rattle.std.proofs.Math.Dec.{eqb, ltb}
use Rattle.std.proofs.Math.ListN.{length, get_or, length-drop, length-take}
use Rattle.std.proofs.Math.Seq.{drop-cons}
use borrow.Author.Tests.{le-ltb, lt-ltb, ltb-false}
use Rattle.definition.specs.Deciding.{Place, own_place, places_of, reads_of}
use Rattle.definition.specs.Lists.{different, range}
use Rattle.definition.specs.Sheet.{Edition, Level, Sheet, sheet_of, shift_count}
use Rattle.list_laws.specs.All.{All, all_append, all_map}
use Rattle.list_laws.specs.Members.{different_most}
use Rattle.algebra.specs.Laws.{FieldLaws}
use Rattle.layouts.proofs.Lawful.{lawful}
use Rattle.layouts.proofs.LayoutByRound.{coins_due_lem}
use Rattle.layouts.specs.LevelSizes.{Sized, positive_sizes}
use Rattle.layouts.specs.Levels.{coins_before, level_of, out_coin_count, rounds_of, sheet_field, sheet_root, total, words_for}
use Rattle.layouts.specs.LawfulSheets.{Paired}
use Rattle.completeness.proofs.Allowed.{allowed_count, allowed_enough}
use Rattle.completeness.specs.DecidingAccepts.{Admissible, all_places}
use Rattle.completeness.specs.Numbered.{Allowed, coins_of, final_indices, indices_of, level_reads, reads_due, shift_indices}
use Rattle.completeness.specs.Openings.{own_table, reads_next}

pub shift_points : (a : ℕ) (b : Level) → Sized a b → 0 < shift_count b
unfolding shift_count
shift_points a b s = (positive_sizes a b s).0

-- indices of level i, where the tables used so far have lower numbers
module _ (h : Sheet) (i : ℕ) (before : List Place) (js : List ℕ) (lower : All (λ p. p.table < i) before) where
  pub level_reads_lem : 0 < shift_count (level_of h i) → All (λ j. j < shift_count (level_of h i)) js →
      reads_of (before ++ places_of (level_of h i) (own_place (level_of h i)) js) ≡ reads_of before + level_reads h i js
  unfolding level_reads
  level_reads_lem some inside = reads_next before (level_of h i) js some inside (all_map before lower (λ p l e. omega (arith, l, e)))

  pub level_tables : All (λ p. p.table < suc i) (before ++ places_of (level_of h i) (own_place (level_of h i)) js)
  level_tables =
      let own = places_of (level_of h i) (own_place (level_of h i)) js in
      all_append (λ p. p.table < suc i) before own (all_map before lower (λ p l. omega arith)) (all_map own (own_table (level_of h i) js) (λ p e. omega (arith, e)))

module _ (h : Sheet) (coins : List ℕ) where
  shifts_here : (i : ℕ) → i < rounds_of h → shift_indices h coins (suc i) ≡ indices_of h coins i
  unfolding indices_of
  shifts_here i l = rw (lt-ltb i (rounds_of h) l)

  finals_here : final_indices h coins ≡ indices_of h coins (rounds_of h)
  unfolding indices_of
  finals_here = rw (le-ltb (rounds_of h) (rounds_of h) (omega arith))

  -- the places of all indices from level i on
  abbrev places_from : ℕ → ℕ → List Place
  places_from i m = all_places (level_of h i) (own_place (level_of h i)) (map (coins_of h coins) (range (suc i) m)) (final_indices h coins)

  abbrev reads_from : ℕ → ℕ → ℕ
  reads_from i m = total (map (λ j. level_reads h j (indices_of h coins j)) (range i m))

  module _ (a : ℕ) (L : FieldLaws (sheet_field h)) (sized : (i : ℕ) → i ≤ rounds_of h → Sized a (level_of h i)) where
    reads_from_lem : (m i : ℕ) (before : List Place) → i + m ≡ rounds_of h → All (λ p. p.table < i) before →
        Admissible (sheet_field h) L (sheet_root h) (level_of h i) (map (coins_of h coins) (range (suc i) m)) (final_indices h coins) →
        reads_of (before ++ places_from i m) ≡ reads_of before + reads_from i (suc m)
    unfolding range total
    reads_from_lem zero i before e lower admissible =
        level_reads_lem h i before (final_indices h coins) lower (shift_points a (level_of h i) (sized i (omega arith))) admissible
        ∙ ap (λ (n : ℕ). reads_of before + n) (ap (level_reads h i) (finals_here ∙ ap (indices_of h coins) last) ∙ sym (add-zero (level_reads h i (indices_of h coins i))))
      where
        last : rounds_of h ≡ i
        last = omega arith
    reads_from_lem (suc m) i before e lower admissible =
        let js = shift_indices h coins (suc i) in
        let own = places_of (level_of h i) (own_place (level_of h i)) js in
        ap reads_of (sym (append_assoc before own (places_from (suc i) m)))
        ∙ reads_from_lem m (suc i) (before ++ own) (omega arith) (level_tables h i before js lower) admissible.1
        ∙ omega (
          arith,
          level_reads_lem h i before js lower (shift_points a (level_of h i) (sized i (omega arith))) admissible.0.indices,
          ap (level_reads h i) (shifts_here i (omega arith)),
        )

    -- all indices of a fair coin list
    pub all_reads : Admissible (sheet_field h) L (sheet_root h) (level_of h 0) (map (coins_of h coins) (range 1 (rounds_of h))) (final_indices h coins) →
        reads_of (all_places (level_of h 0) (own_place (level_of h 0)) (map (coins_of h coins) (range 1 (rounds_of h))) (final_indices h coins)) ≡ reads_due h coins
    unfolding reads_due reads_of different
    all_reads admissible = reads_from_lem (rounds_of h) 0 [] (omega arith) tt admissible ∙ zero-add (reads_from 0 (suc (rounds_of h)))

  -- a full coin list has no more than t_i indices of level i
  module _ (full : length coins ≡ coins_before h (suc (rounds_of h)) + (level_of h (rounds_of h)).repetitions) where
    few_indices : (i : ℕ) → i ≤ rounds_of h → length (indices_of h coins i) ≤ (level_of h i).repetitions
    unfolding indices_of shift_indices final_indices
    few_indices i l = go (ltb i (rounds_of h)) refl
      where
        go : (b : Bool) → ltb i (rounds_of h) ≡ b → length (cond b (shift_indices h coins (suc i)) (final_indices h coins)) ≤ (level_of h i).repetitions
        go true e = omega (arith, length-take (level_of h i).repetitions (drop (coins_before h (suc i) + words_for h (out_coin_count h + 2)) coins))
        go false e =
            let last : i ≡ rounds_of h = omega (arith, ltb-false i (rounds_of h) e) in
            omega (arith, full, length-drop (coins_before h (suc (rounds_of h))) coins, ap (λ (n : ℕ). (level_of h n).repetitions) last)

    level_most : (i : ℕ) → i ≤ rounds_of h → level_reads h i (indices_of h coins i) ≤ get_or h.folds i 0 * get_or h.repetitions i 0
    unfolding level_reads
    level_most i l =
        let js = indices_of h coins i in
        let k = get_or h.folds i 0 in
        let n : length (different eqb js) ≤ get_or h.repetitions i 0 = omega (arith, different_most eqb js, few_indices i l) in
        omega (arith, mul-le-mul_right k n, mul_comm k (get_or h.repetitions i 0))

    reads_most : (m i : ℕ) → Paired h → i + m ≡ length h.folds → reads_from i m ≤ total (zip_with ◌*◌ (drop i h.folds) (drop i h.repetitions))
    unfolding range total zip_with
    reads_most zero i p e = omega arith
    reads_most (suc m) i p e =
        rw (drop-cons h.folds i 0 (omega arith), drop-cons h.repetitions i 0 (omega (arith, p.same)))
        (omega (arith, level_most i (omega (arith, p.some)), reads_most m (suc i) p (omega arith)))

-- Of an allowed coin list there are at most k_0·t_0 + .. + k_M·t_M reads.
pub reads_at_most : (ed : Edition) (w f coins : List ℕ) → Allowed ed w f coins → reads_due (sheet_of ed w) coins ≤ total (zip_with ◌*◌ (sheet_of ed w).folds (sheet_of ed w).repetitions)
unfolding reads_due
reads_at_most ed w f coins ok =
    let h = sheet_of ed w in
    let p = (lawful ed w (allowed_enough ok) ok.sheet).paired in
    reads_most h coins (allowed_count ok ∙ coins_due_lem ed h p) (suc (rounds_of h)) 0 p (omega (arith, p.some))
