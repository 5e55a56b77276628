-- The reads of an accepted batch: at level 0, k_0 for each different index in each table; at the others k_i for each different index.
use Prim.Native.Nat.{ℕ, zero, suc, ◌+◌, ◌*◌, ◌≤◌, ◌<◌}
use Rattle.std.proofs.Common.{add-zero, arith, ◌∙◌, le-ltb, lt-ltb, ne_eqb}
use Rattle.std.proofs.Math.Nat.{mul_comm}
use Rattle.std.specs.Prelude.{false, ◌≡◌, refl, drop}
use mathlib.Core.List.{List, ◌++◌, map, append_assoc}
use Rattle.std.proofs.Math.Path.{sym, ap}
use Rattle.std.proofs.Math.Dec.{eqb}
use Rattle.std.proofs.Math.ListN.{length}
use Rattle.batch_definition.specs.Batch.{table_numbers}
use Rattle.definition.specs.Deciding.{Place, coin_places, own_place, places_of, reads_of}
use Rattle.definition.specs.Domain.{root_numbers}
use Rattle.definition.specs.Lists.{different, range}
use Rattle.definition.specs.Sheet.{Sheet, shift_count}
use Rattle.list_laws.specs.All.{All, all_append, all_flat, all_map, all_of_map, all_range, everywhere}
use Rattle.list_laws.specs.Members.{absent}
use Rattle.algebra.specs.Laws.{FieldLaws}
use Rattle.layouts.specs.LevelSizes.{Sized}
use Rattle.layouts.specs.Levels.{level_of, rounds_of, sheet_field, sheet_root, total, words_for}
use Rattle.completeness.specs.DecidingAccepts.{Admissible, all_places}
use Rattle.completeness.specs.Numbered.{coins_of, final_indices, indices_of, level_reads, shift_indices}
use Rattle.completeness.specs.Openings.{in_tables, own_table, reads_next, tables_read}
use Rattle.completeness.proofs.ReadsCounted.{shift_points}
use Rattle.batches.specs.Batched.{batch_reads}

-- the numbers in a range are different
range_different : (from n : ℕ) → length (different eqb (range from n)) ≡ n
unfolding different range
range_different from zero = refl
range_different from (suc n) =
    rw (absent eqb from (range (suc from) n) (all_range (λ y. eqb from y ≡ false) (suc from) n (λ m l u. ne_eqb from m (λ e. omega arith)))) (ap suc (range_different (suc from) n))

-- a place in none of the tables i to M
abbrev Apart : ℕ → ℕ → Place → Type 0
Apart i M p = (t : ℕ) → i ≤ t → t ≤ M → p.table ≡ t → ⊥

module _ (h : Sheet) (coins : List ℕ) where
  shifts_here : (i : ℕ) → i < rounds_of h → shift_indices h coins (suc i) ≡ indices_of h coins i
  unfolding indices_of
  shifts_here i l = rw (lt-ltb i (rounds_of h) l)

  finals_here : (i : ℕ) → i ≡ rounds_of h → final_indices h coins ≡ indices_of h coins i
  unfolding indices_of
  finals_here i e = rw (le-ltb i (rounds_of h) (omega arith))

  abbrev places_from : ℕ → ℕ → List Place
  places_from i m = all_places (level_of h i) (own_place (level_of h i)) (map (coins_of h coins) (range (suc i) m)) (final_indices h coins)

  abbrev reads_from : ℕ → ℕ → ℕ
  reads_from i m = total (map (λ j. level_reads h j (indices_of h coins j)) (range i m))

  module _ (a : ℕ) (L : FieldLaws (sheet_field h)) (sized : (i : ℕ) → i ≤ rounds_of h → Sized a (level_of h i)) where
    some_points : (i : ℕ) → i ≤ rounds_of h → 0 < shift_count (level_of h i)
    some_points i l = shift_points a (level_of h i) (sized i l)

    -- coins of a level, where its table is not used so far
    level_read : (i : ℕ) (before : List Place) (js : List ℕ) → i ≤ rounds_of h → All (Apart i (rounds_of h)) before → All (λ j. j < shift_count (level_of h i)) js →
        reads_of (before ++ places_of (level_of h i) (own_place (level_of h i)) js) ≡ reads_of before + level_reads h i js
    unfolding level_reads
    level_read i before js l other below = reads_next before (level_of h i) js (some_points i l) below (all_map before other (λ p k e. k i (omega arith) l e))

    later_apart : (i : ℕ) (before : List Place) (js : List ℕ) → All (Apart i (rounds_of h)) before → All (Apart (suc i) (rounds_of h)) (before ++ places_of (level_of h i) (own_place (level_of h i)) js)
    later_apart i before js other =
        all_append (Apart (suc i) (rounds_of h)) before _ (all_map before other (λ p k t l u e. k t (omega arith) u e))
        (all_map (places_of (level_of h i) (own_place (level_of h i)) js) (own_table (level_of h i) js) (λ p e t l u q. omega (arith, e, q)))

    reads_after_lem : (m i : ℕ) (before : List Place) → i + m ≡ rounds_of h → All (Apart i (rounds_of h)) before →
        Admissible (sheet_field h) L (sheet_root h) (level_of h i) (map (coins_of h coins) (range (suc i) m)) (final_indices h coins) →
        reads_of (before ++ places_from i m) ≡ reads_of before + reads_from i (suc m)
    unfolding range total
    reads_after_lem zero i before e other admissible =
        level_read i before (final_indices h coins) (omega arith) other admissible
        ∙ ap (λ (n : ℕ). reads_of before + n) (ap (level_reads h i) (finals_here i (omega arith)) ∙ sym (add-zero (level_reads h i (indices_of h coins i))))
    reads_after_lem (suc m) i before e other admissible =
        let js = shift_indices h coins (suc i) in
        let own = places_of (level_of h i) (own_place (level_of h i)) js in
        ap reads_of (sym (append_assoc before own (places_from (suc i) m)))
        ∙ reads_after_lem m (suc i) (before ++ own) (omega arith) (later_apart i before js other) admissible.1
        ∙ omega (arith, level_read i before js (omega arith) other admissible.0.indices, ap (level_reads h i) (shifts_here i (omega arith)))

    module _ (N : ℕ) (few : rounds_of h ≤ 5) where
      abbrev own : ℕ → List Place
      own = in_tables (table_numbers N)

      -- the tables of the batch are none of the rounds'
      batch_apart : (js : List ℕ) → All (Apart 1 (rounds_of h)) (places_of (level_of h 0) own js)
      unfolding places_of coin_places table_numbers
      batch_apart js =
          all_flat _ (coin_places (level_of h 0) own) js (everywhere js (λ j. all_flat _ own (root_numbers (level_of h 0) j) (everywhere (root_numbers (level_of h 0) j) (λ n.
          all_of_map _ _ (range 6 N) (all_range _ 6 N (λ m l u t a b e. omega arith))))))

      first_read : (js : List ℕ) → All (λ j. j < shift_count (level_of h 0)) js → reads_of (places_of (level_of h 0) own js) ≡ N * level_reads h 0 js
      unfolding level_reads table_numbers
      first_read js below =
          tables_read (level_of h 0) (table_numbers N) js (some_points 0 (omega arith)) below ∙ ap (λ (n : ℕ). length (different eqb js) * (level_of h 0).fold * n) (range_different 6 N)
          ∙ mul_comm (length (different eqb js) * (level_of h 0).fold) N

      abbrev Fair : ℕ → Type 0
      Fair M = Admissible (sheet_field h) L (sheet_root h) (level_of h 0) (map (coins_of h coins) (range 1 M)) (final_indices h coins)

      batch_reads_at : (M : ℕ) → M ≡ rounds_of h → Fair M →
          reads_of (all_places (level_of h 0) own (map (coins_of h coins) (range 1 M)) (final_indices h coins)) ≡ N * level_reads h 0 (indices_of h coins 0) + reads_from 1 M
      unfolding range total
      batch_reads_at zero e admissible =
          first_read (final_indices h coins) admissible ∙ ap (λ (l : List ℕ). N * level_reads h 0 l) (finals_here 0 (omega arith)) ∙ sym (add-zero (N * level_reads h 0 (indices_of h coins 0)))
      batch_reads_at (suc m) e admissible =
          let js = shift_indices h coins 1 in
          reads_after_lem m 1 (places_of (level_of h 0) own js) (omega arith) (batch_apart js) admissible.1
          ∙ ap (λ (n : ℕ). n + reads_from 1 (suc m)) (first_read js admissible.0.indices ∙ ap (λ (l : List ℕ). N * level_reads h 0 l) (shifts_here 0 (omega arith)))

-- All reads of a batch's fair coins, of which r is the first.
pub all_reads : (h : Sheet) (coins : List ℕ) (a : ℕ) (L : FieldLaws (sheet_field h)) → ((i : ℕ) → i ≤ rounds_of h → Sized a (level_of h i)) → (N : ℕ) → rounds_of h ≤ 5 →
    Admissible (sheet_field h) L (sheet_root h) (level_of h 0) (map (coins_of h (drop (words_for h 1) coins)) (range 1 (rounds_of h))) (final_indices h (drop (words_for h 1) coins)) →
    reads_of (all_places (level_of h 0) (in_tables (table_numbers N)) (map (coins_of h (drop (words_for h 1) coins)) (range 1 (rounds_of h))) (final_indices h (drop (words_for h 1) coins))) ≡ batch_reads h N coins
unfolding batch_reads
all_reads h coins a L sized N few admissible = batch_reads_at h (drop (words_for h 1) coins) a L sized N few (rounds_of h) refl admissible
