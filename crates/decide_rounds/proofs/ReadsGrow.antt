-- The reads after some of a level's coins are the reads of all places used, where those used before are in tables of levels before.
use Prim.Native.Nat.{ℕ, ◌+◌, ◌*◌, ◌/◌, ◌<◌}
use native.Mathlib.Nat.{zero-mul}
use native.Mathlib.Omega.{arith}
use mathlib.Core.List.{List, [], ◌∷◌, ◌++◌, append-nil, flat_map}
use mathlib.Core.Path.{◌≡◌, sym, ap, ◌∙◌}
use lib.Dec.{eqb}
use lib.ListN.{length}
use Rattle.list_laws.specs.All.{All, all_append, all_map}
use Rattle.completeness.specs.Openings.{own_table, reads_next}
use Rattle.definition.specs.Deciding.{Place, own_place, places_of, reads_of}
use Rattle.definition.specs.Lists.{different}
use Rattle.definition.specs.Sheet.{Sheet, shift_count}
use Rattle.level_words.specs.declared.State.{State}
use Rattle.level_words.specs.State.{current_fold, current_level, reads_after}

module _ (h : Sheet) (st : State) (used : List Place) (before : All (λ p. p.table < st.level) used) where
  -- indices, where there are any, say that there are shift points
  level_reads_lem : (js : List ℕ) → All (λ j. j < shift_count (current_level h st)) js →
      reads_of (used ++ places_of (current_level h st) (own_place (current_level h st)) js) ≡ reads_of used + length (different eqb js) * (current_level h st).fold
  unfolding different places_of current_level flat_map
  level_reads_lem [] below = ap reads_of (append-nil used) ∙ omega (arith, zero-mul (current_fold h st))
  level_reads_lem (j ∷ js) below = reads_next used (current_level h st) (j ∷ js) (omega (arith, below.0)) below (all_map used before (λ p l e. omega arith))

  pub reads_grow : (reads : ℕ) (js : List ℕ) → reads ≡ reads_of used → All (λ j. j < st.size / current_fold h st) js →
      reads_after h st reads js ≡ reads_of (used ++ places_of (current_level h st) (own_place (current_level h st)) js)
  unfolding reads_after current_level shift_count
  reads_grow reads js e below = ap (λ (n : ℕ). n + length (different eqb js) * current_fold h st) e ∙ sym (level_reads_lem js below)

  -- and all are in tables up to the level's
  pub tables_grow : (js : List ℕ) → All (λ p. p.table < st.level + 1) (used ++ places_of (current_level h st) (own_place (current_level h st)) js)
  unfolding current_level
  tables_grow js =
      let new = places_of (current_level h st) (own_place (current_level h st)) js in
      all_append (λ p. p.table < st.level + 1) used new (all_map {Q = λ p. p.table < st.level + 1} used before (λ p l. omega arith))
      (all_map {Q = λ p. p.table < st.level + 1} new (own_table (current_level h st) js) (λ p e. omega (arith, e)))
