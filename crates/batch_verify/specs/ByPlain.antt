-- The verdict on a batch by its plain stream (document 02, CR 9 and 11).
use Rattle.std.specs.Prelude.{ℕ, ◌+◌, ◌-◌, ◌*◌, ◌≤◌, cond, ◌||◌, List, ◌≡◌, eqb, length}
use Rattle.batches.specs.Batched.{placed}
use Rattle.completeness.specs.Faults.{part_words, shifts}
use Rattle.completeness.specs.Numbered.{level_reads}
use Rattle.definition.specs.Deciding.{deciding}
use Rattle.definition.specs.Layout.{layout, words_due}
use Rattle.definition.specs.Reading.{range_test, sheet_test}
use Rattle.definition.specs.Sheet.{edition1, sheet_of}
use Rattle.definition.specs.Verdict.{Outcome, Verdict, accepted, refused}
use Rattle.layouts.specs.Levels.{rounds_of}

-- the words that deciding is handed: those of a stream that passes reading
pub record Handed (w : List ℕ) : Type 0 where
  pub sheet : sheet_test edition1 w ≡ accepted
  pub range : range_test (sheet_of edition1 w) 12 (layout (sheet_of edition1 w)) w ≡ accepted
  pub there : words_due edition1 (sheet_of edition1 w) ≤ length w

-- the reads of round 1's shift indices in one table
unfoldable pub first_reads : List ℕ → ℕ
first_reads w = level_reads (sheet_of edition1 w) 0 (part_words edition1 (sheet_of edition1 w) w (shifts 0))

-- the reads in all tables, where in one for all there are so many: without a round all are of level 0
unfoldable pub all_reads : ℕ → List ℕ → ℕ → ℕ
all_reads count w reads = cond (eqb (rounds_of (sheet_of edition1 w)) 0) (count * reads) (reads + (count - 1) * first_reads w)

-- a 7 and a 14 come before any read
unfoldable pub reads_with : Outcome → ℕ → ℕ
reads_with accepted reads = reads
reads_with (refused n q) reads = cond (eqb n 7 || eqb n 14) 0 reads

-- the verdict on a batch of so many tables, whose word numbers are so much higher than its plain stream's
unfoldable pub by_plain : ℕ → ℕ → List ℕ → Verdict
by_plain shift count w =
    let v = deciding edition1 w in
    record { outcome = placed shift v.outcome; reads = reads_with v.outcome (all_reads count w v.reads) }
