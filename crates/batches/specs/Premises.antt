-- The batch by hand is allowed: two polynomials with bounds 3 and 8, and r = 5. Its reads are 6: two for the shift index in each of the tables, and two for the final index.
use Rattle.std.specs.Prelude.{ℕ, List, [], ◌∷◌, ◌≡◌, refl}
use Rattle.definition.specs.Sheet.{edition1, sheet_of}
use Rattle.definition.specs.WorkedTranscript.{definitions, one_to_eight, sheet_words}
use Rattle.batch_definition.specs.BatchCases.{batch_definitions}
use Rattle.layouts.specs.Levels.{coin_count, coins_before, total}
use Rattle.completeness.specs.Numbered.{final_indices, indices_of, level_reads, shift_indices}
use Rattle.batches.specs.Batched.{AllowedBatch, batch_reads}

abbrev pub sheet : List ℕ
sheet = sheet_words

abbrev pub coefficients : List ℕ
coefficients = 1 ∷ 2 ∷ 3 ∷ one_to_eight

abbrev pub coins : List ℕ
coins = 5 ∷ 2 ∷ 0 ∷ 3 ∷ 4 ∷ 0 ∷ 1 ∷ []

pub by_hand : AllowedBatch sheet (3 ∷ 8 ∷ []) coefficients coins
unfolding definitions batch_definitions
by_hand = record { words = refl; sheet = refl; bounded = refl; coefficients = refl; full = refl; range = refl; outside = refl }

pub reads_by_hand : batch_reads (sheet_of edition1 sheet) 2 coins ≡ 6
unfolding definitions batch_reads level_reads indices_of shift_indices final_indices coins_before coin_count total
reads_by_hand = refl
