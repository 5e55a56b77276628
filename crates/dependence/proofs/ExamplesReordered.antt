-- The premises of the page on files with coins in another order can be met, by those of Examples: of the shift coins and of the final coins.
use Rattle.std.specs.Prelude.{◌<◌, [], ◌∷◌, refl}
use Rattle.std.proofs.Common.{arith}
use mathlib.Core.List.Permᴰ
use Rattle.definition.specs.Sheet.{edition1}
use Rattle.definition.specs.WorkedTranscript.{definitions}
use Rattle.layouts.specs.Levels.{round_count, round_start, rounds_of}
use Rattle.completeness.specs.Faults.{finals, part_length, part_start, part_words, sheet_in, shifts}
use Rattle.dependence.specs.Changes.{Reordered, with_indices}
use Rattle.dependence.proofs.TurnedFile
use Rattle.dependence.proofs.Examples.{examples, failing, first, ordered3}

one_round : 0 < rounds_of (sheet_in edition1 first)
unfolding definitions
one_round = omega arith

pub shifts_reordered : Reordered edition1 first (shifts 0) (with_indices edition1 first (shifts 0) (5 ∷ 0 ∷ []))
unfolding definitions part_words part_start part_length round_start round_count
shifts_reordered = TurnedFile.reordered_file edition1 first (shifts 0) one_round examples.reads_first (5 ∷ 0 ∷ []) (Permᴰ.swap refl refl)

pub finals_reordered : Reordered edition1 failing finals (with_indices edition1 failing finals (2 ∷ 1 ∷ []))
unfolding definitions part_words part_start part_length round_start round_count
finals_reordered = TurnedFile.reordered_file edition1 failing finals tt examples.reads_failing (2 ∷ 1 ∷ []) (Permᴰ.swap refl refl)

pub finals_reordered3 : Reordered edition1 ordered3 finals (with_indices edition1 ordered3 finals (1 ∷ 0 ∷ []))
unfolding definitions part_words part_start part_length round_start round_count
finals_reordered3 = TurnedFile.reordered_file edition1 ordered3 finals tt examples.reads_ordered3 (1 ∷ 0 ∷ []) (Permᴰ.swap refl refl)
