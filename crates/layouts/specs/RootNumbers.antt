-- A shift point has k roots, which are points of its level by number.
use Rattle.std.specs.Prelude.{ℕ, ◌+◌, ◌*◌, ◌<◌, ◌≡◌, length, get_or}
use Rattle.std.proofs.Common.{zero-add, ap, ◌∙◌}
use Rattle.std.proofs.lemmas.List.{length-map}
use Rattle.definition.specs.Domain.{root_numbers}
use Rattle.definition.specs.Lists.{range}
use Rattle.definition.specs.Sheet.{Level, shift_count}
use Rattle.list_laws.specs.Lists.{get_d_map_range, range_length}

pub roots_length : (b : Level) (j : ℕ) → length (root_numbers b j) ≡ b.fold
unfolding root_numbers
roots_length b j = length-map (range 0 b.fold) _ ∙ range_length 0 b.fold

pub root_number : (b : Level) (j m : ℕ) → m < b.fold → get_or (root_numbers b j) m 0 ≡ j + m * shift_count b
unfolding root_numbers
root_number b j m h = get_d_map_range (λ n. j + n * shift_count b) 0 0 b.fold m h ∙ ap (λ (n : ℕ). j + n * shift_count b) (zero-add m)
