-- THE PAGE ON WHAT A VERDICT MAY DEPEND ON (02, CR 12). It holds theorems and nothing else; each proof is one citation.
-- To read it: the definition (crate `definition`) and the vocabularies Changes.antt, here, and Numbered.antt and Faults.antt of the crate `completeness`.
-- All theorems are of both editions and of every list of bytes.
use Rattle.std.specs.Prelude.{ℕ, ◌<◌, ◌↔◌, ◌≡◌}
use mathlib.Core.List.{List, Permᴰ}
use Rattle.definition.specs.Block.{stream_of}
use Rattle.definition.specs.Deciding.{reads_of}
use Rattle.definition.specs.Reading.{reading}
use Rattle.definition.specs.Sheet.{Edition}
use Rattle.definition.specs.Verdict.{accepted, refused}
use Rattle.definition.specs.Verify.{verify_in}
use Rattle.layouts.specs.Levels.{rounds_of}
use Rattle.completeness.specs.Faults.{Part, SameOutside, part_words, sheet_in, shifts}
use Rattle.dependence.specs.Changes.{Indices, Reordered, SameAt, places_used, with_indices}
use Rattle.dependence.proofs.TurnedFile
use Rattle.dependence.proofs.TurnedVerdicts
use Rattle.dependence.proofs.UsedPlaces

-- 1. DEPENDENCE. Two files that pass reading, with the same words outside the tables and the same table entries at every place that deciding uses in the first, get
-- the same verdict, outcome and reads.
pub dependence : (ed : Edition) (x y : List ℕ) → reading ed x ≡ accepted → reading ed y ≡ accepted → SameOutside ed (sheet_in ed x) (stream_of x) (stream_of y) →
    SameAt ed (sheet_in ed x) (places_used ed x) (stream_of x) (stream_of y) → verify_in ed x ≡ verify_in ed y
dependence = UsedPlaces.dependence

-- These places are the ones that the reads count.
pub places_counted : (ed : Edition) (x : List ℕ) → reading ed x ≡ accepted → (verify_in ed x).reads ≡ reads_of (places_used ed x)
places_counted = UsedPlaces.used_counted

-- 2. REORDERING. In a file that passes reading, another order of the shift coins of a round or of the final coins, with the block checks made right again, turns neither
-- accepted into refused nor refused into accepted.
pub reordering : (ed : Edition) (x y : List ℕ) (part : Part) → reading ed x ≡ accepted → Indices (sheet_in ed x) part → Reordered ed x part y →
    ((verify_in ed x).outcome ≡ accepted) ↔ ((verify_in ed y).outcome ≡ accepted)
reordering = TurnedVerdicts.reordering

-- The other file passes reading too;
pub reordered_reads : (ed : Edition) (x y : List ℕ) (part : Part) → reading ed x ≡ accepted → Indices (sheet_in ed x) part → Reordered ed x part y → reading ed y ≡ accepted
reordered_reads = TurnedVerdicts.reordered_reads

-- with shift coins in another order the whole verdict stays, number, place and reads;
pub reordered_shifts : (ed : Edition) (x y : List ℕ) (i : ℕ) → reading ed x ≡ accepted → i < rounds_of (sheet_in ed x) → Reordered ed x (shifts i) y → verify_in ed x ≡ verify_in ed y
reordered_shifts = TurnedVerdicts.reordered_shifts

-- with final coins too, but where it is a 9, whose place may move.
pub reordered_same : (ed : Edition) (x y : List ℕ) (part : Part) → reading ed x ≡ accepted → Indices (sheet_in ed x) part → Reordered ed x part y →
    ((q : ℕ) → (verify_in ed x).outcome ≡ refused 9 q → ⊥) → verify_in ed x ≡ verify_in ed y
reordered_same = TurnedVerdicts.reordered_same

-- Every order has such a file.
pub reordered_file : (ed : Edition) (x : List ℕ) (part : Part) → Indices (sheet_in ed x) part → reading ed x ≡ accepted → (js : List ℕ) → Permᴰ (part_words ed (sheet_in ed x) (stream_of x) part) js →
    Reordered ed x part (with_indices ed x part js)
reordered_file = TurnedFile.reordered_file
