-- Table 0 from the table of points, and what the table's function asks of it.
use Prim.Native.Nat.{ℕ, suc, ◌*◌, ◌≤◌, ◌<◌}
use native.Mathlib.Omega.{arith}
use mathlib.Core.Path.{◌≡◌, refl, sym, ap, ◌∙◌}
use mathlib.Core.List.{List}
use lib.ListN.{length, get_or}
use Rattle.definition.specs.Field.{elements_in, spelling_of, word_count, words_of}
use Rattle.definition.specs.Prover.{table_words}
use Rattle.definition.specs.Reading.{sheet_test}
use Rattle.definition.specs.Sheet.{edition1, first_level, root_of_unity, sheet_of}
use Rattle.definition.specs.Verdict as definition
use Rattle.layouts.proofs.Lawful.{lawful}
use Rattle.layouts.specs.Spellings.{read_length, words_read}
use Rattle.domain.specs.Powers.{Powers}
use Rattle.plane_tables.specs.FourTable.{DomainTableAt}
use Rattle.tables.specs.Halving.{Halves}

-- the number of words of n elements of the sheet's field, and the elements that words spell in it
abbrev words_in : List ℕ → ℕ → ℕ
words_in w n = word_count (spelling_of (get_or w 0 0)) n

abbrev count : List ℕ → List ℕ → ℕ
count w v = length (elements_in (spelling_of (get_or w 0 0)) v)

-- what the table's function asks, of a sheet that passes: d0 and n0 are powers of two, and d0 is the smaller; n0 points; and places for n0 elements
pub asked : (w f out : List ℕ) {points : ℕ} → 12 ≤ length w → sheet_test edition1 w ≡ definition.accepted → length f ≡ words_in w (get_or w 2 0) → length out ≡ words_in w (get_or w 1 0) → points ≡ get_or w 1 0 →
    Halves (count w f) (count w out) × (((0 < 1) × (1 * count w out ≡ points)) × ((length out ≡ words_in w (count w out)) × (length out ≤ 4096)))
unfolding sheet_of
asked w f out long passed ef eo exact =
    let x = lawful edition1 w long passed in
    let d = read_length (spelling_of (get_or w 0 0)) (get_or w 2 0) f ef in
    let n = read_length (spelling_of (get_or w 0 0)) (get_or w 1 0) out eo in (
      record { log = x.b; log_size = suc x.a; count_is = d ∙ x.degree; size_is = n ∙ x.size; fits = omega (arith, x.below) },
      ((omega arith, omega (arith, n, exact)), (eo ∙ ap (words_in w) (sym n), omega (arith, eo, x.words))),
    )

pub table_zero : (w f pw out₀ out : List ℕ) → Powers (get_or w 0 0) (root_of_unity (sheet_of edition1 w)) pw → length out₀ ≡ words_in w (get_or w 1 0) → length out ≡ length out₀ → DomainTableAt (get_or w 0 0) f pw 1 (count w out₀) out → out ≡ table_words (sheet_of edition1 w) f
unfolding sheet_of first_level table_words
table_zero w f pw out₀ out powers whole same table =
    let σ = spelling_of (get_or w 0 0) in
    sym (words_read σ (get_or w 1 0) out (same ∙ whole))
    ∙ ap (words_of σ) (table (root_of_unity (sheet_of edition1 w)) (first_level (sheet_of edition1 w)) powers refl (sym (read_length σ (get_or w 1 0) out₀ whole)))
