-- How many places are needed, in either spelling. Assumes nothing.
use Prim.Native.Nat.{ℕ, ◌*◌, ◌≤◌}
use native.Mathlib.Nat.{mul-le-mul}
use native.Mathlib.Omega.{arith}
use mathlib.Core.Path.{◌≡◌}
use mathlib.Core.List.{List}
use lib.ListN.{length}
use Rattle.definition.specs.Field.{Spelling, elements_in, four, one, spelling_of, word_count}
use Rattle.list_laws.specs.Zeros.{zeros, length_zeros}
use Rattle.spelling.specs.ByField.{elements_at, words_at}
use Rattle.spelling.specs.Words.{quads_length}

pub most_roots : (n k : ℕ) → n ≤ 48 → k ≤ 16 → n * k ≤ 768
most_roots n k l h = mul-le-mul l h

-- as many elements as words have room for
elements_fit : (σ : Spelling) (n : ℕ) (w : List ℕ) → word_count σ n ≤ length w → n ≤ length (elements_in σ w)
unfolding elements_in word_count
elements_fit one n w h = h
elements_fit four n w h = let e = quads_length w in omega (arith, e, h)

four_most : (σ : Spelling) (n : ℕ) → word_count σ n ≤ 4 * n
unfolding word_count
four_most one n = omega arith
four_most four n = omega arith

-- the places have room for n coins of k roots, and for one
pub room : (field n k size places : ℕ) → k ≤ 16 → 64 ≤ size → places ≡ words_at field (n * k) → places ≤ size →
    (n * k ≤ length (elements_at field (zeros size))) × (k ≤ length (elements_at field (zeros size)))
room field n k size places few large e h =
    let σ = spelling_of field in
    (elements_fit σ (n * k) (zeros size) (omega (arith, length_zeros size, e, h)), elements_fit σ k (zeros size) (omega (arith, length_zeros size, four_most σ k, few, large)))

-- the largest size has room for all
pub most : (field n k places : ℕ) → n ≤ 48 → k ≤ 16 → places ≡ words_at field (n * k) → places ≤ 3072
most field n k places l h e = omega (arith, e, four_most (spelling_of field) (n * k), most_roots n k l h)
