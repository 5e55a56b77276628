-- THE VOCABULARY OF THE PAGE ON REFUSALS: the tests of prove, encode and the converter in the order in which they are made, and what a fault of
-- each is, by number. It holds no lemma and no proof. A file's faults, a broken rule, the parts of a stream with their lengths and limits, and the
-- turns of places are verify's, of Faults (crate `completeness`); a sheet h has the levels and rounds of Levels (crate `layouts`). Lengths and
-- positions count words; files, and outputs that take blocks, are of bytes.
use Rattle.std.specs.Prelude.{ℕ, zero, suc, ◌+◌, ◌*◌, ◌≤◌, ◌<◌, List, [], ◌∷◌, ◌≡◌, length, get_or}
use Rattle.definition.specs.Block.{block_count, stream_of}
use Rattle.definition.specs.Domain.{point}
use Rattle.definition.specs.Sheet.{Edition, Sheet, edition1, edition2, sheet_length, sheet_of}
use Rattle.layouts.specs.Levels.{coins_before, element_at, level_of, out_coin_count, rounds_of, sheet_field, sheet_root, words_for}
use Rattle.completeness.specs.Faults.{BlocksFault, CheckFault, FillFault, LengthFault, NoFault, Part, RangeFault, RuleFault, combination, due_of, finals, fold, outs, part_length, part_limit, sheet_in, shifts, turn_of, words}

-- TESTS IN A ROW. A test has the number of its refusal, and says of each place whether there is a fault.
pub record Test : Type 1 where
  pub number : ℕ
  pub Fault : ℕ → Type 0

abbrev pub test : ℕ → (ℕ → Type 0) → Test
test number Fault = record { number = number; Fault = Fault }

-- test t of a row, from 0; past the last there is none with a fault
abbrev pub test_at : List Test → ℕ → Test
test_at tests t = get_or tests t (test 0 NoFault)

-- The first fault of a row is of number n and at place q: some test of number n has a fault there, that test has none at a place of an earlier
-- turn, and no test before it has any. (Places go up, but for the words of a sheet, which have turns of their own.)
pub record FirstFailure (ed : Edition) (tests : List Test) (n q : ℕ) : Type 0 where
  pub at : ℕ
  pub number_is : (test_at tests at).number ≡ n
  pub there : (test_at tests at).Fault q
  pub place_first : (r : ℕ) → turn_of ed n r < turn_of ed n q → (test_at tests at).Fault r → ⊥
  pub test_first : (t r : ℕ) → t < at → (test_at tests t).Fault r → ⊥

-- no test of a row has a fault
abbrev pub NoFailure : List Test → Type 0
NoFailure tests = (t q : ℕ) → (test_at tests t).Fault q → ⊥

-- THE COINS BY PART. A part of the stream that is of coins, and the position of its first word in the coin list; the number of words of the coins due.
abbrev pub CoinPart : Sheet → Part → Type 0
CoinPart h (words m) = ⊥
CoinPart h (outs i) = i < rounds_of h
CoinPart h (combination i) = i < rounds_of h
CoinPart h (fold i) = i ≤ rounds_of h
CoinPart h (shifts i) = i < rounds_of h
CoinPart h finals = Unit {0}

unfoldable pub coin_start : Sheet → Part → ℕ
coin_start h (words m) = 0
coin_start h (outs i) = coins_before h (suc i)
coin_start h (combination i) = coins_before h (suc i) + words_for h (out_coin_count h)
coin_start h (fold zero) = 0
coin_start h (fold (suc i)) = coins_before h (suc i) + words_for h (out_coin_count h + 1)
coin_start h (shifts i) = coins_before h (suc i) + words_for h (out_coin_count h + 2)
coin_start h finals = coins_before h (suc (rounds_of h))

abbrev pub coins_due : Sheet → ℕ
coins_due h = coin_start h finals + part_length h finals

-- THE FAULTS, each as what it is to be one at place q. 10: a list has not the number of words due; sheet, coefficients and coins have a place each.
abbrev pub CountFault : ℕ → ℕ → List ℕ → ℕ → Type 0
CountFault place due list q = (q ≡ place) × (length list ≡ due → ⊥)

-- 5: word q of the coefficients is p or more,
abbrev pub CoefficientFault : Sheet → List ℕ → ℕ → Type 0
CoefficientFault h f q = (q < length f) × (h.prime ≤ get_or f q 0)

-- or, in the coefficients followed by the coins, word j of a part of the coins is not below its limit
pub data InputFault (h : Sheet) (f coins : List ℕ) (q : ℕ) : Type 0 where
  coefficient : CoefficientFault h f q → InputFault h f coins q
  coin : (x : Part) → CoinPart h x → (j : ℕ) → j < part_length h x → q ≡ length f + (coin_start h x + j) → part_limit h x ≤ get_or coins (coin_start h x + j) 0 → InputFault h f coins q

-- 7: position q in the coins is the first word of out coin j of round i + 1, which is point m of domain i + 1
abbrev pub CoinDomainFault : Sheet → List ℕ → ℕ → Type 0
CoinDomainFault h coins q =
    (i : ℕ) × (i < rounds_of h) × ((j : ℕ) × (j < out_coin_count h) × (q ≡ coin_start h (outs i) + words_for h j)
    × ((m : ℕ) × (m < (level_of h (suc i)).size) × (element_at h.spelling coins q ≡ point (sheet_field h) (sheet_root h) (level_of h (suc i)) m)))

-- 14: position q in the coins is the first word of out coin j of round i + 1, which is equal to out coin a before it
abbrev pub CoinEqualFault : Sheet → List ℕ → ℕ → Type 0
CoinEqualFault h coins q =
    (i : ℕ) × (i < rounds_of h) × ((j : ℕ) × (j < out_coin_count h) × (q ≡ coin_start h (outs i) + words_for h j)
    × ((a : ℕ) × (a < j) × (element_at h.spelling coins q ≡ element_at h.spelling coins (coin_start h (outs i) + words_for h a))))

-- 13: k_i, for an i up to M, is not k_0
abbrev pub FoldFault : Sheet → ℕ → Type 0
FoldFault h i = (i ≤ rounds_of h) × ((level_of h i).fold ≡ (level_of h 0).fold → ⊥)

-- 11: the output has less than it needs; the place is the size due
abbrev pub OutputFault : ℕ → ℕ → List ℕ → ℕ → Type 0
OutputFault due need output q = (q ≡ due) × (length output < need)

-- the blocks due under an edition
abbrev pub blocks_due : Edition → Sheet → ℕ
blocks_due ed h = block_count (due_of ed h)

-- THE TESTS OF EACH OPERATION, in their order. Prove, of sheet, coefficients, coins and output bytes;
abbrev pub prove_row : Edition → List ℕ → List ℕ → List ℕ → List ℕ → List Test
prove_row ed w f coins output =
    let h = sheet_of ed w in
    test 10 (CountFault 0 (sheet_length ed) w) ∷ test 3 (RuleFault ed w) ∷ test 10 (CountFault 1 (words_for h h.degree) f) ∷ test 10 (CountFault 2 (coins_due h) coins)
    ∷ test 5 (InputFault h f coins) ∷ test 7 (CoinDomainFault h coins) ∷ test 14 (CoinEqualFault h coins) ∷ test 11 (OutputFault (blocks_due ed h) (512 * blocks_due ed h) output) ∷ []

-- encode, of a sheet of edition 1, coefficients and output words;
abbrev pub encode_row : List ℕ → List ℕ → List ℕ → List Test
encode_row w f output =
    let h = sheet_of edition1 w in
    test 10 (CountFault 0 12 w) ∷ test 3 (RuleFault edition1 w) ∷ test 10 (CountFault 1 (words_for h h.degree) f) ∷ test 5 (CoefficientFault h f)
    ∷ test 11 (OutputFault (words_for h h.size) (words_for h h.size) output) ∷ []

-- and the converter, of a file and output bytes: those of verify up to 6, and then its own.
abbrev pub reading_row : Edition → List ℕ → List Test → List Test
reading_row ed file after =
    test 1 (LengthFault file) ∷ test 2 (CheckFault file) ∷ test 3 (RuleFault ed (stream_of file)) ∷ test 4 (BlocksFault ed file)
    ∷ test 5 (RangeFault ed (sheet_in ed file) (stream_of file)) ∷ test 6 (FillFault ed file) ∷ after

abbrev pub to_edition2_row : List ℕ → List ℕ → List Test
to_edition2_row file output =
    let due = blocks_due edition2 (sheet_in edition1 file) in
    reading_row edition1 file (test 11 (OutputFault due (512 * due) output) ∷ [])

abbrev pub to_edition1_row : List ℕ → List ℕ → List Test
to_edition1_row file output =
    let due = blocks_due edition1 (sheet_in edition2 file) in
    reading_row edition2 file (test 13 (FoldFault (sheet_in edition2 file)) ∷ test 11 (OutputFault due (512 * due) output) ∷ [])
