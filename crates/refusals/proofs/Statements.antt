-- THE PAGE ON REFUSALS. Document 01: "Every operation makes its tests in the order given here and stops at the first that fails; within one test the
-- first faulty place counts." Of verify this is `refused_exactly` of the page Verdicts (crate `completeness`); here it is of encode, and on the page
-- BlockStatements.antt of the operations that write blocks. It holds theorems and nothing else; each proof is one citation.
-- To read it: the definition (crate `definition`) and the vocabulary InputFaults.antt, which has the tests of each operation as a row and says by
-- number what a fault of each is, with Faults.antt and Numbered.antt of the crate `completeness` and Levels.antt and PlainRules.antt of the crate
-- `layouts` beneath it.
-- All theorems are of every list of words, of any length and content, and of both spellings; encode's are of edition 1, whose sheets it takes.
use Rattle.std.specs.Prelude.{ℕ, ◌+◌, ◌<◌, List, ◌↔◌, ◌≡◌, length}
use Rattle.definition.specs.Prove.{done, encode, refusal}
use Rattle.definition.specs.Sheet.{Edition, Sheet, edition1, sheet_of}
use Rattle.layouts.specs.Levels.{words_for}
use Rattle.completeness.specs.Faults.{Part, part_length}
use Rattle.refusals.specs.CoinParts
use Rattle.refusals.proofs.EncodeRefused
use Rattle.refusals.proofs.InOrder
use Rattle.refusals.specs.InputFaults.{CoinPart, FirstFailure, NoFailure, Test, coin_start, coins_due, encode_row, test_at}

-- 1. REFUSED EXACTLY. An operation refuses with number n and place q exactly when the first fault of its row of tests is of number n and at place q.
-- Encode (document 01: "Refusals in order: 10 (place 0), 3, 10 (place 1), 5, 11 (n0)").
pub encode_refused_exactly : (w f output : List ℕ) (n q : ℕ) → ((encode w f output).answer ≡ refusal n q) ↔ FirstFailure edition1 (encode_row w f output) n q
encode_refused_exactly = EncodeRefused.encode_refused_exactly

-- No other number: a first fault is of one of the row's tests, and has that test's number.
pub of_row : (ed : Edition) (tests : List Test) (n q : ℕ) → FirstFailure ed tests n q → (t : ℕ) × (t < length tests) × ((test_at tests t).number ≡ n)
of_row = InOrder.of_row

-- 2. DONE EXACTLY (document 01, of encode: "the number n0"). An operation is done exactly when no test of its row has a fault, and then with the size
-- due.
pub encode_done_exactly : (w f output : List ℕ) (n : ℕ) →
    ((encode w f output).answer ≡ done n) ↔ ((n ≡ words_for (sheet_of edition1 w) (sheet_of edition1 w).size) × NoFailure (encode_row w f output))
encode_done_exactly = EncodeRefused.encode_done_exactly

-- 3. WHAT STANDS IN A COIN LIST (document 01: "A coin list has them in this order"). Every position of a full one is that of a word of a part, and
-- every word of a part has one.
pub every_coin_in_part : (h : Sheet) (n : ℕ) → n < coins_due h → (x : Part) × CoinPart h x × ((j : ℕ) × (j < part_length h x) × (n ≡ coin_start h x + j))
every_coin_in_part = CoinParts.every_coin

pub part_among_coins : (h : Sheet) (x : Part) → CoinPart h x → (j : ℕ) → j < part_length h x → coin_start h x + j < coins_due h
part_among_coins = CoinParts.coin_below
