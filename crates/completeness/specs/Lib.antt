-- THEOREMS over the written definition. The pages are in ../proofs: Statements, on completeness, with TheRun and FieldsAndLoad, which go on from it, over the vocabulary
-- Numbered; Verdicts, on verify, over Numbered and Faults; and Editions, on the two editions and the converter, with ConvertedVerdicts, over both. Beneath these
-- vocabularies stand two of the crate `layouts`: Levels, a sheet's levels by number, and PlainRules, its rules in plain numbers. A reader needs these ten files. The
-- others, here and in ../proofs, are their proofs.

-- the vocabularies
pub mod Numbered
pub mod Faults
-- the sheet's field has what a run needs
pub mod Ready
-- the places that coins lead to, counted
pub mod Openings
-- in any field with the laws: deciding accepts honest transcripts; one round; and a party that sends and asks
pub mod DistinctPoints
pub mod DecidingAccepts
pub mod RoundPolynomials
pub mod Causal
-- the words: their file and their kinds
pub mod FileRead
pub mod EqualOuts
-- elements of four words
pub mod FourWords
-- the honest file
pub mod RoundTrip
pub mod HonestStream
-- coins and the layout by number
pub mod CoinsByNumber
pub mod LayoutByNumber
-- verify exactly: the first fault; a file's words, parts and pairs by number; the tests one by one
pub mod FirstFaults
pub mod FileByNumber
pub mod PartsByNumber
pub mod PairsByNumber
pub mod DecidedByNumber
pub mod TestsByNumber
pub mod OutCoinsByPlace
pub mod OutsByNumber
-- a file's words under a sheet of the other edition
pub mod FileBack
pub mod FrontOfStream
pub mod Spread
pub mod Carried
