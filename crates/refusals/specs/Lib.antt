-- REFUSED EXACTLY: when prove, encode and the converter refuse, with which number and at which place. Statements and BlockStatements, in ../proofs, are the pages,
-- over the vocabulary InputFaults. Beneath it stand Faults and Numbered of the crate `completeness`, and Levels and PlainRules of the crate `layouts`. The other
-- files are proofs.

-- the vocabulary
pub mod InputFaults
-- counts and rules
pub mod CountsAndRules
-- the coins by part
pub mod CoinParts
