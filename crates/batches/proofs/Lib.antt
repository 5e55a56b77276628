-- THE PAGE, Statements, and what its proofs rest on; other crates cite it from here.

-- the page
pub mod Statements
-- in any field with the laws: the combination, and deciding accepts honest batches
pub mod Combination
pub mod BatchAccepts
-- the words: the premises word by word, the honest stream
pub mod AllowedBatches
pub mod BatchStream
-- the honest file is accepted, and the answers that exist
pub mod BatchCompleteness
pub mod BatchAnswers
-- a batch by a plain run: its verdict, and what code that stands on the plain verifier and prover needs
pub mod PlainStream
pub mod PlainBody
pub mod BatchSizes
pub mod PlainVerdict
pub mod PlainProver
pub mod ProverTests
