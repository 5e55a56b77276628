-- THE PAGE, Statements, and what its proofs rest on.

-- the page
pub mod Statements
-- refusal 15
pub mod BoundsByNumber
-- the operations
pub mod VerifyBatchRefused
pub mod ProveBatchRefused
