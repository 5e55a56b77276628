-- THE PAGE, Statements, and what its proofs rest on.
pub mod Statements
pub mod Histories
pub mod Quiet
pub mod Runs
