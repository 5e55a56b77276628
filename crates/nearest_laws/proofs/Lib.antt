-- THE PAGE, and its proofs.
pub mod Statements
pub mod NearestExactly
