pub mod Kinds
pub mod Invariant
pub mod Sizes
