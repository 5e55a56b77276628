pub mod Pairs
pub mod Vanishing
pub mod Inverses
