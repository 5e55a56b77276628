pub mod Begun
pub mod Lent
