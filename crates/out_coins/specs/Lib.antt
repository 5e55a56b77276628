pub mod Kinds
pub mod Walks
