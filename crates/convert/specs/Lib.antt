-- The converter: the words to write, and what its tests say of the definition's result.
pub mod Stages
pub mod Ways
