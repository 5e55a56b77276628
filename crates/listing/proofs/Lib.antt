pub mod TableLaws
pub mod Tested
pub mod Writing
