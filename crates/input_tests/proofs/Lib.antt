pub mod Range
pub mod Stages
