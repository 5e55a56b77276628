pub mod Inputs
pub mod LineLaws
