pub mod Inverses
pub mod Numbered
