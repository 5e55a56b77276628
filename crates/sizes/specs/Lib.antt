pub mod OneBit
pub mod Degrees
pub mod Words
