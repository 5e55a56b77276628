pub mod State
pub mod Inside
pub mod Words
pub mod Reads
