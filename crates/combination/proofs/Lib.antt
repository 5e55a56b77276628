-- What each function needs of lists of elements in either spelling.
pub mod Cases
pub mod Tables
pub mod Parts
