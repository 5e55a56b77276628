pub mod KindsDrawn
pub mod Joins
