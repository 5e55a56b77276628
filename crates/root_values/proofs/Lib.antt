pub mod Parts
pub mod Ready
pub mod Dividing
pub mod Cases
