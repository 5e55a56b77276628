pub mod NearestInput
pub mod NearestLength
pub mod NearestOutput
