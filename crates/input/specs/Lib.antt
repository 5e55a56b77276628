pub mod Count
pub mod Told
