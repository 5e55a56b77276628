pub mod Half
pub mod Turns
