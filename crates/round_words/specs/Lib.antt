pub mod Handed
pub mod Coins
