pub mod Coins
pub mod Stages
