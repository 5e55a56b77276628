pub mod OutCoin
pub mod AtLevel
