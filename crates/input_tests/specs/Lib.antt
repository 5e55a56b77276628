pub mod OneByOne
pub mod Places
