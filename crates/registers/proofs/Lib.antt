pub mod Shown
pub mod Places
