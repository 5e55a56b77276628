pub mod Combining
pub mod Joined
pub mod Stages
