pub mod First
pub mod Outs
pub mod Ready
