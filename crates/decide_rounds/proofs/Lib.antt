pub mod Inside
pub mod ReadsGrow
pub mod Outs
pub mod Divisors
pub mod Steps
pub mod Ready
