pub mod Made
pub mod Ready
