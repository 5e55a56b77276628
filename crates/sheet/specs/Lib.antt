pub mod Rules
pub mod Front
