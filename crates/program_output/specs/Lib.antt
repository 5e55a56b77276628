pub mod Output
pub mod AnyOutput
pub mod BatchOutput
pub mod Leaves
