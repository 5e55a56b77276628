pub mod BatchInput
pub mod BatchWords
pub mod BatchLength
