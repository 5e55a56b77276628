-- Elements by the field's number, and lists of words as lists of elements.
pub mod Field3
pub mod ByField
pub mod Words
pub mod Points
