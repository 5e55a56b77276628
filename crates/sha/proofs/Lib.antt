pub mod WordBytes
