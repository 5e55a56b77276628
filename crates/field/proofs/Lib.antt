pub mod Modular
pub mod ByNumber
pub mod Euclid
