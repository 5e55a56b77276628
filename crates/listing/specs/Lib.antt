pub mod Listing
pub mod Table
