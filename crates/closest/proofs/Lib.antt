-- The turns of the loops, and the report, over any field.
pub mod Counting
pub mod Listing
pub mod Reporting
