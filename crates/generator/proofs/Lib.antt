pub mod SeedBytes
