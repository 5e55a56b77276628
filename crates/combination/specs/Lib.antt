-- The combination of a batch: what its functions ask, and its laws from the last part to the first.
pub mod Asked
pub mod Added
pub mod LastToFirst
