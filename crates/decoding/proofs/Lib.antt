-- The decoder and the definition's search answer the same.
pub mod Exactly
