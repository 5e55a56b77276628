-- The blocks of a file as the loops go through them: their checks, what loading leaves, and sealing.
pub mod Checks
pub mod Loaded
pub mod WrittenBlocks
