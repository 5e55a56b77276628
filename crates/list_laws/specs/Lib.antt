-- LAWS OF LISTS AND TESTS that the toolchain's library lacks: of each element, of ranges, of members, of chunks, of the first test that is true, and of what stores
-- leave in a list.
pub mod All
pub mod Lists
pub mod Booleans
pub mod First
pub mod Members
pub mod NumberedParts
pub mod Chunks
-- what loops leave in a list that they store to
pub mod Overwriting
pub mod Filled
pub mod Backwards
pub mod LentParts
pub mod Zeros
