-- THE PAGES, Statements and BlockStatements, and what their proofs rest on.

-- the pages
pub mod Statements
pub mod BlockStatements
-- tests in a row find the first fault
pub mod InOrder
-- the operations
pub mod EncodeRefused
pub mod ProveRefused
pub mod ConverterRefused
