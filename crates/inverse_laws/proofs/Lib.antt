-- THE PAGES, Statements and AsItWas, and what their proofs rest on.

-- the pages
pub mod Statements
pub mod AsItWas
-- each inverse that is asked for is found: in any field with the laws, and in every file and every run
pub mod Found
pub mod FoundInFiles
pub mod FoundByNumber
-- with the field as it was, verify and prove are what they are
pub mod AsBefore
