-- THE PAGES, Statements and DomainStatements, and their proofs.

-- the pages
pub mod Statements
pub mod DomainStatements
-- the rules word by word, and refusal 3
pub mod EachRule
pub mod SheetExactly
pub mod Refusal3
-- the domains, in any field with the laws and on a sheet
pub mod RootsWhole
pub mod Cosets
pub mod SheetDomains
