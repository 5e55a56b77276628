-- THEOREMS ON THE SHEET, on two pages in ../proofs: Statements, the rule of each word in plain numbers and the first that is broken, over the vocabulary WordRules; and
-- DomainStatements, what its domains are, over DomainPoints.
pub mod WordRules
pub mod DomainPoints
