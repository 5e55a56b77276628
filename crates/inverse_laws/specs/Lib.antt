-- NO INVERSE FOR ZERO (02, CR 3): nothing in verify and prove asks for an inverse that is not there, and with the inverse as it was they are what they are.
-- A reader needs two vocabularies, TakenApart and Before, and the pages in ../proofs, Statements and AsItWas; the others are their proofs.

-- the vocabularies
pub mod TakenApart
pub mod Before
-- the field as it was: all that is asked of it is the same
pub mod SameOperations
