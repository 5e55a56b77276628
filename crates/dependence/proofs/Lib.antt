-- THE PAGE, Statements, and what its proofs rest on.

-- the page
pub mod Statements
-- the premises can be met
pub mod Examples
pub mod ExamplesReordered
-- the words: a file with indices in another order, its verdict, and that there is one
pub mod TurnedWords
pub mod TurnedRun
pub mod TurnedVerdicts
pub mod TurnedFile
-- every place used is listed
pub mod UsedPlaces
