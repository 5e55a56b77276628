-- SHEETS, LEVELS AND LAYOUTS: what the code needs of them, and the pages of theorems too. Levels, PlainRules, LawfulSheets and KindsAfter are vocabularies, without a
-- lemma or a proof; the others prove what holds of tests, words and single levels. What rests on the rules by word is in ../proofs.

-- the vocabularies
pub mod Levels
pub mod PlainRules
pub mod LawfulSheets
pub mod KindsAfter
-- tests
pub mod Tests
-- how elements are spelt in words
pub mod Spellings
-- the words of a file
pub mod FileWords
pub mod BlockTrip
pub mod FileTrip
pub mod Passed
-- the sheet's rules, and its levels
pub mod LevelSizes
pub mod RootNumbers
pub mod SheetRules
-- the layout: its kinds
pub mod EachWord
pub mod WholeCoins
-- where elements are of one word
pub mod OneWord
