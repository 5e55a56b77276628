-- What holds of every sheet that keeps its rules, and of its layout; other crates cite it from here.

-- the sheet's rules, and its levels
pub mod LevelsByNumber
pub mod RulesByWord
pub mod PlainSheet
pub mod SheetByWord
pub mod Lawful
pub mod SheetLevels
-- the layout: its kinds, its rounds, and its size
pub mod LayoutFacts
pub mod CoinsAfter
pub mod LayoutByRound
pub mod DueSizes
pub mod FileSize
