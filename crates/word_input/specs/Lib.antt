pub mod Input
pub mod WordLaws
pub mod InputWords
