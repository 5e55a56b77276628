pub mod DecidedSizes
pub mod FirstLaws
pub mod JudgedLaws
pub mod Verdicts
pub mod FileLaws
pub mod ReadLaws
