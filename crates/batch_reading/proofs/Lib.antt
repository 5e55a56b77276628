pub mod NumberLaws
pub mod Values
pub mod PlainLaws
pub mod StageLaws
