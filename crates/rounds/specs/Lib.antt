pub mod SamplesIn
pub mod Points
pub mod RoundLaws
pub mod NextRound
