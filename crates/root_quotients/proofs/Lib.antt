pub mod AtRoots
pub mod FourRoots
pub mod Cases
