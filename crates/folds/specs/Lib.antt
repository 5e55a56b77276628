pub mod PointsIn
pub mod Halving
pub mod HalvingLaw
pub mod FoldLaw
pub mod OneHalf
