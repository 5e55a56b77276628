-- Division by many points at once, by sums of products; and lists walked from their back to their front.
pub mod BackToFront
pub mod LongDivision
