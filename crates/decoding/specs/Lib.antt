-- GAO'S DECODER for a Reed-Solomon code, over any field with the laws and any points that are pairwise different: from the key equation to the quotient that is
-- the nearest polynomial, if there is one. And what the definition's search through all polynomials answers.
pub mod Searches
pub mod AllTrue
pub mod GeometricSum
pub mod Errors
pub mod Adding
pub mod Reduction
pub mod Series
pub mod Decoded
pub mod Transform
pub mod Start
pub mod AllElements
pub mod FourPlanes
