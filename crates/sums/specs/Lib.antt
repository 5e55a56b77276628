-- Sums of products, zeros at the end of coefficient lists, and the values at the k roots of a point.
pub mod ZeroPadding
pub mod Primes
pub mod Sums
pub mod Residues
pub mod AtRoots
