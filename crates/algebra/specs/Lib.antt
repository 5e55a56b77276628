-- Algebra over the definition's own operations and polynomials: fields on words, polynomials as coefficient lists, roots of unity, the three prime
-- fields, and the field of four words over one of them. A lemma takes a field F, and its laws L where it uses them.
-- fields, and a solver for identities in them
pub mod Laws
pub mod RingLaws
pub mod NormalForm
pub mod Solver
pub mod SolverExamples
pub mod Different
-- polynomials
pub mod Lengths
pub mod Evaluation
pub mod Division
pub mod Interpolation
pub mod Coefficients
pub mod Correction
pub mod Folding
-- roots of unity, and the prime fields
pub mod RootsOfUnity
pub mod ModularArithmetic
pub mod Primes
pub mod Fermat
pub mod BinaryDigits
pub mod PowerBySquaring
pub mod PrimeField
pub mod PowerLoop
pub mod Divisors
pub mod PublicInverse
pub mod PublicPower
-- elements of four words
pub mod Quadratic
pub mod Quartic
pub mod Field3
pub mod FieldIn
pub mod PublicField3
pub mod InDomain
pub mod Planes
