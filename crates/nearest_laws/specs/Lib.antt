-- THE NEAREST POLYNOMIAL'S THEOREMS (02, CR 14), over the definition: the vocabulary of the page, Statements in ../proofs.
pub mod WrongPoints
