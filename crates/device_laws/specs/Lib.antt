-- THE DEVICE'S THEOREMS (02, CR 10), over the definition: Events is the vocabulary of the page, Statements in ../proofs.
pub mod Events
pub mod Coins
pub mod FoldPlaces
pub mod Running
