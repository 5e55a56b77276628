-- THE WRITTEN DEFINITION OF BATCHES (02, CR 9): several polynomials in one run, over the definition of plain files.
pub mod Batch
-- Cases: theorems by computation, and no part of the definition.
pub mod BatchCases
