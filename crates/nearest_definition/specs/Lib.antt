-- THE WRITTEN DEFINITION OF THE NEAREST POLYNOMIAL to a table (02, CR 14), over the definition of plain files.
pub mod Nearest
-- Cases: theorems by computation, and no part of the definition.
pub mod NearestCases
