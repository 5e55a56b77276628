-- BATCHES REFUSED EXACTLY (02, CR 9): when verify and prove refuse a batch, with which number and at which place. Statements, in ../proofs, is the page, over
-- the vocabulary BatchFaults. Beneath it stand InputFaults of the crate `refusals`, Faults and Numbered of the crate `completeness`, Batched of the crate
-- `batches`, and Levels and PlainRules of the crate `layouts`. The other files are proofs.

-- the vocabulary
pub mod BatchFaults
-- the parts of a batch's stream
pub mod BatchParts
-- what deciding finds in a stream
pub mod DecidedFaults
