-- The pages, and the proofs that a must-fail edit of a definition or of a theorem beneath refutes; other crates cite them from here.

-- the pages
pub mod Statements
pub mod TheRun
pub mod FieldsAndLoad
pub mod Verdicts
pub mod Editions
pub mod ConvertedVerdicts
-- domains; the coins that are allowed; nothing is divided by 0
pub mod ValuesApart
pub mod Domains
pub mod AdmissibleCoins
pub mod Allowed
pub mod Divisors
-- the honest file is accepted, and the premises can be met
pub mod ReadsCounted
pub mod Completeness
pub mod ProveAccepted
pub mod Premises
pub mod LoadAllowed
-- rounds, messages and domains by number
pub mod DomainsByNumber
pub mod FairRounds
pub mod RunByNumber
pub mod StreamByNumber
pub mod FunctionsByNumber
pub mod NonAnticipation
-- verify exactly
pub mod VerifyExactly
pub mod AcceptedExactly
-- the answers that exist; encode; and what a verdict depends on
pub mod Answers
pub mod TwoSteps
pub mod EncodeExactly
pub mod Dependence
pub mod SameVerdict
pub mod Places
pub mod ReadsByNumber
-- edition 1 in its own terms, and the converter
pub mod EditionOne
pub mod Conversion
pub mod Converter
