-- The types of expressions, and the rules of types.
pub mod TypeRows
pub mod TermSignatures
pub mod SignatureRows
pub mod MirroredTypes
pub mod WalkedTypes
pub mod Specializations
pub mod FittedTypes
pub mod TypedSpecializations
pub mod SingleCalls
pub mod OperandTypes
pub mod PositiveTypes
pub mod FoundTypes
pub mod SharedTypes
