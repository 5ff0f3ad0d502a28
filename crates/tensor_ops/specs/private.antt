-- Definitions that only this crate's private clauses and proofs cite.
pub mod ContractedRuns
pub mod FirstRun
pub mod InRuns
pub mod Meaning
pub mod Operand
pub mod OperandRows
pub mod LineResults
pub mod Lowering
pub mod Reduced
pub mod Root
pub mod Runs
pub mod Sinking
pub mod Starts
pub mod Windows
pub mod ValueRuns
