pub mod Lending
pub mod Ran
pub mod Records
pub mod ReplayExamples
pub mod WholeOutput
