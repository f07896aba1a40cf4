-- The path of one program from its text to its report, until the crates from C to the kernel take its place.
pub mod BootedRuns
pub mod Compiled
pub mod ExpectedRuns
pub mod Inputs
pub mod IsCompiled
pub mod Layout
pub mod Program
pub mod ProgramReading
pub mod ReportOf
