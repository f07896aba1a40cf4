pub mod Trees
pub mod Statements
pub mod TypedStatements
pub mod Declarations
pub mod Contexts
pub mod Functions
pub mod TypedFunctions
