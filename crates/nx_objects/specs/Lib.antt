pub mod Tables
pub mod Living
pub mod Rows
