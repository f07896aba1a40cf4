pub mod Steps
pub mod StepsSound
pub mod StepsComplete
pub mod Scopes
pub mod FromSteps
pub mod ToSteps
pub mod Whole
