pub mod GatesCommand
pub mod RunCommand
