pub mod Tokenizing
pub mod Words
pub mod Lengths
pub mod Sound
pub mod Complete
pub mod Trees
