pub mod Equal
pub mod Answers
pub mod Functions
pub mod Alike
