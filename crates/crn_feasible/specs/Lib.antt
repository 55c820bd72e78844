pub mod Elimination
pub mod Steps
pub mod Chosen
pub mod Answers
pub mod Sparse
pub mod Signs
