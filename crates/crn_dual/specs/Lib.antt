pub mod Columns
pub mod Layout
pub mod Written
pub mod OnCopies
pub mod Computes
