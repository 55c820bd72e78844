pub mod Formulas
pub mod Pieces
pub mod Functions
pub mod Domains
pub mod Views
pub mod Answers
pub mod Numbers
