pub mod Words
pub mod Grammar
pub mod RunGrammar
pub mod Spelled
pub mod Reading
pub mod Fitting
