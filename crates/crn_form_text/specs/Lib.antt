pub mod Grammar
pub mod Reading
pub mod Built
pub mod Shown
pub mod Printing
pub mod Written
pub mod Parsed
