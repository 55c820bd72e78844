pub mod Words
pub mod Columns
pub mod Spelled
pub mod Grammar
pub mod Reading
pub mod Two
pub mod Printing
