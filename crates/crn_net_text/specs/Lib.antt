pub mod NetworkText
pub mod Grammar
pub mod Reading
