pub mod Forms
pub mod Rows
pub mod Cleared
pub mod Views
pub mod Strengths
pub mod Fracs
pub mod Equality
pub mod FormRows
