pub mod Table
pub mod Part
pub mod Limits
pub mod Reading
pub mod Followed
