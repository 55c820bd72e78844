pub mod Generator
pub mod Leaves
