pub mod Leaves
pub mod Laying
pub mod LayoutLaws
pub mod Sizes
pub mod Loops
pub mod Compiling
pub mod Counts
