pub mod Asking
pub mod Rows
pub mod Walking
pub mod Comparing
pub mod SomeAnswer
pub mod OneAnswer
