mod Printing
pub mod Tokens
pub mod Left
pub mod Steps
pub mod Found
pub mod Kept
pub mod Readers
pub mod Spells
pub mod Prints
pub mod Spelled
pub mod Sizes
