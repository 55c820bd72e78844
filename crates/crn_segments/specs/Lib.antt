pub mod Fits
pub mod Signs
pub mod Flows
pub mod Step
pub mod Causes
pub mod Steps
pub mod Sums
pub mod Progress
