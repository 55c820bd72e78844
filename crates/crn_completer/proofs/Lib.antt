pub mod Quotients
pub mod Turns
pub mod Fitting
pub mod InTurn
pub mod Confluence
pub mod CompletionCauses
