pub mod Numbers
pub mod Lists
pub mod Units
pub mod Steps
pub mod Multiples
pub mod Firsts
pub mod Points
pub mod OwnDomains
