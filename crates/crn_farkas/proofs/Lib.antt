pub mod Mixing
pub mod Motzkin
