pub mod Sittings
pub mod Session
