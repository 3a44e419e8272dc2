pub mod Numbers
pub mod Asked
pub mod Page
pub mod Kept
pub mod Skips
