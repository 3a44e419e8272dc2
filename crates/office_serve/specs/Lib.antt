pub mod Serving
pub mod Feeding
