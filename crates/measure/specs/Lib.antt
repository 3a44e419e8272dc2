pub mod Measured
pub mod Limited
