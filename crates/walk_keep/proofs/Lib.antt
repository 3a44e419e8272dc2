pub mod Keeping
pub mod Insertion
pub mod Places
pub mod Admitting
pub mod Walks
pub mod Stepping
pub mod SkipLaws
pub mod LimitLaws
