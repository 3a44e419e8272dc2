pub mod NewReferences
pub mod Index
