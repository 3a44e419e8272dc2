pub mod BuiltNodes
pub mod Soundness
