-- What the proofs of several functions use, and what the layers above use of new references.
pub mod EachTested
pub mod Among
pub mod Chains
pub mod Windows
pub mod EnteredOnce
