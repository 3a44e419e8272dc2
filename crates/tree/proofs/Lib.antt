-- What the proofs of several functions use, and what the layers above use of the nodes and the tables.
pub mod Reading
pub mod OneEntering
pub mod Descent
pub mod Stores
pub mod Links
pub mod Keeping
pub mod NodesInUse
pub mod Building
pub mod SameDistances
pub mod PointsInMemory
pub mod Front
pub mod TestedTables
pub mod ClaimsInMemory
pub mod Adding
pub mod RunLaws
pub mod UnusedMemory
