pub mod EnteredRuns
pub mod Elsewhere
pub mod World
pub mod Seen
pub mod Promise
pub mod After
pub mod Examples
