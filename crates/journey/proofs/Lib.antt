-- The promise over a link: a list and its answers, what a list was opened for, every world.
pub mod Kept
pub mod Answers
pub mod Queries
pub mod Growth
pub mod Journey
pub mod Former
pub mod AnyLines
