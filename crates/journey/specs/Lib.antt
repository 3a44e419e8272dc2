pub mod World
pub mod Promise
