pub mod Written
pub mod ClaimServed
pub mod AskServed
pub mod OneLineServed
pub mod Moves
