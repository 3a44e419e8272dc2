pub mod Exports
pub mod ExportsSettled
pub mod Given
pub mod LinesAgain
