-- The promise over a link, in lent memory: the real lines, entering, worlds seen as worlds of journey, lines from elsewhere, the promises.
pub mod LineParts
pub mod LinesWritten
pub mod LinesRead
pub mod RealLines
pub mod EnteringRuns
pub mod Contracts
pub mod Agreement
pub mod SoundMemory
pub mod Seen
pub mod Elsewhere
pub mod Answers
pub mod Queries
pub mod Demand
pub mod NoRepeats
pub mod Examples
