pub mod Counts
pub mod Rows
pub mod Many
pub mod Pages
