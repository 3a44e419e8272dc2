pub mod FirstsOfMany
pub mod PagesOfMany
pub mod RowLaws
pub mod Alone
pub mod Settled
pub mod Retired
