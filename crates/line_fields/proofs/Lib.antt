pub mod PartLaws
pub mod ItemLaws
pub mod Round
