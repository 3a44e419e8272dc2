pub mod TableLaws
pub mod PageLaws
