pub mod ItemLaws
pub mod ListLaws
pub mod PresentAsk
pub mod TakeLaws
pub mod EndLaws
