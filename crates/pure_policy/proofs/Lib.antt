pub mod NothingLaws
pub mod PolicyLaws
