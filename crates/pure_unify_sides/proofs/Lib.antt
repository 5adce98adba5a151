pub mod HeadLaws
pub mod SplitLemmas
pub mod FirmLemmas
pub mod ImageLaws
