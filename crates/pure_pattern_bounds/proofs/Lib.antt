pub mod BoundLaws
pub mod CoverLaws
pub mod StateLaws
