pub mod PlaceLaws
pub mod KeptLaws
pub mod RunLaws
pub mod AloneLaws
pub mod TaskLaws
pub mod ReplyLaws
