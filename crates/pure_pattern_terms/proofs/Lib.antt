pub mod RenamedLaws
pub mod TypLaws
pub mod PlaceLaws
pub mod PatternLaws
pub mod LowLaws
pub mod SizeLaws
pub mod RefusedLaws
pub mod SelectionLaws
