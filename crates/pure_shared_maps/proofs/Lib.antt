pub mod FindLaws
pub mod MergeLaws
pub mod RunLaws
pub mod PowerLaws
pub mod ShelfLaws
pub mod GrownLaws
