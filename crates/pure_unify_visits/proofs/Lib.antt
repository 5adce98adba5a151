pub mod ListLaws
pub mod AlikeLaws
pub mod ScanLaws
pub mod TurnLaws
