pub mod LabelSets
pub mod FateLaws
pub mod ProvedLaws
pub mod ThereLaws
pub mod PlaceLaws
pub mod ReachLaws
pub mod HeldLaws
pub mod CodeLaws
