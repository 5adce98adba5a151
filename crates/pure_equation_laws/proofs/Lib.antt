pub mod SidesLaws
pub mod ClosingLaws
pub mod EquatedLaws
pub mod KeptLaws
pub mod PairsLaws
pub mod ReductionLaws
pub mod NodesLaws
pub mod RedexExamples
