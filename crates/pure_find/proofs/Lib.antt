pub mod LongPropositions
pub mod FindingLaws
pub mod BuiltLaws
pub mod FactLaws
pub mod NamedLaws
pub mod InstanceLaws
pub mod OnceLaws
