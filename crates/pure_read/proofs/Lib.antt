pub mod StackLemmas
pub mod Reading
pub mod Faults
pub mod FaultLaws
pub mod PartLemmas
