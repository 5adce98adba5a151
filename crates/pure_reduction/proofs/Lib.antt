pub mod StepLaws
pub mod ParallelLaws
pub mod CommuteLaws
pub mod NormalLaws
pub mod LongLaws
pub mod MapLaws
