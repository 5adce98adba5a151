pub mod Prefix
pub mod Lifting
pub mod GoalStep
pub mod Laws
pub mod Examples
