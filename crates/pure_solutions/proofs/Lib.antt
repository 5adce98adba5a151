pub mod EndLaws
pub mod SolutionLaws
