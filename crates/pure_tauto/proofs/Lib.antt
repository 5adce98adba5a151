pub mod ProverLaws
