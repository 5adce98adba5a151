pub mod EquationLemmas
