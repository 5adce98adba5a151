pub use Rattle.pure_declare.specs.Theory as Theory
pub use Rattle.pure_declare.specs as Declare
pub mod Facts
pub mod Unfolding
pub mod Proof
pub mod Laws
pub mod Outcomes
pub mod Examples
pub mod Outcome
pub mod Course
pub mod Running
pub mod Taking
pub mod Closing
