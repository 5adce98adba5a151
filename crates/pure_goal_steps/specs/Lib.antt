pub use Rattle.pure_pairs.specs as Pairs
pub mod State
pub mod Reading
pub mod Follows
pub mod Steps
pub mod OneOutcome
pub mod Derivability
