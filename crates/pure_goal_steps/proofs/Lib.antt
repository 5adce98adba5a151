pub use Rattle.pure_pairs.proofs as Pairs
pub mod ReadLaws
pub mod FollowsLaws
pub mod OneOutcomeLaws
pub mod SoundLaws
pub mod MeasuredLaws
