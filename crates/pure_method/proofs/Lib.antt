pub use Rattle.pure_declare.proofs.Theory as Theory
pub use Rattle.pure_declare.proofs as Declare
pub mod FactLaws
pub mod OnceLaws
pub mod EndLaws
pub mod SoundLaws
pub mod FaultLaws
pub mod ExampleLaws
pub mod FrontLaws
pub mod OutcomeLaws
pub mod ClosingLaws
pub mod UnfoldDecidedLaws
pub mod ValueLaws
pub mod ReadyLaws
pub mod StepAnswers
pub mod ChainedLaws
pub mod RunLaws
pub mod CloseLaws
pub mod StartLaws
pub mod StepPlaces
pub mod PlaceLaws
pub mod CourseLaws
pub mod FurtherLaws
pub mod InLemmaLaws
pub mod LocalExampleLaws
