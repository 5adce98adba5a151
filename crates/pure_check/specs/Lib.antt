pub use Rattle.pure_check_work.specs.Declare as Declare
pub use Rattle.pure_check_work.specs.Method as Method
pub use Rattle.pure_check_work.specs.TheoryRun as TheoryRun
pub mod Answer
pub mod Asked
pub mod Formed
pub mod JobAnswers
pub mod JobMeaning
pub mod Jobs
pub mod Laws
pub mod Meaning
pub mod PlacedText
pub mod Sources
pub mod Tables
pub mod Replayed
