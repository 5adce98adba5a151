pub use Rattle.pure_check_work.proofs.Declare as Declare
pub use Rattle.pure_check_work.proofs.Method as Method
pub use Rattle.pure_check_work.proofs.TheoryRun as TheoryRun
pub mod AnswerLemmas
pub mod AxiomsLaws
pub mod FindLemmas
pub mod FormedLemmas
pub mod GraphLemmas
pub mod JobLemmas
pub mod PlacedLemmas
pub mod ReplayLemmas
pub mod ShowLemmas
pub mod TryLemmas
pub mod TableLaws
pub mod WordsLaws
