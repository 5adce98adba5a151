pub use Rattle.pure_table.proofs.Theory as Theory
pub use Rattle.pure_table.proofs.Declare as Declare
pub use Rattle.pure_table.proofs.Method as Method
pub use Rattle.pure_table.proofs.SessionLaws as SessionLaws
pub use Rattle.pure_table.proofs.SessionMeaning as SessionMeaning
pub use Rattle.pure_table.proofs.TheoryRun as TheoryRun
pub use Rattle.pure_table.proofs.Promise as Promise
pub use Rattle.pure_table.proofs as Table
pub mod RunLaws
pub mod AttemptLaws
pub mod LeftLaws
pub mod EntryLaws
pub mod TableLaws
pub mod StandLaws
pub mod EarlierLaws
pub mod SendLaws
pub mod HeldLaws
pub mod HeedLaws
pub mod OwnedLaws
pub mod BoardLaws
