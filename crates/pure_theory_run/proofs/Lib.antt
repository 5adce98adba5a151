pub use Rattle.pure_session_meaning.proofs.Theory as Theory
pub use Rattle.pure_session_meaning.proofs.Declare as Declare
pub use Rattle.pure_session_meaning.proofs.Method as Method
pub use Rattle.pure_session_meaning.proofs.SessionLaws as SessionLaws
pub use Rattle.pure_session_meaning.proofs as SessionMeaning
pub mod PlaceLaws
pub mod ItemLaws
pub mod OutlineLaws
pub mod BeginLaws
pub mod CountLaws
pub mod CommandLaws
pub mod CheckerLaws
pub mod NamedLaws
