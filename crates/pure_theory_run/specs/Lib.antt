pub use Rattle.pure_session_meaning.specs.Theory as Theory
pub use Rattle.pure_session_meaning.specs.Declare as Declare
pub use Rattle.pure_session_meaning.specs.Method as Method
pub use Rattle.pure_session_meaning.specs.SessionLaws as SessionLaws
pub use Rattle.pure_session_meaning.specs as SessionMeaning
pub mod Outline
pub mod OutlineCodes
pub mod Endings
pub mod Checked
pub mod CheckedCodes
pub mod Parents
pub mod Begun
pub mod Runs
pub mod Turns
pub mod Sessions
pub mod Named
