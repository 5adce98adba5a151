pub use Rattle.pure_session_laws.specs.Theory as Theory
pub use Rattle.pure_session_laws.specs.Declare as Declare
pub use Rattle.pure_session_laws.specs.Method as Method
pub use Rattle.pure_session_laws.specs as SessionLaws
pub mod Verdicts
pub mod Statements
pub mod Steps
pub mod Kept
pub mod Laws
pub mod Given
pub mod Closing
pub mod First
