pub use Rattle.pure_table.specs.Theory as Theory
pub use Rattle.pure_table.specs.Declare as Declare
pub use Rattle.pure_table.specs.Method as Method
pub use Rattle.pure_table.specs.SessionLaws as SessionLaws
pub use Rattle.pure_table.specs.SessionMeaning as SessionMeaning
pub use Rattle.pure_table.specs.TheoryRun as TheoryRun
pub use Rattle.pure_table.specs.Promise as Promise
pub use Rattle.pure_table.specs as Table
pub mod Relations
pub mod Attempts
pub mod Turns
pub mod Cancelled
pub mod Said
pub mod Laws
pub mod Earlier
pub mod Owned
pub mod Boards
pub mod Heeded
