pub use Rattle.pure_method.specs.Theory as Theory
pub use Rattle.pure_method.specs.Declare as Declare
pub use Rattle.pure_method.specs as Method
pub mod Owned
pub mod Ended
pub mod OwnerLaws
pub mod Kept
pub mod InOrder
pub mod Limits
pub mod Well
pub mod Loaded
pub mod Following
