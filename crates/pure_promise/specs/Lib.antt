pub mod Entries
pub mod Seen
pub mod Accepting
pub mod RowText
pub mod Rows
pub mod Lemmas
pub mod Joining
pub mod Laws
