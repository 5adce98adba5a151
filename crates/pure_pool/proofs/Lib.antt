mod EntryLaws
mod HeldLaws
pub mod SeatedLaws
pub mod TakenLaws
pub mod TurnLaws
pub mod EndLaws
