pub mod HistoryLaws
pub mod ViewLaws
pub mod RuleLaws
pub mod SeatLaws
pub mod EndLaws
