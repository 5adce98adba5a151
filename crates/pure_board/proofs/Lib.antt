pub mod HoldLaws
pub mod TakeLaws
pub mod SeatLaws
pub mod OpenLaws
pub mod CloseLaws
