pub mod SplitLaws
pub mod ChangeLaws
pub mod ToldLaws
pub mod StayLaws
pub mod FewLaws
pub mod SeatLaws
pub mod GroupLaws
