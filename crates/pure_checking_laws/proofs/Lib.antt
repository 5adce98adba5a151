pub mod PlaceLaws
pub mod FulfilLaws
pub mod JoinedLaws
