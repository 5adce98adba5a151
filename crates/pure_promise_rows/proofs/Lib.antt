pub mod OrderLemmas
pub mod EarlierLemmas
pub mod GroundLemmas
pub mod PairLemmas
