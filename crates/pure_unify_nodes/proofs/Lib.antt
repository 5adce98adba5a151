pub mod LongLemmas
pub mod OwnLaws
pub mod OneTypLaws
