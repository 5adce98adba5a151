pub mod MatchLemmas
pub mod ConstLemmas
pub mod PartLemmas
pub mod TermLemmas
pub mod BodyLaws
