pub mod AnswerLemmas
pub mod TermPlacesLemmas
pub mod StaysLemmas
