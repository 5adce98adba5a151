pub mod PrintLemmas
pub mod Values
pub mod GapBytes
pub mod Spellings
pub mod PartTexts
pub mod Pieces
pub mod Reprints
pub mod RoundTrip
