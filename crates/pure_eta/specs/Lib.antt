pub mod EtaForm
pub mod LongTerm
pub mod Fits
pub mod Answer
pub mod LawsEta
pub mod OwnForm
