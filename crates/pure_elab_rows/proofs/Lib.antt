mod FixedLemmas
mod TableLemmas
