-- The grammar of theories.
pub mod TheoryText
pub mod Lexeme
pub mod Phrase
pub mod PhraseText
pub mod PhraseTree
pub mod Outer
pub mod Spans
pub mod Reader
pub mod First
pub mod Versions
