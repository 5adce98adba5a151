-- The grammar of terms and types.
pub mod InnerLexeme
pub mod InnerPhrase
pub mod InnerText
pub mod RawTree
pub mod InnerTree
pub mod Inner
pub mod RawTexts
pub mod InnerReader
