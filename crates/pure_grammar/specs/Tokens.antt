-- Tokens, and what they spell.
pub mod Bytes
pub mod Comment
pub mod Token
pub mod Spelling
