pub mod Facts
pub mod Standings
pub mod Lines
pub mod Answers
pub mod Laws
pub mod Findings
