-- What each job means, in a file of its own.
pub mod Check
pub mod Generate
pub mod Places
pub mod Axioms
pub mod Graph
pub mod Show
pub mod Replay
pub mod Find
pub mod Try
