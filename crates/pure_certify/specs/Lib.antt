pub mod Tables
pub mod Matching
pub mod Parts
pub mod Answer
pub mod Laws
pub mod Bodies
