-- Beta and eta reduction.
pub mod Beta
pub mod Eta
