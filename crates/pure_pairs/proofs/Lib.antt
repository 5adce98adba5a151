pub mod ModuloLaws
pub mod EquatedModulo
pub mod ScopeLaws
pub mod TrivialLaws
pub mod IndexLaws
pub mod SmashLaws
pub mod PlainLaws
