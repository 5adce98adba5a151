pub mod Standing
pub mod Laws
pub mod First
pub mod WithoutHaves
