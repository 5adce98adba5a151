pub mod SideAnswer
pub mod Long
pub mod OwnForm
pub mod OneTyp
