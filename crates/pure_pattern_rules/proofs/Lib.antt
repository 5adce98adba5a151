pub mod SelectionLaws
pub mod OccursLaws
pub mod SideLaws
pub mod ImageLaws
pub mod TreatedLaws
pub mod HeadLaws
pub mod RigidLaws
pub mod WideLaws
