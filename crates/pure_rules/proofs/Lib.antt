pub mod DerivedLaws
