pub mod UnfoldLaws
