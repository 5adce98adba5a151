pub mod TextLemmas
pub mod MeaningLaws
pub mod MeantLaws
pub mod ExampleLemmas
pub mod PlaceLemmas
pub mod SessionExample
