mod TypedLaws
