mod ShapeLaws
mod OpeningLaws
