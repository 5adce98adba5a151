mod SeatsLaws
mod HandLaws
