mod SendLaws
mod FactLaws
mod FirstLaws
mod TryLaws
mod AnswerLaws
