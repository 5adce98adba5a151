use Rattle.std.proofs.Common.{◌∙◌, ℕ, List, map, ap}
use Rattle.std.specs.Borrow.{Bor}
use Rattle.pure_words.proofs.read.job_of_words.Goals as goal

pub returns-in-Ok-Some : goal.returns-in-Ok-Some
returns-in-Ok-Some c =
    let texts = rw c.in-Ok-Some.field-0-is at c.in-Ok-Some.ensures in
    λ name rest job are spelled. c.job_of_texts.ensures name rest job (ap (λ (xs : List (Bor (List ℕ))). map (λ (s : Bor (List ℕ)). s.now) xs) c.as_slice.ensures.value ∙ texts ∙ are) spelled
