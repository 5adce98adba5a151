use Rattle.pure_text.specs.Lists.{IsIn}
use Rattle.pure_text.proofs.ListLaws.{each_at}
use Rattle.pure_theory.proofs.theory.Theory.missing.Goals as goal

pub returns-in-None : goal.returns-in-None
returns-in-None c = rw (← c.self.view_is, ← c.other.view_is) (each_at (λ d. IsIn d c.other.inside.declared) c.self.inside.declared c.in-None.ensures)

pub returns-in-Some : goal.returns-in-Some
returns-in-Some c = rw (← c.self.view_is, ← c.other.view_is) c.in-Some.ensures
