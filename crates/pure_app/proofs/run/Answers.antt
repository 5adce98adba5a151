use Rattle.std.proofs.Common.{subst, sym, ◌∙◌}
use Rattle.pure_check.specs.Asked.{IsLooking, IsTaken}
use Rattle.pure_app.proofs.run.Goals as goal

pub returns-clause-untaken : goal.returns-clause-untaken
returns-clause-untaken g c = rw c.in-Ok.is (λ denied. c.pure-ended.ensures.untaken (λ taken. denied (subst IsTaken (c.deref.ensures.value ∙ c.in-Ok-words_of.ensures) taken)))

pub returns-clause-unchecked : goal.returns-clause-unchecked
returns-clause-unchecked g c = rw c.in-Ok.is (λ denied. (
  c.pure-ended.ensures.unlooked (λ looks. denied (subst IsLooking (c.deref.ensures.value ∙ c.in-Ok-words_of.ensures) looks)),
  c.pure-ended.ensures.unread (λ looks. denied (subst IsLooking (c.deref.ensures.value ∙ c.in-Ok-words_of.ensures) looks)),
))

pub returns-clause-complete : goal.returns-clause-complete
returns-clause-complete g c =
    let same = c.deref.ensures.value ∙ c.in-Ok-words_of.ensures in
    rw c.in-Ok.is (λ taken read written. c.pure-ended.ensures.complete (subst IsTaken (sym same) taken) (λ looks. read (subst IsLooking same looks)) written)
