use Rattle.std.proofs.Common.{◌≡◌, ap}
use Rattle.pure_text.proofs.AnswerLaws.{yes_as}
use Rattle.pure_logic.specs.Content.{TheoryId}
use Rattle.pure_theory.proofs.PlainLaws.{unnamed, named}
use Rattle.pure_theory.proofs.plain.is_plainly_named.Goals as goal

pub returns-in-None : goal.returns-in-None
returns-in-None c =
    let same : c.theory.inside.name ≡ c.args.theory.name = ap (λ (t : TheoryId). t.name) c.theory.view_is in
    yes_as _ (unnamed c.args.names.now c.args.theory (rw same at c.in-None.ensures))

pub returns-in-Some : goal.returns-in-Some
returns-in-Some c =
    let same : c.theory.inside.name ≡ c.args.theory.name = ap (λ (t : TheoryId). t.name) c.theory.view_is in
    named c.args.names.now c.args.theory c.in-Some.text.now c.is_plain.result (rw same at c.in-Some.ensures) c.is_plain.ensures
