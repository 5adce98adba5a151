use Rattle.std.proofs.Common.{◌∙◌, sym, ap}
use Rattle.pure_replay.specs.Conclusion.{Conclusion}
use Rattle.pure_replay.proofs.implication.implies_elim.Goals as goal

pub is_premise-requires : goal.is_premise-requires
is_premise-requires c = λ t.
    c.requires t c.in-Some.first.now c.in-Some.conclusion.now (sym (ap (λ (e : Conclusion). e.prop) c.implication.view_is) ∙ c.in-Some.ensures) ∙ sym (ap (λ (e : Conclusion). e.prop) c.premise.view_is)
