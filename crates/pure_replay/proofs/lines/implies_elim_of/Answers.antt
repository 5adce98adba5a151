use Rattle.pure_replay.specs.Figures.{GivesImpliesElim}
use Rattle.pure_replay.specs.Inferred.{HasAt}
use Rattle.pure_replay.proofs.KnownLaws.{one-number}
use Rattle.pure_replay.proofs.StepLaws.{step-at}
use Rattle.pure_replay.proofs.lines.implies_elim_of.Goals as goal

pub returns-in-Some : goal.returns-in-Some
returns-in-Some c =
    step-at c.args.earlier.now c.args.implication c.in-Some.above.now (λ e d. HasAt c.args.earlier.now c.args.premise (λ f. GivesImpliesElim e f d)) c.in-Some.ensures c.implies_elim_by.result c.implies_elim_by.ensures

pub implies_elim_by-requires : goal.implies_elim_by-requires
implies_elim_by-requires c = λ t f there A C is.
    one-number c.args.known.now.terms.items c.args.earlier.now c.args.known.now.lines.items c.args.implication c.args.premise c.in-Some.above.now f c.requires (c.are_same-is_known.ensures t) c.in-Some.ensures there A C is
