use Rattle.std.proofs.Common.{◌≡◌, sym, subst}
use Rattle.pure_logic.specs.Derivable.{Theorem, IsDerivable}
use Rattle.pure_inst.specs.Image.{IsImage, RefusesNothing}
use Rattle.pure_inst.specs.Renaming.{renamed}
use Rattle.pure_inst.specs.Schematic.{GivesRaised}
use Rattle.pure_inst.proofs.MapAnswerLaws.{map_answer-along, map_answer-holds}
use Rattle.pure_inst.proofs.RenamingLaws.{theorem-raised}
use Rattle.pure_inst.proofs.DerivedLaws.{raised-derived}
use Rattle.pure_inst.proofs.schematic.incr_indexes.Goals as goal

pub returns-clause-answer : goal.returns-clause-answer
returns-clause-answer g c =
    map_answer-along (λ (new : Theorem). new ≡ c.in_ok-renamed_theorem.field-0) (GivesRaised c.args.by c.args.th.now) RefusesNothing
    (λ new e. theorem-raised c.args.by c.raising-renaming.result c.raising-renaming.ensures c.args.th.now new (subst (IsImage (renamed c.raising-renaming.result) c.args.th.now) (sym e) c.in_ok-renamed_theorem.ensures))
    c.within_limits.result c.within_limits.ensures

pub returns-clause-derivable : goal.returns-clause-derivable
returns-clause-derivable g c = λ q h.
    map_answer-holds (GivesRaised c.args.by c.args.th.now) RefusesNothing (IsDerivable (g.B.Base.content c.args.thy.now)) (raised-derived (g.B.Base.content c.args.thy.now) q c.args.by c.args.th.now h) c.within_limits.result
    (map_answer-along (λ (new : Theorem). new ≡ c.in_ok-renamed_theorem.field-0) (GivesRaised c.args.by c.args.th.now) RefusesNothing
    (λ new e. theorem-raised c.args.by c.raising-renaming.result c.raising-renaming.ensures c.args.th.now new (subst (IsImage (renamed c.raising-renaming.result) c.args.th.now) (sym e) c.in_ok-renamed_theorem.ensures))
    c.within_limits.result c.within_limits.ensures)
