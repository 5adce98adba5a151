use Rattle.std.proofs.Common.{◌≡◌, ◌∙◌, List, ap, subst}
use Rattle.pure_text.specs.Lists.{Each}
use Rattle.pure_definitions.specs.Terms.Term.{Term}
use Rattle.pure_logic.specs.Derivable.{Theorem, IsDerivable}
use Rattle.pure_logic.specs.Laws.Maps.{HasNoneOf}
use Rattle.pure_theorem.specs.First.{IsFirstWith}
use Rattle.pure_inst.specs.Schematic.{generalisation, GivesGeneralised, RefusesGeneralised}
use Rattle.pure_inst.proofs.MapAnswerLaws.{map_answer-along, map_answer-holds}
use Rattle.pure_inst.proofs.RenamingLaws.{conclusion-generalised}
use Rattle.pure_inst.proofs.DerivedLaws.{generalised-derived}
use Rattle.pure_inst.proofs.schematic.generalise.Goals as goal

pub returns-in-Some-clause-answer : goal.returns-in-Some-clause-answer
returns-in-Some-clause-answer g c =
    let G = generalisation c.args.tfrees.now c.args.frees.now c.args.index in
    subst (λ (hs : List Term). IsFirstWith (λ A. ¬ HasNoneOf G A) hs c.in-Some.which) (c.deref.ensures.value ∙ ap (λ (t : Theorem). t.hyps) c.th.view_is) (c.in-Some.ensures c.args.index)

pub returns-clause-answer : goal.returns-clause-answer
returns-clause-answer g c =
    let G = generalisation c.args.tfrees.now c.args.frees.now c.args.index in
    let fresh = subst (Each (HasNoneOf G)) (c.deref.ensures.value ∙ ap (λ (t : Theorem). t.hyps) c.th.view_is) (c.in_default.ensures c.args.index) in
    map_answer-along (λ (new : Theorem). new ≡ c.in_ok-renamed_conclusion.field-0) (GivesGeneralised G c.args.th.now) (RefusesGeneralised G c.args.th.now)
    (λ new e. record { fresh = fresh; is = conclusion-generalised c.args.tfrees.now c.args.frees.now c.args.index c.in_ok-renaming.renaming c.in_ok-renaming.ensures c.args.th.now c.in_ok-renamed_conclusion.field-0 new c.in_ok-renamed_conclusion.ensures e })
    c.within_limits.result c.within_limits.ensures

pub returns-clause-derivable : goal.returns-clause-derivable
returns-clause-derivable g c = λ q h.
    let G = generalisation c.args.tfrees.now c.args.frees.now c.args.index in
    let fresh = subst (Each (HasNoneOf G)) (c.deref.ensures.value ∙ ap (λ (t : Theorem). t.hyps) c.th.view_is) (c.in_default.ensures c.args.index) in
    map_answer-holds (GivesGeneralised G c.args.th.now) (RefusesGeneralised G c.args.th.now) (IsDerivable (g.B.Base.content c.args.thy.now)) (generalised-derived (g.B.Base.content c.args.thy.now) q G c.args.th.now h) c.within_limits.result
    (map_answer-along (λ (new : Theorem). new ≡ c.in_ok-renamed_conclusion.field-0) (GivesGeneralised G c.args.th.now) (RefusesGeneralised G c.args.th.now)
    (λ new e. record { fresh = fresh; is = conclusion-generalised c.args.tfrees.now c.args.frees.now c.args.index c.in_ok-renaming.renaming c.in_ok-renaming.ensures c.args.th.now c.in_ok-renamed_conclusion.field-0 new c.in_ok-renamed_conclusion.ensures e })
    c.within_limits.result c.within_limits.ensures)
