use Rattle.std.proofs.Common.{◌≡◌, subst, sym}
use Rattle.pure_logic.specs.Derivable.{Theorem, IsDerivable}
use Rattle.pure_pairs.specs.Smash.{Smashes}
use Rattle.pure_pairs.proofs.TrivialLaws.{grown_along, grown_holds}
use Rattle.pure_pairs.proofs.SmashLaws.{smashes-derivable}
use Rattle.pure_pairs.proofs.theorem.smash.Goals as goal

pub returns-clause-answer : goal.returns-clause-answer
returns-clause-answer g c =
    grown_along (λ (th : Theorem). th ≡ c.in_ok-smashed.field-0) (Smashes c.args.th.now) (λ th e. subst (Smashes c.args.th.now) (sym e) c.in_ok-smashed.ensures) c.grown.result c.grown.ensures

pub returns-clause-derivable : goal.returns-clause-derivable
returns-clause-derivable g c = λ q flexible h.
    let Q = g.B.Base.content c.args._thy.now in
    grown_holds (λ (th : Theorem). th ≡ c.in_ok-smashed.field-0) (IsDerivable Q)
    (λ th e. subst (IsDerivable Q) (sym e) (smashes-derivable Q q.content q.above_pure c.args.th.now c.in_ok-smashed.field-0 c.in_ok-smashed.ensures flexible h)) c.grown.result c.grown.ensures
