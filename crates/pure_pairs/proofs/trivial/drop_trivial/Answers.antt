use Rattle.std.proofs.Common.{◌≡◌, ◌∙◌, subst, sym}
use Rattle.pure_logic.specs.Derivable.{Theorem, IsDerivable}
use Rattle.pure_pairs.specs.Trivial.{dropped}
use Rattle.pure_pairs.proofs.TrivialLaws.{dropped-derivable, grown_along, grown_holds}
use Rattle.pure_pairs.proofs.trivial.drop_trivial.Goals as goal

pub returns-clause-answer : goal.returns-clause-answer
returns-clause-answer g c =
    grown_along (λ (th : Theorem). th ≡ c.in_ok-without_pairs.field-0) (λ (th : Theorem). th ≡ dropped c.args.th.now) (λ th e. e ∙ c.in_ok-without_pairs.ensures) c.grown.result c.grown.ensures

pub returns-clause-derivable : goal.returns-clause-derivable
returns-clause-derivable g c = λ q h.
    grown_holds (λ (th : Theorem). th ≡ c.in_ok-without_pairs.field-0) (IsDerivable (g.B.Base.content c.args._thy.now))
    (λ th e. subst (IsDerivable (g.B.Base.content c.args._thy.now)) (sym (e ∙ c.in_ok-without_pairs.ensures)) (dropped-derivable (g.B.Base.content c.args._thy.now) q c.args.th.now h)) c.grown.result c.grown.ensures
