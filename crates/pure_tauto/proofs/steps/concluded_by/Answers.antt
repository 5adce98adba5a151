use Rattle.pure_tauto.proofs.ProverLaws.{with-derivable, derivable-at}
use Rattle.pure_tauto.proofs.steps.concluded_by.Goals as goal

pub returns : goal.returns
returns g c = λ q h k.
    with-derivable (g.B.Base.content c.args.thy.now) c.args.known.now c.in_ok-more.more.items c.in_ok-conclusion.conclusion h
    (c.in_ok-conclusion.ensures.derivable q (derivable-at (g.B.Base.content c.args.thy.now) c.args.known.now c.args.place c.index-known-place.result c.requires c.index-known-place.is h) k) c.in_ok-more.ensures
