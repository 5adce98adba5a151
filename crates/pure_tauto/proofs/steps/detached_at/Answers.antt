use Rattle.pure_tauto.proofs.ProverLaws.{with-derivable, derivable-at}
use Rattle.pure_tauto.proofs.steps.detached_at.Goals as goal

pub returns : goal.returns
returns g c = λ q h.
    with-derivable (g.B.Base.content c.args.thy.now) c.args.known.now c.in_ok-more.more.items c.in_ok-th.th h
    (c.in_ok-th.ensures.derivable q (derivable-at (g.B.Base.content c.args.thy.now) c.args.known.now c.args.place c.index-known-place.result c.requires.implication c.index-known-place.is h) (derivable-at (g.B.Base.content c.args.thy.now) c.args.known.now c.args.other c.index-known-other.result c.requires.premise c.index-known-other.is h)) c.in_ok-more.ensures
