use Rattle.pure_tauto.proofs.ProverLaws.{with-derivable, derivable-at}
use Rattle.pure_tauto.proofs.steps.weakened.Goals as goal

pub returns : goal.returns
returns g c = λ q ab h.
    with-derivable (g.B.Base.content c.args.thy.now) c.args.known.now c.in_ok-more.more.items c.in_ok-th.th h (c.in_ok-th.ensures q ab (derivable-at (g.B.Base.content c.args.thy.now) c.args.known.now c.args.place c.index-known-place.result c.requires c.index-known-place.is h)) c.in_ok-more.ensures
