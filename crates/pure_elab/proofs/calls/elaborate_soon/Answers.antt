use Rattle.pure_elab.proofs.CallLaws.{pairs_are_old, elaborated_ok}
use Rattle.pure_elab.proofs.calls.elaborate_soon.Goals as goal

pub typed_soon-requires : goal.typed_soon-requires
typed_soon-requires g c =
    let V = g.L.Language.vocabulary c.args.language.now in
    let h = c.in_ok-found.ensures in
    pairs_are_old V c.args.raw.now c.args.typ h.0 c.in_ok-found.found.0.value c.in_ok-found.found.1 c.requires h.1 h.2

pub returns : goal.returns
returns g c =
    let V = g.L.Language.vocabulary c.args.language.now in
    let h = c.in_ok-found.ensures in
    elaborated_ok V c.args.raw.now c.args.typ h.0 c.in_ok-found.found.0.value c.in_ok-found.found.1 c.typed_soon.result h.1 h.2 c.typed_soon.ensures
