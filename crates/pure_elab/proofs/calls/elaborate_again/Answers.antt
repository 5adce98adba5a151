use Rattle.pure_elab.proofs.CallLaws.{pairs_are_old, as_many_places, elaborated_ok, elaborated_err}
use Rattle.pure_elab.proofs.calls.elaborate_again.Goals as goal

pub typed-requires-clause-old : goal.typed-requires-clause-old
typed-requires-clause-old g c =
    let V = g.L.Language.vocabulary c.args.language.now in
    let h = c.in-Ok.ensures in
    pairs_are_old V c.args.raw.now c.args.typ h.0 c.in-Ok.found.0.value c.in-Ok.found.1 c.requires h.1 h.2

pub typed-requires-clause-placed : goal.typed-requires-clause-placed
typed-requires-clause-placed g c =
    let h = c.in-Ok.ensures in
    as_many_places h.0 c.in-Ok.found.0.value c.in-Ok.found.1 h.2

pub returns-in-Ok-clause-ok : goal.returns-in-Ok-clause-ok
returns-in-Ok-clause-ok g c =
    let V = g.L.Language.vocabulary c.args.language.now in
    let h = c.in-Ok.ensures in
    elaborated_ok V c.args.raw.now c.args.typ h.0 c.in-Ok.found.0.value c.in-Ok.found.1 c.typed.result h.1 h.2 c.typed.ensures.ok

pub returns-in-Ok-clause-fault : goal.returns-in-Ok-clause-fault
returns-in-Ok-clause-fault g c =
    let V = g.L.Language.vocabulary c.args.language.now in
    let h = c.in-Ok.ensures in
    elaborated_err V c.args.raw.now c.args.typ h.0 c.in-Ok.found.0.value c.in-Ok.found.1 c.typed.result h.1 h.2 c.typed.ensures.fault
