use Rattle.pure_session.proofs.PlaceLemmas.{place-hit, place-missed}
use Rattle.pure_session.proofs.place.place_of.Goals as goal

pub returns-in-Ok : goal.returns-in-Ok
returns-in-Ok c = place-hit c.args.texts.now c.args.text.now c.in-Ok.place c.requires c.in-Ok.ensures.bound c.in-Ok.ensures.ok

pub returns-in-Err : goal.returns-in-Err
returns-in-Err c = place-missed c.args.texts.now c.args.text.now c.in-Err.field-0 c.requires c.in-Err.ensures.position
