use Rattle.std.proofs.Common.{refl}
use Rattle.pure_unify_visits.proofs.TurnLaws.{put_made}
use Rattle.pure_unify_visits.proofs.settings.put_into.Goals as goal

pub returns-in_ok-set-in-Ok-clause-answer : goal.returns-in_ok-set-in-Ok-clause-answer
returns-in_ok-set-in-Ok-clause-answer c p s h k =
    put_made c.args.pairs.items c.in-Ok.made.items p s c.in_ok-set-in-Ok.field-0 (c.in-Ok.ensures.ok s k) (c.in_ok-set-in-Ok.ensures.node (record { pairs = c.in-Ok.made.items; path = p }) s refl h k)

pub returns-in-Err-clause-answer : goal.returns-in-Err-clause-answer
returns-in-Err-clause-answer c p s h k = c.in-Err.ensures.fault s k
