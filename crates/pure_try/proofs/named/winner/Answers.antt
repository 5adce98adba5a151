use denote.Param.Send.{sendable}
use Rattle.std.proofs.Crossing.{crosses}
use Rattle.pure_try.proofs.AnswerLaws.{least-of, lent-run}
use Rattle.pure_try.proofs.SendLaws.{proving_send, proving_sync, tries_sync}
use Rattle.pure_try.proofs.named.winner.Goals as goal

pub make-requires : goal.make-requires
make-requires g c = lent-run c.args.names.now c.args.duty.now c.requires.provable c.args.methods.now _ c.in_ok-duties.ensures

pub returns : goal.returns
returns g c = least-of c.args.names.now c.args.duty.now c.args.methods.now _ c.in_ok-duties.ensures _ c.in_ok-tries.ensures _ c.in_ok-won.ensures

pub race-requires-sync-A : goal.race-requires-sync-A
race-requires-sync-A g c = search (tries_sync, crosses, sendable) depth 60

pub race-requires-send-A-Trying : goal.race-requires-send-A-Trying
race-requires-send-A-Trying g c = search (proving_send, crosses, sendable) depth 60

pub race-requires-sync-A-Trying : goal.race-requires-sync-A-Trying
race-requires-sync-A-Trying g c = search (proving_sync, crosses, sendable) depth 60
