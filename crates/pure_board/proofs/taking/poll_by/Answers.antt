use Rattle.std.proofs.Common.{refl, ap, slice_get}
use Rattle.pure_machine.specs.Calls.{polled_as, is_in_cancelled}
use Rattle.pure_board.proofs.HoldLaws.{token-free, still-turn, looked-kept, promise-there}
use Rattle.pure_board.proofs.TakeLaws.{done-read}
use Rattle.pure_board.proofs.taking.poll_by.Goals as goal

pub hold-core-requires-clause-free : goal.hold-core-requires-clause-free
hold-core-requires-clause-free g c = token-free _ _ _ _ _ _ c.requires.place c.requires.seated

pub poll-polled-requires : goal.poll-polled-requires
poll-polled-requires g c = promise-there _ _ _ _ _ _ _ _ c.requires.seated c.hold-core.ensures.held _ c.requires.taken

pub give_back-requires-clause-turn : goal.give_back-requires-clause-turn
give_back-requires-clause-turn g c = still-turn _ _ c.hold-core.ensures.turn c.look.ensures.seen

pub give_back-requires-clause-same : goal.give_back-requires-clause-same
give_back-requires-clause-same g c = looked-kept _ _ _ _ _ _ _ _ c.requires.seated c.hold-core.ensures.held _ _ (ap (λ m. m.0) c.look.ensures.seen) refl

pub returns-clause-done : goal.returns-clause-done
returns-clause-done g c = done-read _ _ _ _ _ _ _ c.hold-core.result c.hold-core.result _ c.requires.seated c.hold-core.ensures.held c.look.new.seat.me (ap (λ m. m.0) c.look.ensures.seen) c.give_back.ensures.released (λ s. polled_as s.stopped (is_in_cancelled s (slice_get s.promises c.args.number))) _ c.poll-polled.ensures
