use Rattle.std.proofs.Common.{map, subst, sym, ◌<◌}
use Rattle.pure_promise_fates.proofs.CodeLaws.{reach_there}
use Rattle.pure_promise_fates.proofs.fate.is_proved.Goals as goal

pub is_proved_by-requires-clause-reach : goal.is_proved_by-requires-clause-reach
is_proved_by-requires-clause-reach g c =
    reach_there (map g.E.Reported.entry c.args.entries.now) c.requires.reached.0 c.args.reached.now c.args.place c.index-reached-place.result (subst (λ n. c.args.place < n) (sym c.requires.count) c.requires.within) c.index-reached-place.is c.requires.reached.1
