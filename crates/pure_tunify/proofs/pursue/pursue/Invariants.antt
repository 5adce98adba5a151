use Rattle.std.specs.Prelude.{reverse}
use Rattle.pure_tunify.specs.Meeting.{GoesOn}
use Rattle.pure_tunify.proofs.pursue.pursue.Given as goal

abbrev pub invariant-loop : goal.invariant-loop
invariant-loop l = GoesOn l.order l.initial.settings l.settings (reverse l.initial.work.items) (reverse l.work.items)
