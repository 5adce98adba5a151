use Rattle.std.proofs.Common.{◌≡◌, map, take, ◌+◌, ◌*◌, ◌++◌}
use Rattle.pure_definitions.specs.Types.Typ.{typ_depth, typs_depth, typs_of}
use Rattle.pure_tunify.specs.Occurrences.{schematics_of}
use Rattle.pure_tunify.specs.Asking.{asked_variable}
use Rattle.pure_tunify.specs.Asks.{AllAskMore}
use Rattle.pure_tunify.proofs.asks.+ask.Given as goal

abbrev pub decreases-ask : goal.decreases-ask
decreases-ask l = 2 * typ_depth l.t.now

abbrev pub decreases-ask_each : goal.decreases-ask_each
decreases-ask_each l = 2 * typs_depth (typs_of l.types.now) + 1

abbrev pub invariant-ask_each-loop-i : goal.invariant-ask_each-loop-i
invariant-ask_each-loop-i l =
    AllAskMore l.order (take l.i l.types) (take l.i l.sorts) l.initial.asked.items l.asked.items × (map asked_variable l.asked.items ≡ map asked_variable l.initial.asked.items ++ schematics_of (typs_of (take l.i l.types)))
