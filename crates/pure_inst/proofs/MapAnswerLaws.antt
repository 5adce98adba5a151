-- What the calls answer, passed on.
use Rattle.std.specs.Prelude.{Result, Ok, Err, IfOk}
use Rattle.pure_logic.specs.Derivable.{Theorem}
use Rattle.pure_inst.specs.Image.{IsMapAnswer, RefusesNothing}
use Rattle.pure_inst.specs.declared.fault.InstFault.{InstFault}
use Rattle.pure_inst.specs.declared.fault.InstFault.TheVariants.{Big, Memory}

-- The answer of a call that refuses nothing, as that of one that gives what it gives.
pub map_answer-along : (Given Gives : Theorem → Type 0) (Refuses : InstFault → Type 0) → ((th : Theorem) → Given th → Gives th) → (result : Result Theorem InstFault) → IsMapAnswer Given RefusesNothing result → IsMapAnswer Gives Refuses result
map_answer-along Given Gives Refuses f (Ok th) h = (f th h.0, h.1)
map_answer-along Given Gives Refuses f (Err Big) (th, given, isnt) = (th, f th given, isnt)
map_answer-along Given Gives Refuses f (Err Memory) h = h
map_answer-along Given Gives Refuses f (Err _) h = absurd h

-- What holds of the theorems that a call gives holds of its answer.
pub map_answer-holds : (Gives : Theorem → Type 0) (Refuses : InstFault → Type 0) (Holds : Theorem → Type 0) → ((th : Theorem) → Gives th → Holds th) → (result : Result Theorem InstFault) → IsMapAnswer Gives Refuses result → IfOk result Holds
map_answer-holds Gives Refuses Holds f (Ok th) h = f th h.0
map_answer-holds Gives Refuses Holds f (Err fault) h = tt
