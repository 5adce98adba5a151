use Rattle.std.proofs.Common.{◌-◌, arith}
use Rattle.pure_norm.specs.Env.{meant}
use Rattle.pure_norm.proofs.ContractLemmas.{few-body, no_step, deepest-low, bound-contracted, bound-too_large}
use Rattle.pure_norm.proofs.contract.contract.Goals as goal

pub returns-then-walk-eq0-clause-fault : goal.returns-then-walk-eq0-clause-fault
returns-then-walk-eq0-clause-fault c = no_step c.args.deep c.args.walk.now c.args.function.now.typ.now c.args.function.now.scope.value c.args.function.now.body.term.now (meant c.args.scope.now.value c.args.arg.now.term.now) c.requires.can c.if-walk-eq0.true

pub find_occurrences-found-requires-clause-few : goal.find_occurrences-found-requires-clause-few
find_occurrences-found-requires-clause-few c = (few-body c.args.deep c.args.walk.now c.args.function.now.typ.now c.args.function.now.scope.value c.args.function.now.body.term.now (meant c.args.scope.now.value c.args.arg.now.term.now) c.requires.can).few

pub find_occurrences-found-requires-clause-deep : goal.find_occurrences-found-requires-clause-deep
find_occurrences-found-requires-clause-deep c = (few-body c.args.deep c.args.walk.now c.args.function.now.typ.now c.args.function.now.scope.value c.args.function.now.body.term.now (meant c.args.scope.now.value c.args.arg.now.term.now) c.requires.can).deep_enough

pub room_after-requires-clause-count : goal.room_after-requires-clause-count
room_after-requires-clause-count c =
    let few = (few-body c.args.deep c.args.walk.now c.args.function.now.typ.now c.args.function.now.scope.value c.args.function.now.body.term.now (meant c.args.scope.now.value c.args.arg.now.term.now) c.requires.can).few in
    let less = c.find_occurrences-found.ensures.few in
    omega arith

pub room_after-requires-clause-deepest : goal.room_after-requires-clause-deepest
room_after-requires-clause-deepest c = deepest-low c.args.deep c.args.walk.now c.args.function.now.typ.now c.args.function.now.scope.value c.args.function.now.body.term.now (meant c.args.scope.now.value c.args.arg.now.term.now) c.requires.can c.find_occurrences-found.result.count c.find_occurrences-found.result.deepest c.find_occurrences-found.ensures.count c.find_occurrences-found.ensures.deepest

pub returns-in_default-clause-fault : goal.returns-in_default-clause-fault
returns-in_default-clause-fault c =
    bound-too_large c.args.deep c.args.walk.now c.args.function.now.typ.now c.args.function.now.scope.value c.args.function.now.body.term.now (meant c.args.scope.now.value c.args.arg.now.term.now) c.requires.can c.find_occurrences-found.result.count c.find_occurrences-found.result.deepest c.find_occurrences-found.ensures.count c.find_occurrences-found.ensures.deepest
    c.in_ok-held.held.measure c.in_ok-held.ensures.measured (omega (arith, c.if-walk-eq0.false)) (rw c.in_default.is at c.room_after.ensures)

pub returns-clause-contracted : goal.returns-clause-contracted
returns-clause-contracted c =
    rw c.in_ok-scope.ensures
    (bound-contracted c.args.deep c.args.walk.now c.args.function.now.typ.now c.args.function.now.scope.value c.args.function.now.body.term.now (meant c.args.scope.now.value c.args.arg.now.term.now) c.requires.can c.find_occurrences-found.result.count c.find_occurrences-found.result.deepest c.find_occurrences-found.ensures.count c.find_occurrences-found.ensures.deepest
    c.in_ok-held.held.measure c.in_ok-held.ensures.measured (record { steps = c.args.walk.now.steps - 1; room = c.in-Some.room })
    c.in_ok-held.held.closure.piece.term.now c.in_ok-held.held.closure.scope.value (omega (arith, c.if-walk-eq0.false)) c.in_ok-held.ensures.meaning (rw c.in-Some.is at c.room_after.ensures))
