use Rattle.pure_find.proofs.FactLaws.{outline-in, goes-next, found-all}
use Rattle.pure_find.proofs.facts.facts_found.Goals as goal

pub decls-init : goal.decls-init
decls-init c = c.in_ok-finding.ensures

pub add_declared-requires-clause-declared : goal.add_declared-requires-clause-declared
add_declared-requires-clause-declared c = outline-in c.args.theory.now c.decls.place c.in-Some.decl c.in-Some.ensures

pub decls-preserved : goal.decls-preserved
decls-preserved c =
    rw c.in_ok-place-in-Some.ensures
    (goes-next c.args.names.now c.args.theory.now c.args.long.now c.decls.place c.in-Some.decl c.in-Some.ensures c.decls.finding c.add_declared.new.finding c.in_ok-add_declared-in-Some.ensures c.decls.invariant)

pub returns-in-None : goal.returns-in-None
returns-in-None c = found-all c.args.names.now c.args.theory.now c.args.long.now c.decls.place c.in-None.ensures c.decls.finding c.decls.invariant
