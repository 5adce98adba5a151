use Rattle.pure_try.proofs.FactLaws.{declared-ends, declared-goes_on}
use Rattle.pure_try.proofs.facts.methods.Goals as goal

pub decls-preserved : goal.decls-preserved
decls-preserved c =
    rw c.in_ok-place-in-Some.ensures
    (declared-goes_on c.args.names.now c.args.theory.now.declarations c.decls.place c.in-Some.decl c.in-Some.ensures
    c.decls.methods.items c.add_declared.new.methods.items _ c.in_ok-add_declared-in-Some.ensures c.decls.invariant)

pub returns-in-None : goal.returns-in-None
returns-in-None c = declared-ends c.args.names.now c.args.theory.now.declarations c.decls.place c.in-None.ensures c.decls.methods.items _ c.decls.invariant
