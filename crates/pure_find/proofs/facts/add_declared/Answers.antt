use Rattle.std.proofs.Common.{subst}
use Rattle.pure_find.specs.Findings.{IsOutlineIn}
use Rattle.pure_find.proofs.FactLaws.{axiom-stated, promise-stated, axiom-declared, promise-declared}
use Rattle.pure_find.proofs.facts.add_declared.Goals as goal

pub add_named-requires-clause-declared : goal.add_named-requires-clause-declared
add_named-requires-clause-declared c = axiom-stated c.args.theory.now c.in-Axiom.name (subst (IsOutlineIn c.args.theory.now) c.in-Axiom.is c.requires.declared)

pub add_named-requires-in-Promise-clause-declared : goal.add_named-requires-in-Promise-clause-declared
add_named-requires-in-Promise-clause-declared c = promise-stated c.args.theory.now c.in-Promise.name _ (subst (IsOutlineIn c.args.theory.now) c.in-Promise.is c.requires.declared)

pub returns-in-Axiom : goal.returns-in-Axiom
returns-in-Axiom c = axiom-declared c.args.names.now c.args.theory.now c.args.long.now c.in-Axiom.name c.args.decl c.in-Axiom.is _ _ _ c.add_named.ensures

pub returns-in-Promise : goal.returns-in-Promise
returns-in-Promise c = promise-declared c.args.names.now c.args.theory.now c.args.long.now c.in-Promise.name _ c.args.decl c.in-Promise.is _ _ _ c.add_named-in-Promise.ensures
