use Rattle.std.proofs.lemmas.Result.{err_from_is_err_and}
use Rattle.pure_theory.proofs.DefinitionLaws.{made_schematic, defined_typ-certified, definition_is_statement, axiom_refused, defined}
use Rattle.pure_theory.proofs.theory.Theory.declare_definition.Goals as goal

pub declare_const-requires-clause-certified : goal.declare_const-requires-clause-certified
declare_const-requires-clause-certified c = rw c.in_ok-typ.ensures (defined_typ-certified c.args.self.now c.content_is_sound.ensures c.args.typ.now c.args.body.now c.requires)

pub declare_const-requires-clause-schematic : goal.declare_const-requires-clause-schematic
declare_const-requires-clause-schematic c = rw c.in_ok-typ.ensures (made_schematic c.args.typ.now)

pub with_axiom-requires : goal.with_axiom-requires
with_axiom-requires c =
    rw (c.in_ok-constant.ensures.ok, c.in_ok-prop.ensures, c.in_ok-typ.ensures)
    (definition_is_statement c.args.self.now c.content_is_sound.ensures c.args.typ.now c.args.body.now c.requires c.args.name c.in_ok-check_definition.ensures.closed.0)

pub returns-in_err-more-clause-fault : goal.returns-in_err-more-clause-fault
returns-in_err-more-clause-fault c =
    let p = err_from_is_err_and c.from_residual-in_err-more.result c.from_residual-in_err-more.ensures.1 in
    rw (p.1, p.2) (axiom_refused c.args.self.now _ c.args.name c.args.fact c.args.typ.now _ c.args.body.now _ _ _ c.in_ok-constant.ensures.ok c.in_ok-prop.ensures c.in_err-more.ensures.fault)

pub returns-clause-ok : goal.returns-clause-ok
returns-clause-ok c = defined c.args.self.now _ _ c.args.name c.args.fact c.args.typ.now _ c.args.body.now _ c.in_ok-typ.ensures c.in_ok-constant.ensures.ok c.in_ok-prop.ensures c.in_ok-more.ensures.ok
