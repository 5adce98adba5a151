use Rattle.pure_term.specs.Scope.{scope_typs}
use Rattle.pure_unify_nodes.proofs.OneTypLaws.{same_typs}
use Rattle.pure_unify_nodes.proofs.typs.have_same_typ.Goals as goal

pub returns : goal.returns
returns c =
    same_typs (scope_typs c.args.scope.now) c.args.l.now c.args.r.now c.in-Some.typ.now c.in-Some-front_typ.other.now c.in-Some.ensures c.in-Some-front_typ.ensures (c.are_same_typs.ensures.0 c.if-not-are_same_typs.false)
