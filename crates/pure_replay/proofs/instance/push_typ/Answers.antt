use Rattle.std.proofs.Common.{ap}
use Rattle.pure_definitions.specs.Types.Typ.{TVar}
use Rattle.pure_definitions.specs.Terms.Subst.{typ_variable}
use Rattle.pure_replay.proofs.NodeLaws.{typ_bound-in}
use Rattle.pure_replay.proofs.instance.push_typ.Goals as goal

pub returns-in-Some : goal.returns-in-Some
returns-in-Some c = λ h.
    h.1 (typ_bound-in c.args.all.now (TVar c.bind.inside.name c.bind.inside.index c.bind.inside.sort) (typ_variable c.args.bind.now) c.in-Some.field-0.now (ap typ_variable c.bind.view_is) c.in-Some.ensures.bound)
