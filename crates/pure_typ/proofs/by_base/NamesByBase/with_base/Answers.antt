use Rattle.pure_typ.proofs.ByBaseLemmas.{with_base-exact, with_base-ascends}
use Rattle.pure_typ.proofs.by_base.NamesByBase.with_base.Goals as goal

pub returns-clause-exact : goal.returns-clause-exact
returns-clause-exact c = rw c.listed.ensures (with_base-exact c.args.self.now c.args.base.now)

pub returns-clause-ascend : goal.returns-clause-ascend
returns-clause-ascend c = rw c.listed.ensures (with_base-ascends c.args.self.now c.args.base.now)
