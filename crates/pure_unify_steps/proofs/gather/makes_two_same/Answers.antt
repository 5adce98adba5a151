use Rattle.pure_text.proofs.ListLaws.{read_in}
use Rattle.pure_definitions.specs.Terms.Subst.{typ_image}
use Rattle.pure_unify_steps.proofs.GatherLaws.{two_same, some_same}
use Rattle.pure_unify_steps.proofs.gather.makes_two_same.Goals as goal

pub loop-v-init : goal.loop-v-init
loop-v-init c = some_same (typ_image c.args.typs.now) c.args.list.now

pub returns-then-branch : goal.returns-then-branch
returns-then-branch c = two_same (typ_image c.args.typs.now) c.v-item.result c.args.list.now (read_in c.args.list.now c.loop-v.v-index c.v-item.result c.loop-v-test.true c.v-item.is) (rw c.if-branch.true at c.in_ok-has_same.ensures)
