use Rattle.pure_text.proofs.ListLaws.{any_of, read_in}
use Rattle.pure_definitions.specs.Terms.Subst.{typ_image}
use Rattle.pure_unify_steps.specs.Gathered.{IsSameAs}
use Rattle.pure_unify_steps.proofs.gather.has_same.Goals as goal

pub returns-then-branch : goal.returns-then-branch
returns-then-branch c =
    any_of (IsSameAs (typ_image c.args.typs.now) c.args.v.now) c.other-item.result c.args.list.now (read_in c.args.list.now c.loop-other.other-index c.other-item.result c.loop-other-test.true c.other-item.is)
    (rw c.if-branch.true at c.in_ok-is_same_as.ensures)
