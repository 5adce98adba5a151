use Rattle.pure_definitions.specs.Terms.Subst.{term_variable}
use Rattle.pure_replay.specs.Step.{plain_content}
use Rattle.pure_replay.specs.Figures.{IsTermEntry}
use Rattle.pure_replay.proofs.EntryLaws.{no_map}
use Rattle.pure_replay.proofs.instance.term_map.Goals as goal

pub returns-then-not-branch : goal.returns-then-not-branch
returns-then-not-branch c =
    no_map term_variable (IsTermEntry (plain_content c.args.declared.now)) c.args.binds.now c.loop-bind.all c.loop-bind.bind-index c.bind-item.result c.loop-bind-test.true c.bind-item.is c.loop-bind.invariant
    (rw c.if-not-branch.true at c.in_ok-push_term.ensures)
