use Rattle.pure_definitions.specs.Terms.Subst.{term_variable}
use Rattle.pure_replay.specs.Step.{plain_content}
use Rattle.pure_replay.specs.Figures.{IsTermEntry}
use Rattle.pure_replay.proofs.EntryLaws.{AreSoFar}
use Rattle.pure_replay.proofs.instance.term_map.Given as goal

abbrev pub invariant-loop-bind : goal.invariant-loop-bind
invariant-loop-bind l = AreSoFar term_variable (IsTermEntry (plain_content l.declared)) l.binds l.bind-index l.all
