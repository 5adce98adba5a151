use Rattle.pure_definitions.specs.Terms.Subst.{typ_variable}
use Rattle.pure_replay.specs.Step.{plain_content}
use Rattle.pure_replay.specs.Figures.{IsTypEntry}
use Rattle.pure_replay.proofs.EntryLaws.{AreSoFar}
use Rattle.pure_replay.proofs.instance.typ_map.Given as goal

abbrev pub invariant-loop-bind : goal.invariant-loop-bind
invariant-loop-bind l = AreSoFar typ_variable (IsTypEntry (plain_content l.declared)) l.binds l.bind-index l.all
