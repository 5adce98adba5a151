use Rattle.std.proofs.Common.{refl}
use Rattle.pure_grammar.specs.Theories.TheoryText.{Done}
use Rattle.pure_method.proofs.ReadyLaws.{unify_content}
use Rattle.pure_method.proofs.RunLaws.{lemma-derivable, run-ends, run-unfinished, shown-result}
use Rattle.pure_method.proofs.FurtherLaws.{done-stops, unfinished-stops}
use Rattle.pure_method.proofs.run.ended.Goals as goal

pub check_end-requires : goal.check_end-requires
check_end-requires c = c.requires.run.may.is

pub proved-requires-clause-set : goal.proved-requires-clause-set
proved-requires-clause-set c = c.requires.run.ascend

pub proved-requires-clause-derivable : goal.proved-requires-clause-derivable
proved-requires-clause-derivable c =
    lemma-derivable c.args._names.now c.args.duty.now (unify_content c.args.duty.now.content c.theory_of.ensures.sound) c.requires.provable c.args.run.now.goal.thm.rests
    (run-ends c.args._names.now c.args.duty.now c.requires.provable c.args.run.now.goal.thm c.args.run.now.number c.args.run.now.at c.requires.run Done c.requires.end refl c.in-Ok.ensures.proves.0 c.in-Ok.ensures.proves.1)

pub returns-in-Ok : goal.returns-in-Ok
returns-in-Ok c =
    shown-result c.args._names.now c.args.duty.now c.args.run.now c.args.run.now.goal.thm.rests
    (run-ends c.args._names.now c.args.duty.now c.requires.provable c.args.run.now.goal.thm c.args.run.now.number c.args.run.now.at c.requires.run Done c.requires.end refl c.in-Ok.ensures.proves.0 c.in-Ok.ensures.proves.1)
    (done-stops c.args._names.now c.args.duty.now c.args.run.now Done c.requires.end c.requires.run refl c.in-Ok.ensures.proves.0 c.in-Ok.ensures.proves.1)
    c.proved.result c.proved.ensures

pub returns-else-is_memory : goal.returns-else-is_memory
returns-else-is_memory c = (
  run-unfinished c.args._names.now c.args.duty.now c.requires.provable c.args.run.now.goal.thm c.args.run.now.number c.args.run.now.at c.requires.run Done c.requires.end refl c.in-Err.fault c.if-is_memory.ensures c.in-Err.ensures.fault,
  unfinished-stops c.args._names.now c.args.duty.now c.args.run.now Done c.requires.end c.requires.run refl c.in-Err.fault c.if-is_memory.ensures c.in-Err.ensures.fault,
)
