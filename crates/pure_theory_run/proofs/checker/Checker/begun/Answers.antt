use Rattle.pure_session.specs.Waiting.{seen_loaded}
use Rattle.pure_theory_run.specs.Outline.{outlines}
use Rattle.pure_theory_run.proofs.BeginLaws.{may-begin}
use Rattle.pure_theory_run.proofs.checker.Checker.begun.Goals as goal

pub name_of-name-requires : goal.name_of-name-requires
name_of-name-requires c = (c.args.index, c.requires.theory)

pub begun_over-requires-clause-may : goal.begun_over-requires-clause-may
begun_over-requires-clause-may c = rw (c.as_slice.ensures.value, c.in_ok-stages.ensures)
    (may-begin c.args.self.now.texts c.args.self.now.theories c.args.index (seen_loaded c.args.theory.now) c.requires.theory (outlines c.args.parents.now) c.requires.parents c.is_loaded_session.ensures c.requires.ran c.name_of-name.result c.name_of-name.ensures)
