use Rattle.pure_session.specs.Waiting.{seen_loaded}
use Rattle.pure_theory_run.proofs.OutlineLaws.{parent-within, parent-theory}
use Rattle.pure_theory_run.proofs.checker.Checker.parent_name.Goals as goal

pub index_at-index-requires : goal.index_at-index-requires
index_at-index-requires c = rw c.as_slice.ensures.value (parent-within c.args.self.now.texts c.args.self.now.theories c.args.theory.now.parents.items c.requires.0 c.args.place c.requires.1 c.requires.2)

pub theory-parent-requires : goal.theory-parent-requires
theory-parent-requires c = parent-theory c.args.self.now.texts c.args.self.now.theories c.args.theory.now.parents.items c.requires.0 c.args.place c.index_at-index.result c.requires.1 (rw c.as_slice.ensures.value at c.index_at-index.ensures)

pub returns : goal.returns
returns c = record {
  index = c.index_at-index.result;
  held = rw c.as_slice.ensures.value at c.index_at-index.ensures;
  parent = seen_loaded c.theory-parent.result.now;
  is_at = c.theory-parent.ensures;
  name_is = c.bytes.ensures;
}
