use Rattle.std.proofs.Common.{refl}
use Rattle.pure_session.specs.Waiting.{seen_loaded}
use Rattle.pure_theory_run.specs.Outline.{outlines}
use Rattle.pure_theory_run.proofs.OutlineLaws.{parents-of}
use Rattle.pure_theory_run.proofs.BeginLaws.{barred-by_parent, stands-begun}
use Rattle.pure_theory_run.proofs.checker.Checker.begin.Goals as goal

pub theory-loaded-requires : goal.theory-loaded-requires
theory-loaded-requires c = (c.requires.theory, c.requires.is_at)

pub barred_row-requires : goal.barred_row-requires
barred_row-requires c = (
  outlines c.args.parents.now,
  parents-of c.args.self.now.texts c.args.self.now.theories c.args.theory (outlines c.args.parents.now) (seen_loaded c.theory-loaded.result.now) c.requires c.theory-loaded.ensures,
  c.in-Some.ensures.0,
)

pub returns-in_ok-row-in-Some : goal.returns-in_ok-row-in-Some
returns-in_ok-row-in-Some c =
    let parents = parents-of c.args.self.now.texts c.args.self.now.theories c.args.theory (outlines c.args.parents.now) (seen_loaded c.theory-loaded.result.now) c.requires c.theory-loaded.ensures in
    let said = c.in_ok-row-in-Some.ensures in
    record {
      index_is = refl;
      standing = barred-by_parent c.args.self.now.texts c.args.self.now.theories c.args.theory (seen_loaded c.theory-loaded.result.now) c.theory-loaded.ensures (outlines c.args.parents.now) parents c.in-Some.place said.0 c.in_ok-row-in-Some.row c.in-Some.ensures
          said.1 said.2;
    }

pub returns-in_ok-standing-in-None : goal.returns-in_ok-standing-in-None
returns-in_ok-standing-in-None c =
    let parents = parents-of c.args.self.now.texts c.args.self.now.theories c.args.theory (outlines c.args.parents.now) (seen_loaded c.theory-loaded.result.now) c.requires c.theory-loaded.ensures in
    record {
      index_is = refl;
      standing = stands-begun c.args.self.now.texts c.args.self.now.theories c.args.theory (seen_loaded c.theory-loaded.result.now) c.theory-loaded.ensures (outlines c.args.parents.now) parents c.in-None.ensures c.in_ok-standing-in-None.standing
          c.in_ok-standing-in-None.ensures;
    }

pub begun-requires-clause-parents : goal.begun-requires-clause-parents
begun-requires-clause-parents c =
    parents-of c.args.self.now.texts c.args.self.now.theories c.args.theory (outlines c.args.parents.now) (seen_loaded c.theory-loaded.result.now) c.requires c.theory-loaded.ensures
