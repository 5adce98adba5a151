use Rattle.std.proofs.Common.{refl}
use Rattle.pure_definitions.specs.Terms.Bounds.{subst_bound}
use Rattle.pure_term_laws.proofs.TypingLaws.{typed-closed}
use Rattle.pure_logic.specs.Connectives.{imp, eq}
use Rattle.pure_replay.specs.Conclusion.{alone}
use Rattle.pure_replay.specs.Step.{plain_content}
use Rattle.pure_replay.specs.Figures.{GivesSubst}
use Rattle.pure_replay.proofs.StepLaws.{step-made}
use Rattle.pure_replay.proofs.equality.subst.Goals as goal

pub replaced-requires-clause-left : goal.replaced-requires-clause-left
replaced-requires-clause-left c = typed-closed c.args.x.now c.in-Some.typ.now (c.in_ok-is_certified_of.ensures.0 c.if-not-branch-2.false).typed

pub replaced-requires-clause-right : goal.replaced-requires-clause-right
replaced-requires-clause-right c = typed-closed c.args.y.now c.in-Some.typ.now (c.in_ok-is_certified_of-2.ensures.0 c.if-not-branch-3.false).typed

pub returns : goal.returns
returns c =
    let A = imp (eq c.in-Some.typ.now c.args.x.now c.args.y.now) (imp (subst_bound c.in-Some.body.now c.args.x.now) (subst_bound c.in-Some.body.now c.args.y.now)) in
    step-made (alone A) (GivesSubst (plain_content c.args.declared.now) c.args.abstraction.now c.args.x.now c.args.y.now)
    (record {
      typ = c.in-Some.typ.now;
      body = c.in-Some.body.now;
      is_abstraction = c.in-Some.ensures;
      certified = c.in_ok-is_predicate.ensures.0 c.if-not-branch.false;
      left = c.in_ok-is_certified_of.ensures.0 c.if-not-branch-2.false;
      right = c.in_ok-is_certified_of-2.ensures.0 c.if-not-branch-3.false;
      is = refl;
    }) c.single.result (c.single.ensures A c.replaced.ensures)
