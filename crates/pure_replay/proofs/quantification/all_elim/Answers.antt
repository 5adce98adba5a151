use Rattle.std.proofs.Common.{refl, sym, ap, ◌∙◌}
use Rattle.pure_definitions.specs.Terms.Bounds.{subst_bound}
use Rattle.pure_term_laws.proofs.TypingLaws.{typed-closed}
use Rattle.pure_replay.specs.Conclusion.{Conclusion}
use Rattle.pure_replay.specs.Step.{plain_content}
use Rattle.pure_replay.specs.Figures.{GivesAllElim}
use Rattle.pure_replay.proofs.StepLaws.{step-made}
use Rattle.pure_replay.proofs.quantification.all_elim.Goals as goal

pub put-requires : goal.put-requires
put-requires c = typed-closed c.args.t.now c.in-Some.typ.now (c.in_ok-is_certified_of.ensures.0 c.if-not-branch.false).typed

pub returns : goal.returns
returns c =
    let A = subst_bound c.in-Some.body.now c.args.t.now in
    step-made (record { hyps = c.args.above.now.hyps; prop = A }) (GivesAllElim (plain_content c.args.declared.now) c.args.t.now c.args.above.now)
    (record {
      typ = c.in-Some.typ.now;
      body = c.in-Some.body.now;
      quantified = sym (ap (λ (e : Conclusion). e.prop) c.above.view_is) ∙ c.in-Some.ensures;
      certified = c.in_ok-is_certified_of.ensures.0 c.if-not-branch.false;
      is = refl;
    }) c.kept.result (c.kept.ensures A c.put.ensures)
