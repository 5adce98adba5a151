use Rattle.std.proofs.Common.{refl}
use Rattle.pure_definitions.specs.Terms.Bounds.{subst_bound}
use Rattle.pure_logic.specs.Connectives.{eq}
use Rattle.pure_replay.specs.Conclusion.{alone}
use Rattle.pure_replay.specs.Step.{plain_content}
use Rattle.pure_replay.specs.Figures.{GivesBeta}
use Rattle.pure_replay.proofs.NodeLaws.{redex-closed}
use Rattle.pure_replay.proofs.StepLaws.{step-made}
use Rattle.pure_replay.proofs.equality.beta.Goals as goal

pub contracted-requires : goal.contracted-requires
contracted-requires c =
    redex-closed (plain_content c.args.declared.now) c.args.redex.now c.in-Some-2.range c.in-Some.ensures.0 c.in-Some.body.now c.in-Some.argument.now c.in-Some.ensures.1 (rw c.in-Some-2.is at c.in_ok-certified_typ.ensures)

pub returns-in-Some-2 : goal.returns-in-Some-2
returns-in-Some-2 c =
    let A = eq c.in-Some-2.range c.args.redex.now (subst_bound c.in-Some.body.now c.in-Some.argument.now) in
    step-made (alone A) (GivesBeta (plain_content c.args.declared.now) c.args.redex.now)
    (record {
      typ = c.in-Some.ensures.0;
      range = c.in-Some-2.range;
      body = c.in-Some.body.now;
      argument = c.in-Some.argument.now;
      is_redex = c.in-Some.ensures.1;
      certified = rw c.in-Some-2.is at c.in_ok-certified_typ.ensures;
      is = refl;
    }) c.single.result (c.single.ensures A c.contracted.ensures)
