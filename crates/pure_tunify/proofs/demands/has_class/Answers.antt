use Rattle.std.proofs.Common.{ℕ, subst}
use Rattle.pure_text.specs.Lists.{IsIn}
use Rattle.pure_text.proofs.AnswerLaws.{test_eq}
use Rattle.pure_text.proofs.ListLaws.{read_in}
use Rattle.pure_tunify.proofs.demands.has_class.Goals as goal

pub returns-then-eq : goal.returns-then-eq
returns-then-eq c =
    subst (λ (n : ℕ). IsIn n c.args.classes.now) ((test_eq c.own-item.result c.args.class c.eq.result c.eq.ensures).0 c.if-eq.true) (read_in c.args.classes.now c.loop-own.own-index c.own-item.result c.loop-own-test.true c.own-item.is)
