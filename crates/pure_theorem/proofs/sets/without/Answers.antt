use Rattle.std.proofs.Common.{◌∙◌, ap, sym, subst, take_all}
use Rattle.pure_logic.specs.Tree.{without}
use Rattle.pure_theorem.specs.Sets.{IsTermSet}
use Rattle.pure_theorem.proofs.SetLaws.{without-turn, set-without}
use Rattle.pure_theorem.proofs.sets.without.Goals as goal

pub loop-hyp-preserved : goal.loop-hyp-preserved
loop-hyp-preserved c =
    without-turn c.args.a.now c.args.hyps.now c.loop-hyp.kept.items c.keep_other.new.kept.items c.loop-hyp.hyp-index c.hyp-item.result c.loop-hyp-test.true c.hyp-item.is c.loop-hyp.invariant c.in_ok-keep_other.ensures

pub returns-clause-set : goal.returns-clause-set
returns-clause-set c = λ set.
    subst IsTermSet (sym (c.loop-hyp.invariant ∙ ap (without c.args.a.now) (take_all c.loop-hyp.hyp-index c.args.hyps.now c.loop-hyp-test.false))) (set-without c.args.a.now c.args.hyps.now set)
