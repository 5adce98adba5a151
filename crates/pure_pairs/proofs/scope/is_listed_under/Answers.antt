use Rattle.std.proofs.Common.{◌≡◌, false, sym, ◌∙◌, take_all}
use Rattle.pure_text.proofs.LoopLaws.{each_turn}
use Rattle.pure_term.specs.Scope.{scope_typs}
use Rattle.pure_pairs.specs.Modulo.{closed_over}
use Rattle.pure_pairs.specs.Difference.{is_either_way}
use Rattle.pure_pairs.proofs.ModuloLaws.{listed-at, none_listed}
use Rattle.pure_pairs.proofs.scope.is_listed_under.Goals as goal

pub returns-then-is_pair : goal.returns-then-is_pair
returns-then-is_pair c =
    sym (listed-at c.args.pairs.now (closed_over (scope_typs c.args.scope.now) c.args.t.now) (closed_over (scope_typs c.args.scope.now) c.args.u.now) c.loop-pair.pair-index c.pair-item.result c.loop-pair-test.true c.pair-item.is
    (sym c.is_pair.ensures ∙ c.if-is_pair.true))

pub loop-pair-preserved : goal.loop-pair-preserved
loop-pair-preserved c =
    each_turn (λ p. is_either_way p (closed_over (scope_typs c.args.scope.now) c.args.t.now) (closed_over (scope_typs c.args.scope.now) c.args.u.now) ≡ false) c.args.pairs.now c.loop-pair.pair-index c.pair-item.result c.loop-pair-test.true c.pair-item.is
    c.loop-pair.invariant (sym c.is_pair.ensures ∙ c.if-is_pair.false)

pub returns : goal.returns
returns c =
    sym (none_listed c.args.pairs.now (closed_over (scope_typs c.args.scope.now) c.args.t.now) (closed_over (scope_typs c.args.scope.now) c.args.u.now)
    (rw (take_all c.loop-pair.pair-index c.args.pairs.now c.loop-pair-test.false) at c.loop-pair.invariant))
