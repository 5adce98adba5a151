use Rattle.std.proofs.Common.{◌∙◌, ap, sym, take_all}
use Rattle.std.specs.List.{list_any}
use Rattle.pure_definitions.specs.Terms.Term.{Var, term_eq}
use Rattle.pure_unify_definitions.specs.Fronts.{pair_variables}
use Rattle.pure_pattern.proofs.GivenLaws.{none-turn, some-turn}
use Rattle.pure_pattern.proofs.given.stands_in_pairs.Goals as goal

pub returns-then-stands_in_pair : goal.returns-then-stands_in_pair
returns-then-stands_in_pair c =
    sym (some-turn (Var c.args.name c.args.index c.args.typ.now) c.args.pairs.now c.loop-pair.pair-index c.pair-item.result c.loop-pair-test.true c.pair-item.is (sym c.stands_in_pair.ensures ∙ c.if-stands_in_pair.true))

pub loop-pair-preserved : goal.loop-pair-preserved
loop-pair-preserved c =
    none-turn (Var c.args.name c.args.index c.args.typ.now) c.args.pairs.now c.loop-pair.pair-index c.pair-item.result c.loop-pair-test.true c.pair-item.is c.loop-pair.invariant (sym c.stands_in_pair.ensures ∙ c.if-stands_in_pair.false)

pub returns : goal.returns
returns c =
    sym (ap (λ ps. list_any (term_eq (Var c.args.name c.args.index c.args.typ.now)) (pair_variables ps)) (sym (take_all c.loop-pair.pair-index c.args.pairs.now c.loop-pair-test.false)) ∙ c.loop-pair.invariant)
