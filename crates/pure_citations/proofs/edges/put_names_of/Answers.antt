use Rattle.std.proofs.lemmas.List.{take_all}
use Rattle.pure_text.proofs.LoopLaws.{any_turn, turned}
use Rattle.pure_text.proofs.ListLaws.{each_read}
use Rattle.pure_text.specs.Lists.{IsIn}
use Rattle.pure_table.specs.Promise.Seen.{seen, reported}
use Rattle.pure_citations.specs.Drawn.{IsNameOf}
use Rattle.pure_citations.proofs.edges.put_names_of.Goals as goal

pub put_name_of-requires-clause-stands : goal.put_name_of-requires-clause-stands
put_name_of-requires-clause-stands c = each_read _ c.args.labels.now c.loop-label.label-index c.label-item.result c.loop-label-test.true c.label-item.is c.requires.stand

pub loop-label-preserved : goal.loop-label-preserved
loop-label-preserved c = λ n.
    turned _ _ _ _ _ _ (any_turn (λ k. IsNameOf (seen c.args.entries.now) k n) c.args.labels.now c.loop-label.label-index c.label-item.result c.loop-label-test.true c.label-item.is) (c.in_ok-put_name_of.ensures n) (c.loop-label.invariant n)

pub returns : goal.returns
returns c = (rw (take_all c.loop-label.label-index c.args.labels.now c.loop-label-test.false) at c.loop-label.invariant)
