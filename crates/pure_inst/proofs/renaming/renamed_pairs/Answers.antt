use Rattle.pure_text.proofs.ListLaws.{each_read}
use Rattle.pure_inst.specs.Renaming.{IsPairRaisable}
use Rattle.pure_inst.proofs.renaming.renamed_pairs.Goals as goal

pub renamed_pair-requires : goal.renamed_pair-requires
renamed_pair-requires c = each_read (IsPairRaisable c.args.renaming.now.by) c.args.pairs.now c.loop-pair.pair-index c.pair-item.result c.loop-pair-test.true c.pair-item.is c.requires
