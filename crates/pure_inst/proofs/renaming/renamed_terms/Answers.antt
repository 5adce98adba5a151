use Rattle.pure_text.proofs.ListLaws.{each_read}
use Rattle.pure_inst.specs.Renaming.{IsRaisable}
use Rattle.pure_inst.proofs.renaming.renamed_terms.Goals as goal

pub renamed-requires : goal.renamed-requires
renamed-requires c = each_read (IsRaisable c.args.renaming.now.by) c.args.terms.now c.loop-term.term-index c.term-item.result c.loop-term-test.true c.term-item.is c.requires
