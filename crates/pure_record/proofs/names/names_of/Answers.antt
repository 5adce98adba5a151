use Rattle.std.proofs.Common.{length}
use Rattle.pure_record.proofs.NameLemmas.{each-slice, others-named}
use Rattle.pure_record.proofs.names.names_of.Goals as goal

pub named-requires-clause-ascend : goal.named-requires-clause-ascend
named-requires-clause-ascend c = c.in_ok-texts.ensures.ascend

pub named-requires-clause-others : goal.named-requires-clause-others
named-requires-clause-others c =
    others-named c.args.source.now c.args.tokens.now c.in_ok-texts.texts (each-slice c.args.source.now 0 (length c.args.source.now) c.args.tokens.now c.requires) c.in_ok-texts.ensures

pub returns : goal.returns
returns c = rw c.in_ok-names.ensures c.in_ok-texts.ensures
