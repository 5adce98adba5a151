use Rattle.std.proofs.Common.{◌∙◌, arith}
use Rattle.pure_norm.proofs.RowLemmas.{count-piece, few-piece, deepest-piece, low-piece}
use Rattle.pure_norm.proofs.occurrences.find_occurrences.Goals as goal

pub occurrences_in-requires-clause-few : goal.occurrences_in-requires-clause-few
occurrences_in-requires-clause-few c = let less = few-piece c.args.body.now c.requires.piece in let few = c.requires.few in omega arith

pub occurrences_in-requires-clause-low : goal.occurrences_in-requires-clause-low
occurrences_in-requires-clause-low c = let less = low-piece c.args.body.now c.requires.piece c.args.deep in let low = c.requires.deep in omega arith

pub returns-clause-few : goal.returns-clause-few
returns-clause-few c = let less = few-piece c.args.body.now c.requires.piece in let same = c.occurrences_in.ensures.count in omega arith

pub returns-clause-count : goal.returns-clause-count
returns-clause-count c = c.occurrences_in.ensures.count ∙ count-piece c.args.body.now c.requires.piece

pub returns-clause-deepest : goal.returns-clause-deepest
returns-clause-deepest c = c.occurrences_in.ensures.deepest ∙ deepest-piece c.args.body.now c.requires.piece c.args.deep
