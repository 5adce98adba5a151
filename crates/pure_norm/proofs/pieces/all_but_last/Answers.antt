use Rattle.pure_norm.proofs.PieceLemmas.{rest-same, not_empty}
use Rattle.pure_norm.proofs.pieces.all_but_last.Goals as goal

pub returns-in_default : goal.returns-in_default
returns-in_default c = λ body last is. absurd (not_empty c.args.cells.now body last c.in_default.ensures.cases is)

pub returns : goal.returns
returns c = λ body last is. rest-same _ _ _ _ _ c.in-Some.ensures.cases.0 is
