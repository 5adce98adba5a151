use Rattle.std.proofs.Common.{◌∙◌}
use Rattle.pure_norm.proofs.PieceLemmas.{empty-sides, sides-cut, sides-fun, sides-arg}
use Rattle.pure_norm.proofs.pieces.sides_of.Goals as goal

pub returns-in_default : goal.returns-in_default
returns-in_default c = λ fun arg is. absurd (empty-sides c.args.cells.now fun arg c.in_default.ensures.cases is)

pub returns : goal.returns
returns c = λ fun arg is.
    let cut = sides-cut c.args.cells.now c.in-Some.rest.now fun arg c.in-Some.last.now c.in-Some.ensures.cases.0 is c.min-front.result c.front_of.result c.front_of.ensures c.min-front.ensures in (
      c.split_at.ensures.front ∙ sides-fun c.args.cells.now c.in-Some.rest.now fun arg c.in-Some.last.now c.in-Some.ensures.cases.0 is c.min-front.result cut,
      c.split_at.ensures.back ∙ sides-arg c.args.cells.now c.in-Some.rest.now fun arg c.in-Some.last.now c.in-Some.ensures.cases.0 is c.min-front.result cut,
    )
