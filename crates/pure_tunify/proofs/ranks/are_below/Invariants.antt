use Rattle.std.proofs.Common.{take, ◌<◌}
use Rattle.pure_text.specs.Lists.{Each}
use Rattle.pure_tunify.specs.GraphCode.{root_at, rank_at}
use Rattle.pure_tunify.proofs.ranks.are_below.Given as goal

abbrev pub invariant-loop-kid : goal.invariant-loop-kid
invariant-loop-kid l = Each (λ kid. rank_at l.ranks (root_at l.roots kid) < l.most) (take l.kid-index l.kids)
