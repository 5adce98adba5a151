use Rattle.std.proofs.Common.{sym, subst, Bool, []}
use Rattle.pure_unify_definitions.specs.Search as answers
use Rattle.pure_unify_definitions.specs.Search.{Searches, over, over_cut}
use Rattle.pure_unify.proofs.search.over.Goals as goal

pub returns-then-cut : goal.returns-then-cut
returns-then-cut c A maxidx k = subst (λ (b : Bool). Searches A maxidx k b [] answers.SearchBound) (sym c.if-cut.true) over_cut

pub returns : goal.returns
returns c A maxidx k = subst (λ (b : Bool). Searches A maxidx k b [] answers.NoUnifier) (sym c.if-cut.false) over
