use Rattle.pure_definitions.specs.Models.Comparison.{term_cmp-ties}
use Rattle.pure_term.proofs.term.TermPartialEq.eq.Goals as goal

pub returns : goal.returns
returns c = let ties = term_cmp-ties c.args.self.now c.args.other.now in cc
