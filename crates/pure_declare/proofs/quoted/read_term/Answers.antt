use Rattle.std.proofs.Common.{ℕ, List, subst}
use Rattle.pure_script.specs.Seen.{span}
use Rattle.pure_statements.specs.Chain.{Answers}
use Rattle.pure_statements.specs.Quoted.{IsReadTerm}
use Rattle.pure_declare.proofs.quoted.read_term.Goals as goal

pub returns : goal.returns
returns c = subst (λ (s : List ℕ). Answers (IsReadTerm s (span c.args.at)) c.read_term.result) c.source.ensures.value c.read_term.ensures
