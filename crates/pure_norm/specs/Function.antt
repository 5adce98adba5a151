-- An abstraction whose body is held in a scope.
use Rattle.pure_definitions.specs.Terms.Term.{Term, Abs}
use Rattle.pure_norm.specs.declared.contract.Function.{Function}
use Rattle.pure_norm.specs.Env.{meant_under}

-- the abstraction that is meant
abbrev pub function_term : Function → Term
function_term f = Abs f.typ.now (meant_under 1 f.scope.value f.body.term.now)
