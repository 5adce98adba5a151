-- What a scope is seen as, and what it knows.
use Rattle.std.specs.Prelude.{◌≡◌}
use Rattle.pure_norm.specs.declared.scope.ScopeNode.{ScopeNode}
use Rattle.pure_norm.specs.declared.scope.ScopeNode.TheVariants as node
use Rattle.pure_norm.specs.Env.{meant}
use Rattle.pure_norm.specs.Env as env
use Rattle.pure_norm.specs.Measures.{measure_of}
use Rattle.pure_norm.specs.Pieces.{IsPiece}

abbrev pub view_scope : ScopeNode → env.Env
view_scope node.Empty = env.Empty
view_scope (node.Bind p inner m rest) = env.Bind p.term.now inner.value rest.value
view_scope (node.Under rest) = env.Under rest.value
view_scope (node.Raise by rest) = env.Raise by rest.value

-- The measure that is noted at a binder is that of the term which stands for its variable, and this term has its row.
abbrev pub IsMeasured : ScopeNode → Type 0
IsMeasured (node.Bind p inner m rest) = (m ≡ measure_of (meant inner.value p.term.now)) × IsPiece p
IsMeasured _ = Unit {0}
