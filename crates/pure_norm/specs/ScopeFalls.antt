-- The scopes in a scope are less high.
use Rattle.std.specs.Prelude.{◌≤◌, max}
use Rattle.std.proofs.Common.{arith}
use Rattle.pure_norm.specs.declared.scope.ScopeNode.{ScopeNode}
use Rattle.pure_norm.specs.declared.scope.ScopeNode.TheVariants as node
use Rattle.pure_norm.specs.declared.scope.Scope.TheDeep.{deep-ScopeNode}
use Rattle.pure_norm.specs.Env.{env_height}
use Rattle.pure_norm.specs.ScopeView.{view_scope}

pub height_le-env_height : (n : ScopeNode) → max (deep-ScopeNode n) 0 ≤ env_height (view_scope n)
height_le-env_height node.Empty = omega arith
height_le-env_height (node.Bind c inner m rest) = omega arith
height_le-env_height (node.Under rest) = omega arith
height_le-env_height (node.Raise by rest) = omega arith
