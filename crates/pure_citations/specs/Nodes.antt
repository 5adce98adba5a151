-- The nodes of the graph: the axioms, definitions and lemmas of a table, by its rows.
use Rattle.std.specs.Prelude.{ℕ, nat_eq, if◌then◌else◌, List, [], ◌∷◌, ◌++◌, Option, Some, None}
use Rattle.std.specs.List.{filter_map}
use Rattle.pure_print.specs.declared.row.Row.{Row}
use Rattle.pure_print.specs.declared.row.RowStatus.{RowStatus}
use Rattle.pure_print.specs.declared.row.RowStatus.TheVariants.{Declared, Refused, Proved, Failed, Tainted, Cancelled, Unsettled}
use Rattle.pure_statements.specs.Rows.{axiom_word, definition_word}
use Rattle.pure_citations.specs.Heads.{definition_end}
use Rattle.pure_citations.specs.declared.nodes.Kind.{Kind}
use Rattle.pure_citations.specs.declared.nodes.Kind.TheVariants as kind
use Rattle.pure_citations.specs.declared.nodes.Node.{Node}

-- what stands behind the word, where the text begins with it
abbrev pub behind : (word text : List ℕ) → Option (List ℕ)
behind [] text = Some text
behind (w ∷ word) [] = None
behind (w ∷ word) (b ∷ text) = if nat_eq w b then behind word text else None

-- the node with this name
abbrev pub node : Kind → (name : List ℕ) → Option Node
node k name = Some (record { kind = k; name = name })

-- the node of a definition, if its constant is given: it has the name of its fact
abbrev pub definition_node : Option (List ℕ) → Option Node
definition_node (Some constant) = node kind.Definition (constant ++ definition_end)
definition_node None = None

-- the node of an axiom, if its name is given, and else the other
abbrev pub axiom_node : (other : Option Node) → Option (List ℕ) → Option Node
axiom_node other (Some name) = node kind.Axiom name
axiom_node other None = other

-- the node of a row that declares something with this head: an axiom or a definition
abbrev pub declared_node : (head : List ℕ) → Option Node
declared_node head = axiom_node (definition_node (behind definition_word head)) (behind axiom_word head)

-- the node of a row with this status and head
abbrev pub node_by : RowStatus → (head : List ℕ) → Option Node
node_by Declared head = declared_node head
node_by Refused head = None
node_by Proved head = node kind.Proved head
node_by Failed head = node kind.Failed head
node_by Tainted head = node kind.Tainted head
node_by Cancelled head = node kind.Left head
node_by Unsettled head = node kind.Left head

-- the node of a row, if it is one
abbrev pub node_of : Row → Option Node
node_of r = node_by r.status r.head

-- the nodes of a table, in its order
abbrev pub nodes_of : List Row → List Node
nodes_of = filter_map node_of
