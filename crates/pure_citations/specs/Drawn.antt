-- The graph of what lemmas rest on, as a text in DOT, the language of Graphviz (its documentation, 'DOT Language').
use Rattle.std.specs.Prelude.{◌≡◌, ◌⊎◌, ◌↔◌, ℕ, map, if◌then◌else◌, List, [], ◌∷◌, ◌++◌, is_some, codes}
use Rattle.std.specs.List.{flat_map}
use Rattle.pure_text.specs.Lists.{IsIn, EachTwo}
use Rattle.pure_definitions.specs.Names.{Label}
use Rattle.pure_typ.specs.NameTexts.{HasText}
use Rattle.pure_order_tables.specs.Rows.{Holds}
use Rattle.pure_print.specs.NameText.{text_of_name}
use Rattle.pure_print.specs.declared.row.Row.{Row}
use Rattle.pure_table.specs.Declare.Notes.{Fork}
use Rattle.pure_promise_fates.specs.Entries.{RestsOn}
use Rattle.pure_table.specs.Promise.Entries.{LemmaEntry, plain}
use Rattle.pure_citations.specs.Edges.{OfAxiom, OfLemma, Edge}
use Rattle.pure_citations.specs.Heads.{IsTextOf}
use Rattle.pure_citations.specs.Listed.{HasNumber}
use Rattle.pure_citations.specs.Nodes.{behind, nodes_of}
use Rattle.pure_citations.specs.declared.nodes.Kind.{Kind}
use Rattle.pure_citations.specs.declared.nodes.Kind.TheVariants as kind
use Rattle.pure_citations.specs.declared.nodes.Node.{Node}

-- a name in double quotes (34)
abbrev pub quoted : List ℕ → List ℕ
quoted name = 34 ∷ (name ++ 34 ∷ [])

-- how a node is drawn: an axiom in a box, a definition in a rounded one, a failed lemma red and a tainted one orange, one that was cancelled or hangs on such a one gray
unfoldable pub drawn_as : Kind → List ℕ
drawn_as kind.Axiom = codes " [shape=box];" ++ 10 ∷ []
drawn_as kind.Definition = codes " [shape=box, style=rounded];" ++ 10 ∷ []
drawn_as kind.Proved = codes ";" ++ 10 ∷ []
drawn_as kind.Failed = codes " [color=red];" ++ 10 ∷ []
drawn_as kind.Tainted = codes " [color=orange];" ++ 10 ∷ []
drawn_as kind.Left = codes " [color=gray];" ++ 10 ∷ []

-- the line of a node
abbrev pub node_line : Node → List ℕ
node_line n = quoted n.name ++ drawn_as n.kind

-- the line of a node whose full name begins so, and nothing of another
abbrev pub line_behind : (beginning : List ℕ) → Node → List ℕ
line_behind beginning n = if is_some (behind beginning n.name) then node_line n else []

-- the line of a node of the theory, in whose full name a dot (46) stands behind the theory's, and nothing of another
abbrev pub line_in : (theory : List ℕ) → Node → List ℕ
line_in theory = line_behind (theory ++ 46 ∷ [])

unfoldable pub cluster_word : List ℕ
cluster_word = codes "subgraph " ++ 34 ∷ codes "cluster_"

unfoldable pub label_word : List ℕ
label_word = 34 ∷ codes " {" ++ 10 ∷ codes "label="

unfoldable pub label_end : List ℕ
label_end = codes ";" ++ 10 ∷ []

unfoldable pub closing : List ℕ
closing = codes "}" ++ 10 ∷ []

-- how the cluster of a theory begins, and its label
abbrev pub cluster_title : (theory : List ℕ) → List ℕ
cluster_title theory = cluster_word ++ (theory ++ label_word)

abbrev pub cluster_label : (theory : List ℕ) → List ℕ
cluster_label theory = quoted theory ++ label_end

-- what stands before the nodes of a theory
abbrev pub cluster_head : (theory : List ℕ) → List ℕ
cluster_head theory = cluster_title theory ++ cluster_label theory

-- the theory, with its nodes
abbrev pub cluster : List Node → (theory : List ℕ) → List ℕ
cluster nodes theory = cluster_head theory ++ (flat_map (line_in theory) nodes ++ closing)

unfoldable pub arrow : List ℕ
arrow = codes " -> "

-- the line of an edge
abbrev pub edge_line : (from : List ℕ) → Node → List ℕ
edge_line from n = quoted from ++ (arrow ++ (quoted n.name ++ label_end))

-- The set holds the number of the node's name.
abbrev pub HasName : (texts : List (List ℕ)) → (named : List ℕ) → Node → Type 0
HasName texts named n = HasNumber texts (Holds named) n.name

-- The lemma with the label has this name.
abbrev pub IsNameOf : List LemmaEntry → Label → (name : ℕ) → Type 0
IsNameOf es l name = (g : LemmaEntry) × IsIn g es × (g.label ≡ l) × (g.name ≡ name)

-- An edge leads from the lemma with the label to the axiom, the definition or the lemma with this name.
abbrev pub IsEdgeToName : (texts : List (List ℕ)) → List Fork → List LemmaEntry → Label → (name : ℕ) → Type 0
IsEdgeToName texts fs es l name = Edge texts fs es l (OfAxiom name) ⊎ ((k : Label) × IsNameOf es k name × Edge texts fs es l (OfLemma k))

-- An edge leads from the lemma with the label to the node.
abbrev pub IsEdgeTo : (texts : List (List ℕ)) → List Fork → List LemmaEntry → Label → Node → Type 0
IsEdgeTo texts fs es l n = (number : ℕ) × HasText texts number n.name × IsEdgeToName texts fs es l number

-- The text has a line for each of these nodes to which an edge leads from the lemma, in their order.
abbrev pub AreEdgesOf : (texts : List (List ℕ)) → List Fork → List LemmaEntry → List Node → LemmaEntry → (text : List ℕ) → Type 0
AreEdgesOf texts fs es nodes e text = IsTextOf (edge_line (text_of_name texts e.name)) (IsEdgeTo texts fs es e.label) nodes text

-- The text has the edges of some lemmas, one lemma after the other.
pub record AreEdges (texts : List (List ℕ)) (fs : List Fork) (es : List LemmaEntry) (nodes : List Node) (some : List LemmaEntry) (text : List ℕ) : Type 0 where
  pub parts : List (List ℕ)
  pub each : EachTwo (AreEdgesOf texts fs es nodes) some parts
  pub text_is : text ≡ flat_map (λ (part : List ℕ). part) parts

-- Proofs rest on just the promises that their steps name.
abbrev pub AreNamedRests : (texts : List (List ℕ)) → List Fork → List LemmaEntry → Type 0
AreNamedRests texts fs es = (l k : Label) → Edge texts fs es l (OfLemma k) ↔ RestsOn (map plain es) l k

-- The edges of the lemma are put behind the text,
abbrev pub AreEdgesPut : (texts : List (List ℕ)) → List Fork → List LemmaEntry → List Node → LemmaEntry → (old new : List ℕ) → Type 0
AreEdgesPut texts fs es nodes e old new = (lines : List ℕ) × AreEdgesOf texts fs es nodes e lines × (new ≡ old ++ lines)

-- and those of some lemmas.
abbrev pub AreAllPut : (texts : List (List ℕ)) → List Fork → List LemmaEntry → List Node → (some : List LemmaEntry) → (old new : List ℕ) → Type 0
AreAllPut texts fs es nodes some old new = (lines : List ℕ) × AreEdges texts fs es nodes some lines × (new ≡ old ++ lines)

unfoldable pub opening : List ℕ
opening = codes "digraph session {" ++ 10 ∷ []

-- The text is the graph of these theories, by their lemmas, the entries of these and the rows of the table: the theories, with their nodes, and then the edges.
pub record IsDrawing (texts : List (List ℕ)) (theories : List (List ℕ)) (fs : List Fork) (es : List LemmaEntry) (rows : List Row) (text : List ℕ) : Type 0 where
  pub edges : List ℕ
  pub are_edges : AreEdges texts fs es (nodes_of rows) es edges
  pub text_is : text ≡ opening ++ (flat_map (cluster (nodes_of rows)) theories ++ (edges ++ closing))
