-- Items and lines, as contracts see them.
use Rattle.std.specs.Prelude.{List, map}
use Rattle.pure_record.specs.Items as tree
use Rattle.pure_record.specs.Lines as line
use Rattle.pure_record.specs.declared.record.Item.{Item}
use Rattle.pure_record.specs.declared.record.Item.TheVariants as item
use Rattle.pure_record.specs.declared.record.Node.{Node}
use Rattle.pure_record.specs.declared.record.Node.TheVariants as node

abbrev pub seen_item : Item → tree.Item
seen_item (item.TypeDecl name params) = tree.TypeDecl name params
seen_item (item.Const name typ) = tree.Const name typ
seen_item (item.Axiom name prop) = tree.Axiom name prop

abbrev pub seen_node : Node → line.Node
seen_node (node.Axiom name typs terms) = line.Axiom name typs.items terms.items
seen_node (node.Assume prop) = line.Assume prop
seen_node (node.AllIntro var n) = line.AllIntro var n
seen_node (node.AllElim term n) = line.AllElim term n
seen_node (node.ImpIntro prop n) = line.ImpIntro prop n
seen_node (node.ImpElim imp prem) = line.ImpElim imp prem
seen_node (node.Beta term) = line.Beta term
seen_node (node.Refl term) = line.Refl term
seen_node (node.Subst p x y) = line.Subst p x y
seen_node (node.Ext f g) = line.Ext f g
seen_node (node.Iff a b) = line.Iff a b

-- The items and the lines of a record's lists.
abbrev pub seen_items : List Item → List tree.Item
seen_items = map seen_item

abbrev pub seen_lines : List Node → List line.Node
seen_lines = map seen_node
