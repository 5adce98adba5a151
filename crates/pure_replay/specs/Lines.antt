-- The lines of a record: their trees, and what these conclude.
use Rattle.std.specs.Prelude.{◌≡◌, ℕ, ◌+◌, ◌≤◌, List, [], ◌∷◌, ◌++◌, Some, slice_get}
use Rattle.pure_definitions.specs.Terms.Term.{Term, term_size, IsWithin}
use Rattle.pure_definitions.specs.Terms.Subst.{typ_image}
use Rattle.pure_definitions.specs.Models.Comparison.{term_cmp}
use Rattle.pure_logic.specs.Content.{Content}
use Rattle.pure_logic.specs.Tree as tree
use Rattle.pure_logic.specs.Tree.{Tree, hyps_of, joined_terms}
use Rattle.pure_logic.specs.Concludes.{Concludes}
use Rattle.pure_theorem.specs.Sets.{IsSetOf}
use Rattle.pure_record.specs.Lines.{Node, Axiom, Assume, AllIntro, AllElim, ImpIntro, ImpElim, Beta, Refl, Subst, Ext, Iff}
use Rattle.pure_replay.specs.Conclusion.{Conclusion}
use Rattle.pure_replay.specs.Figures.{AreEntries}

-- a line: its derivation tree, and what the tree concludes
pub record Line : Type 0 where
  pub tree : Tree
  pub conclusion : Conclusion

-- The line with this number has the tree. Lines are counted from 0.
abbrev pub IsTreeAt : List Line → ℕ → Tree → Type 0
IsTreeAt lines n d = (l : Line) × (slice_get lines n ≡ Some l) × (d ≡ l.tree)

-- The tree of a node is that with its name, over the trees of the lines that it names, all of them earlier. The maps of an axiom are joined: the types are put in first.
abbrev pub IsTreeOf : (earlier : List Line) → Node → Tree → Type 0
IsTreeOf earlier (Axiom name typs terms) d = d ≡ tree.Axiom name (typ_image typs) (joined_terms typs terms)
IsTreeOf earlier (Assume A) d = d ≡ tree.Assume A
IsTreeOf earlier (AllIntro x n) d = (e : Tree) × IsTreeAt earlier n e × (d ≡ tree.AllIntro x e)
IsTreeOf earlier (AllElim t n) d = (e : Tree) × IsTreeAt earlier n e × (d ≡ tree.AllElim t e)
IsTreeOf earlier (ImpIntro A n) d = (e : Tree) × IsTreeAt earlier n e × (d ≡ tree.ImpliesIntro A e)
IsTreeOf earlier (ImpElim m n) d = (e f : Tree) × IsTreeAt earlier m e × IsTreeAt earlier n f × (d ≡ tree.ImpliesElim e f)
IsTreeOf earlier (Beta t) d = d ≡ tree.Beta t
IsTreeOf earlier (Refl t) d = d ≡ tree.Refl t
IsTreeOf earlier (Subst p x y) d = d ≡ tree.Subst p x y
IsTreeOf earlier (Ext f g) d = d ≡ tree.Ext f g
IsTreeOf earlier (Iff A B) d = d ≡ tree.Iff A B

-- What the maps of a node have to be, beyond what its tree asks: their entries are looked at whether they are used or not.
abbrev pub HasEntries : Content → Node → Type 0
HasEntries Q (Axiom name typs terms) = AreEntries Q typs terms
HasEntries Q _ = Unit {0}

-- Behind the earlier lines the node has this tree, which concludes the proposition.
pub record IsGoodNode (Q : Content) (earlier : List Line) (node : Node) (d : Tree) (A : Term) : Type 0 where
  pub is_tree : IsTreeOf earlier node d
  pub entries : HasEntries Q node
  pub concludes : Concludes Q d A

-- The line is that of the node. Its hypotheses are a set, however often a tree assumes one.
pub record IsLine (Q : Content) (earlier : List Line) (node : Node) (line : Line) : Type 0 where
  pub good : IsGoodNode Q earlier node line.tree line.conclusion.prop
  pub hyps : IsSetOf term_cmp (hyps_of line.tree) line.conclusion.hyps

-- the sum of the sizes of terms; of a conclusion and its hypotheses; of those of lines
abbrev pub terms_size : List Term → ℕ
terms_size [] = 0
terms_size (A ∷ As) = term_size A + terms_size As

abbrev pub conclusion_size : Conclusion → ℕ
conclusion_size c = term_size c.prop + terms_size c.hyps

abbrev pub lines_size : List Line → ℕ
lines_size [] = 0
lines_size (l ∷ ls) = conclusion_size l.conclusion + lines_size ls

abbrev pub most_size : ℕ
most_size = 2000000

-- The line fits behind the earlier ones: its proposition is within the limits, and the sizes of the conclusions and hypotheses of all lines so far sum to at most 2,000,000.
pub record IsFitting (earlier : List Line) (line : Line) : Type 0 where
  pub within : IsWithin line.conclusion.prop
  pub sum : lines_size earlier + conclusion_size line.conclusion ≤ most_size

-- The lines are those of the nodes, in order, and each fits behind those before it.
pub data AreLines (Q : Content) : List Node → List Line → Type 0 where
  none : AreLines Q [] []
  more : {earlier all : List Node} {lines all_lines : List Line} → (node : Node) → (line : Line) → AreLines Q earlier lines → IsLine Q lines node line → IsFitting lines line
      → all ≡ earlier ++ node ∷ [] → all_lines ≡ lines ++ line ∷ [] → AreLines Q all all_lines
