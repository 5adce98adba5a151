-- The order in which theories are loaded.
use Rattle.std.specs.Prelude.{◌≡◌, ◌⊎◌, ℕ, suc, List, [], ◌∷◌, ◌++◌, map, if◌then◌else◌}
use Rattle.std.specs.declared.cmp.Ordering.TheVariants.{Less}
use Rattle.std.specs.Ordering.{nat_cmp}
use Rattle.std.specs.Cmp.Lexicographic.{slice_cmp}
use Rattle.pure_text.specs.Lists.{IsIn, Each}
use Rattle.pure_grammar.specs.Theories.Lexeme.{same}
use Rattle.pure_grammar.specs.Theories.TheoryText.{TheoryText}
use Rattle.pure_graph.specs.Outcome.{Stands}
use Rattle.pure_graph.specs.Reading.{File}
use Rattle.pure_graph.specs.Graph.{named_imports}

-- A theory of the session: its name, the indexes of its imports other than Pure, in their order, its bytes and their tree.
pub record Loaded : Type 0 where
  pub name : List ℕ
  pub parents : List ℕ
  pub source : List ℕ
  pub text : TheoryText

-- the file of a theory that stands, with its bytes and their tree
abbrev pub file_of : (theory source : List ℕ) → TheoryText → File
file_of theory source text = record { theory = theory; outcome = Stands source text }

-- the file stands, it isn't taken yet, and its imports are
pub record IsReady (files : List File) (taken : List (List ℕ)) (theory source : List ℕ) (text : TheoryText) : Type 0 where
  pub stands : IsIn (file_of theory source text) files
  pub left : ¬ IsIn theory taken
  pub free : Each (λ p. IsIn p taken) (named_imports text)

-- ready, and no other one that is ready has a lesser name
pub record IsLeastReady (files : List File) (taken : List (List ℕ)) (theory source : List ℕ) (text : TheoryText) : Type 0 where
  pub ready : IsReady files taken theory source text
  pub least : (other bytes : List ℕ) (tree : TheoryText) → IsReady files taken other bytes tree → (theory ≡ other) ⊎ (slice_cmp nat_cmp theory other ≡ Less)

-- the index of a theory among those taken, the first of which has the index 1
abbrev pub index_among : (taken : List (List ℕ)) → (theory : List ℕ) → ℕ
index_among [] theory = 0
index_among (t ∷ taken) theory = if same t theory then 1 else suc (index_among taken theory)

-- Behind the theories that are taken come these, until all that stand are taken.
abbrev pub AreTakenBehind : List File → (taken : List (List ℕ)) → List Loaded → Type 0
AreTakenBehind files taken [] = (theory source : List ℕ) (text : TheoryText) → IsIn (file_of theory source text) files → IsIn theory taken
AreTakenBehind files taken (l ∷ loaded) =
    IsLeastReady files taken l.name l.source l.text × (l.parents ≡ map (index_among taken) (named_imports l.text))
    × AreTakenBehind files (taken ++ l.name ∷ []) loaded

-- Again and again the least name is taken whose imports are all taken.
abbrev pub AreInLoadOrder : List File → List Loaded → Type 0
AreInLoadOrder files loaded = AreTakenBehind files [] loaded
