-- Examples of contents.
use Rattle.std.specs.Prelude.{◌≡◌, ℕ, List, [], ◌∷◌, ◌++◌, Some, None}
use Rattle.pure_definitions.specs.Types.Typ.{TFree, TVar, arrow, prop}
use Rattle.pure_definitions.specs.Terms.Term.{Const, Free, Var, Bound, Abs, App}
use Rattle.pure_definitions.specs.Types.Order.{IsCoregular}
use Rattle.pure_definitions.specs.Declarations.Decl.{Decl, ClassDecl, ConDecl, ArityDecl, ConstDecl, AxiomDecl, PromiseDecl, algebra_of}
use Rattle.pure_term_laws.specs.LawsExamples.{i, j, k, c, d, e, a, f, x, any_x, class_above, arity}
use Rattle.pure_logic.specs.Connectives.{eq}
use Rattle.pure_logic.specs.Content.{TheoryId, Content, IsSchematic, IsContent, IsBelow, definition}
use Rattle.pure_logic.specs.Beginning.{IsMerge, ancestors_of, IsBeginning, HasTheoriesApart}
use Rattle.pure_logic.specs.PureContent.{pure_content, pure_declarations, proposition_variable}
use Rattle.pure_logic.specs.Examples.Theory.{promised, example}

-- a content of these declarations alone, in no theory
abbrev pub content_of : List Decl → Content
content_of ds = record { declarations = ds; own = None; ancestors = [] }

abbrev pub theory : (name index : ℕ) → TheoryId
theory name index = record { name = name; index = index }

-- The theory with index 1 declares the type constructor 10; that with index 2, over it, 11 too, which stands first in its list. A theory with both parents begins with 10 and 11, in this order, and has both for ancestors.
abbrev pub first_parent : Content
first_parent = record { declarations = ConDecl 10 0 ∷ []; own = Some (theory 61 1); ancestors = [] }

abbrev pub second_parent : Content
second_parent = record { declarations = ConDecl 11 0 ∷ ConDecl 10 0 ∷ []; own = Some (theory 62 2); ancestors = theory 61 1 ∷ [] }

abbrev pub beginning : Content
beginning = record { declarations = ConDecl 10 0 ∷ ConDecl 11 0 ∷ []; own = Some (theory 63 3); ancestors = theory 61 1 ∷ theory 62 2 ∷ [] }

abbrev pub BeginningExample : Type 0
BeginningExample = IsBeginning (theory 63 3) (first_parent ∷ second_parent ∷ []) beginning × HasTheoriesApart beginning

-- Its ancestors stand so in whichever order the parents come, since the second parent has the first for an ancestor. Where a theory is named twice its first place counts.
abbrev pub AncestorsExample : Type 0
AncestorsExample = (ancestors_of (second_parent ∷ first_parent ∷ []) ≡ theory 61 1 ∷ theory 62 2 ∷ [])
    × (ancestors_of (first_parent ∷ beginning ∷ second_parent ∷ []) ≡ theory 61 1 ∷ theory 62 2 ∷ theory 63 3 ∷ [])

-- Ancestors of one index and two names, or of one name and two indexes, aren't told apart; nor is a theory with an ancestor of its name, or of its index or a greater one.
abbrev pub in_theory : TheoryId → List TheoryId → Content
in_theory own ancestors = record { declarations = []; own = Some own; ancestors = ancestors }

abbrev pub NotApartExample : Type 0
NotApartExample = (¬ HasTheoriesApart (in_theory (theory 63 3) (theory 61 1 ∷ theory 62 1 ∷ []))) × (¬ HasTheoriesApart (in_theory (theory 63 3) (theory 61 1 ∷ theory 61 2 ∷ [])))
    × (¬ HasTheoriesApart (in_theory (theory 61 3) (theory 61 1 ∷ []))) × (¬ HasTheoriesApart (in_theory (theory 63 1) (theory 61 1 ∷ []))) × (¬ HasTheoriesApart (in_theory (theory 63 1) (theory 61 2 ∷ [])))

-- Over unrelated classes c, d and e, one parent declares `k :: (c) e` and the other `k :: (d) e`. Each is a content, and they have no merge.
abbrev pub classes : List Decl
classes = ClassDecl (class_above c []) ∷ ClassDecl (class_above d []) ∷ ClassDecl (class_above e []) ∷ ConDecl k 1 ∷ []

abbrev pub with_arity : ℕ → Content
with_arity domain = content_of (classes ++ ArityDecl (arity domain e) ∷ [])

abbrev pub NoMergeExample : Type 0
NoMergeExample = IsContent (with_arity c) × IsContent (with_arity d) × ((merged : List Decl) → ¬ IsMerge (with_arity c ∷ with_arity d ∷ []) merged)

-- Classes c and d stand below e. Three parents declare `k :: (c) c`, `k :: (d) d` and `k :: (e) e`. Each is a content, and all three together are coregular;
-- yet they have no merge in this order, since the first two together aren't coregular.
abbrev pub fork_declarations : List Decl
fork_declarations = ClassDecl (class_above e []) ∷ ClassDecl (class_above c (e ∷ [])) ∷ ClassDecl (class_above d (e ∷ [])) ∷ ConDecl k 1 ∷ []

abbrev pub with_square : ℕ → Content
with_square class = content_of (fork_declarations ++ ArityDecl (arity class class) ∷ [])

abbrev pub MiddleMergeExample : Type 0
MiddleMergeExample = IsContent (with_square c) × IsContent (with_square d) × IsContent (with_square e)
    × (¬ IsCoregular (algebra_of (fork_declarations ++ ArityDecl (arity c c) ∷ ArityDecl (arity d d) ∷ [])))
    × IsCoregular (algebra_of (fork_declarations ++ ArityDecl (arity c c) ∷ ArityDecl (arity d d) ∷ ArityDecl (arity e e) ∷ []))
    × ((merged : List Decl) → ¬ IsMerge (with_square c ∷ with_square d ∷ with_square e ∷ []) merged)

-- No content has two classes, type constructors or constants of one name that differ, an axiom and a promise of one name, or two promises with one label.
abbrev pub NamedTwiceExample : Type 0
NamedTwiceExample = (¬ IsContent (content_of (ClassDecl (class_above c []) ∷ ClassDecl (class_above c (d ∷ [])) ∷ []))) × (¬ IsContent (content_of (ConDecl 10 0 ∷ ConDecl 10 1 ∷ [])))
    × (¬ IsContent (content_of (ConstDecl 30 i ∷ ConstDecl 30 j ∷ [])))
    × (¬ IsContent (content_of (pure_declarations ++ AxiomDecl 50 (proposition_variable 0) ∷ PromiseDecl 50 promised (proposition_variable 0) ∷ [])))
    × (¬ IsContent (content_of (pure_declarations ++ PromiseDecl 50 promised (proposition_variable 0) ∷ PromiseDecl 51 promised (proposition_variable 0) ∷ [])))

-- Nor has one a constant whose type has a fixed type variable, an axiom or a promise with a fixed variable, an axiom that isn't of type prop or one that isn't certified, or arities that aren't coregular.
abbrev pub IllFormedExample : Type 0
IllFormedExample = (¬ IsContent (content_of (ConstDecl 30 (TFree 1 []) ∷ []))) × (¬ IsContent (content_of (pure_declarations ++ AxiomDecl 50 (Free 1 prop) ∷ [])))
    × (¬ IsContent (content_of (pure_declarations ++ PromiseDecl 50 promised (Free 1 prop) ∷ [])))
    × (¬ IsContent (content_of (ConDecl 10 0 ∷ ConstDecl 30 i ∷ AxiomDecl 50 a ∷ []))) × (¬ IsContent (content_of (AxiomDecl 50 (proposition_variable 0) ∷ [])))
    × (¬ IsContent (content_of (classes ++ ArityDecl (arity c e) ∷ ArityDecl (arity d e) ∷ [])))

-- `f ?x` has no fixed variable and no fixed type variable; a term has one where it is in a constant, a variable, a binder, a function or an argument.
abbrev pub SchematicExample : Type 0
SchematicExample = IsSchematic (App f any_x) × (¬ IsSchematic (Const 30 (TFree 1 []))) × (¬ IsSchematic (Var 0 0 (arrow i (TFree 1 [])))) × (¬ IsSchematic (Abs (TFree 1 []) (Bound 0)))
    × (¬ IsSchematic (Abs i x)) × (¬ IsSchematic (App f x)) × (¬ IsSchematic (App x a))

-- Pure's content is below the example's, and not the other way round. A constant with another type is another declaration.
abbrev pub BelowExample : Type 0
BelowExample = IsBelow pure_content example × (¬ IsBelow example pure_content) × (¬ IsBelow (content_of (ConstDecl 30 i ∷ [])) (content_of (ConstDecl 30 j ∷ [])))

-- A definition of the constant 35 by `%x :: 'a. x` declares it with the type `?'a => ?'a`, and then states `35 == (%x :: ?'a. x)`.
abbrev pub DefinitionExample : Type 0
DefinitionExample =
    let any_typ = TVar 1 0 [] in
    definition 35 52 (arrow (TFree 1 []) (TFree 1 [])) (Abs (TFree 1 []) (Bound 0))
    ≡ ConstDecl 35 (arrow any_typ any_typ) ∷ AxiomDecl 52 (eq (arrow any_typ any_typ) (Const 35 (arrow any_typ any_typ)) (Abs any_typ (Bound 0))) ∷ []
