-- The promises of a command's next content.
use Rattle.std.specs.Prelude.{◌≡◌, ◌⊎◌, ℕ, List}
use Rattle.pure_text.specs.Lists.{IsIn}
use Rattle.pure_definitions.specs.Names.{Label}
use Rattle.pure_definitions.specs.Terms.Term.{Term}
use Rattle.pure_definitions.specs.Declarations.Decl.{PromiseDecl}
use Rattle.pure_grammar.specs.Theories.TheoryText.{Command}
use Rattle.pure_logic.specs.Content.{Content}
use Rattle.pure_theory.specs.Stage.{with_decl}
use Rattle.pure_declare.specs.Notes.{Note, Fork, Forked}
use Rattle.pure_declare.specs.First.{Declares}
use Rattle.pure_declare.specs.Parts.{Part, DeclaresPart}

-- A promise of the next content stood before, or is that of the lemma which the command binds, with its statement.
abbrev pub DeclaresPromises : Type 0
DeclaresPromises = (texts : List (List ℕ)) (source : List ℕ) (label : Label) (Q : Content) (command : Command) (note : Note) (next : Content)
    → Declares texts source label Q command note next → (x : ℕ) (l : Label) (A : Term) → IsIn (PromiseDecl x l A) next.declarations
    → IsIn (PromiseDecl x l A) Q.declarations ⊎ ((f : Fork) × (note ≡ Forked f) × (f.label ≡ l) × (f.prop ≡ A))

-- Where a command binds a lemma, the next content is the one before with the lemma's promise at its end.
abbrev pub ForksPromised : Type 0
ForksPromised = (texts : List (List ℕ)) (source : List ℕ) (label : Label) (Q : Content) (command : Command) (f : Fork) (next : Content)
    → Declares texts source label Q command (Forked f) next → next ≡ with_decl Q (PromiseDecl f.name f.label f.prop)

-- A promise of a part's next content stood before, or is that of the fork which the part leaves, with its statement.
abbrev pub PartsPromise : Type 0
PartsPromise = (texts : List (List ℕ)) (source : List ℕ) (label : Label) (Q : Content) (part : Part) (note : Note) (next : Content)
    → DeclaresPart texts source label Q part note next → (x : ℕ) (l : Label) (A : Term) → IsIn (PromiseDecl x l A) next.declarations
    → IsIn (PromiseDecl x l A) Q.declarations ⊎ ((f : Fork) × (note ≡ Forked f) × (f.name ≡ x) × (f.label ≡ l) × (f.prop ≡ A))

-- Where a part leaves a fork, the next content is the one before with the fork's promise at its end.
abbrev pub PartForksPromised : Type 0
PartForksPromised = (texts : List (List ℕ)) (source : List ℕ) (label : Label) (Q : Content) (part : Part) (f : Fork) (next : Content)
    → DeclaresPart texts source label Q part (Forked f) next → next ≡ with_decl Q (PromiseDecl f.name f.label f.prop)
