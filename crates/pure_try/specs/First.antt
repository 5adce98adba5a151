-- The first method that proves a lemma.
use Rattle.std.specs.Prelude.{◌≡◌, ℕ, Bool, true, false, List, [], ◌∷◌, Option, Some, None, Ok, Err}
use Rattle.pure_definitions.specs.Names.{Label}
use Rattle.pure_definitions.specs.Declarations.Decl.{algebra_of}
use Rattle.pure_grammar.specs.Theories.TheoryText.{Step}
use Rattle.pure_logic.specs.Content.{IsContent}
use Rattle.pure_lookup.specs.Laws.{IsInSession}
use Rattle.pure_order_tables.specs.Classes.{IsAntisymmetric}
use Rattle.pure_check_work.specs.Declare.Notes.{Fork}
use Rattle.pure_check_work.specs.Method.Proof.{ProofFault, IsProofIn}
use Rattle.pure_try.specs.declared.method.Method.{Method}
use Rattle.pure_try.specs.Methods.{script_of, methods_of}

-- These steps prove the lemma, or they don't.
abbrev pub Tells : (texts : List (List ℕ)) → Fork → List Step → (proves : Bool) → Type 0
Tells texts f script true = (labels : List Label) × IsProofIn texts f.content f.lemma f.fixed script (Ok labels)
Tells texts f script false = (fault : ProofFault) × IsProofIn texts f.content f.lemma f.fixed script (Err fault)

-- The first of the methods by which the lemma is proved; none where it is proved by none of them.
pub data IsFirst (texts : List (List ℕ)) (f : Fork) : List Method → Option Method → Type 0 where
  nothing : IsFirst texts f [] None
  proves : {m : Method} {rest : List Method} → Tells texts f (script_of m) true → IsFirst texts f (m ∷ rest) (Some m)
  fails : {m : Method} {rest : List Method} {first : Option Method} → Tells texts f (script_of m) false → IsFirst texts f rest first → IsFirst texts f (m ∷ rest) first

-- What trying in order gives: the first method of the lemma's content, in their order, by which the lemma is proved.
abbrev pub IsTried : (texts : List (List ℕ)) → Fork → Option Method → Type 0
IsTried texts f first = IsFirst texts f (methods_of texts f.content) first

-- Trying in order gives one answer.
abbrev pub TriedOnce : Type 0
TriedOnce = (texts : List (List ℕ)) (f : Fork) → IsInSession texts f.content → IsContent f.content → IsAntisymmetric (algebra_of f.content.declarations)
    → (one other : Option Method) → IsTried texts f one → IsTried texts f other → one ≡ other
