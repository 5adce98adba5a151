-- Laws of what is derivable.
use Rattle.std.specs.Prelude.{◌≡◌, ◌↔◌, ℕ, List, [], ◌∷◌, map}
use Rattle.pure_definitions.specs.Names.{Label}
use Rattle.pure_text.specs.Lists.{IsIn, Each}
use Rattle.pure_definitions.specs.Terms.Term.{Term}
use Rattle.pure_definitions.specs.Declarations.Decl.{AxiomDecl, PromiseDecl}
use Rattle.pure_logic.specs.Connectives.{imp, chain}
use Rattle.pure_logic.specs.Content.{Content, IsContent, IsBelow, IsProposition}
use Rattle.pure_logic.specs.PureContent.{pure_content, proposition_variable}
use Rattle.pure_logic.specs.Tree.{Tree, hyps_of, rests_of}
use Rattle.pure_logic.specs.Concludes.{Concludes}
use Rattle.pure_logic.specs.Derivable.{Theorem, IsUnderPairs, IsDerivable, IsDerivableAlone}

-- A proposition is derivable alone exactly where a tree without hypotheses and without promises concludes it.
abbrev pub DerivableAloneExactly : Type 0
DerivableAloneExactly = (Q : Content) (A : Term) → IsDerivableAlone Q A ↔ ((d : Tree) × Concludes Q d A × (hyps_of d ≡ []) × (rests_of d ≡ []))

-- A theorem is derivable exactly where a tree concludes its proposition under its pairs, each hypothesis of the tree is one of the theorem's, and each promise on which the tree rests is one on which the theorem does.
abbrev pub DerivableExactly : Type 0
DerivableExactly = (Q : Content) (th : Theorem) → IsDerivable Q th
    ↔ ((d : Tree) × (C : Term) × Concludes Q d C × IsUnderPairs th.pairs th.prop C × ((A : Term) → IsIn A (hyps_of d) → IsIn A th.hyps) × ((l : Label) → IsIn l (rests_of d) → IsIn l th.rests))

-- An axiom of the content is derivable alone, as it stands; and the statement of a promise is derivable resting on the promise's label alone.
abbrev pub AxiomIsDerivable : Type 0
AxiomIsDerivable = (Q : Content) (name : ℕ) (A : Term) → IsIn (AxiomDecl name A) Q.declarations → IsDerivableAlone Q A

abbrev pub PromiseIsDerivable : Type 0
PromiseIsDerivable = (Q : Content) (name : ℕ) (label : Label) (A : Term) → IsIn (PromiseDecl name label A) Q.declarations → IsDerivable Q (record { hyps = []; pairs = []; prop = A; rests = label ∷ [] })

-- Pure's own content is a content.
abbrev pub PureIsContent : Type 0
PureIsContent = IsContent pure_content

-- A schematic variable of type prop is a proposition of Pure's content, whatever its name.
abbrev pub VariableIsProposition : Type 0
VariableIsProposition = (name : ℕ) → IsProposition pure_content (proposition_variable name)

-- A chain of propositions whose conclusion is among its premises is derivable, over any content.
abbrev pub ChainIsDerivable : Type 0
ChainIsDerivable = (Q : Content) (premises : List Term) (conclusion : Term) → Each (IsProposition Q) premises → IsIn conclusion premises
    → IsDerivableAlone Q (chain premises conclusion)

-- Over Pure's content a chain of schematic variables of type prop whose conclusion is among its premises is derivable, whatever their names.
abbrev pub VariableChainIsDerivable : Type 0
VariableChainIsDerivable = (premises : List ℕ) (conclusion : ℕ) → IsIn conclusion premises
    → IsDerivableAlone pure_content (chain (map proposition_variable premises) (proposition_variable conclusion))

-- Pure's content is below itself.
abbrev pub PureIsBelowItself : Type 0
PureIsBelowItself = IsBelow pure_content pure_content

-- `A ==> A` and `A ==> B ==> A` are derivable.
abbrev pub TrivialIsDerivable : Type 0
TrivialIsDerivable = (Q : Content) (A : Term) → IsProposition Q A → IsDerivableAlone Q (imp A A)

abbrev pub WeakenedIsDerivable : Type 0
WeakenedIsDerivable = (Q : Content) (A B : Term) → IsProposition Q A → IsProposition Q B → IsDerivableAlone Q (imp A (imp B A))

-- The content is consistent: the schematic variable `?P` of type prop isn't derivable alone.
abbrev pub IsConsistent : Content → Type 0
IsConsistent Q = ¬ IsDerivableAlone Q (proposition_variable 0)

-- Pure's own content is consistent. A finite model shows it, in `pure_consistency`.
abbrev pub PureIsConsistent : Type 0
PureIsConsistent = IsConsistent pure_content

-- A content above Pure's is consistent exactly where some proposition isn't derivable alone.
abbrev pub ConsistentExactly : Type 0
ConsistentExactly = (Q : Content) → IsContent Q → IsBelow pure_content Q → IsConsistent Q ↔ ((A : Term) × IsProposition Q A × ¬ IsDerivableAlone Q A)
