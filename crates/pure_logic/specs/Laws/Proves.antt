-- Laws of what is proved: that it is what is derivable, and how inferences go.
use Rattle.std.specs.Prelude.{◌↔◌, ℕ, List, [], ◌∷◌, ◌++◌}
use Rattle.pure_text.specs.Lists.{IsIn, Each}
use Rattle.pure_definitions.specs.Names.{Label}
use Rattle.pure_definitions.specs.Types.Typ.{Typ}
use Rattle.pure_definitions.specs.Terms.Term.{Term, Free}
use Rattle.pure_definitions.specs.Terms.Bounds.{subst_bound}
use Rattle.pure_definitions.specs.Declarations.Certified.{IsCertifiedTyp}
use Rattle.pure_logic.specs.Connectives.{all, imp, chain}
use Rattle.pure_logic.specs.Content.{Content, IsContent, IsBelow, IsCertifiedOf, IsProposition}
use Rattle.pure_logic.specs.PureContent.{pure_content}
use Rattle.pure_logic.specs.Derivable.{Theorem, IsDerivable}
use Rattle.pure_logic.specs.Proves.{Proves, IsProved}

-- A theorem without pairs is derivable exactly where its proposition is proved from its hypotheses, resting on its promises.
abbrev pub DerivableIsProves : Type 0
DerivableIsProves = (Q : Content) (hyps : List Term) (rests : List Label) (A : Term) → IsDerivable Q (record { hyps = hyps; pairs = []; prop = A; rests = rests }) ↔ Proves Q hyps rests A

-- Pairs are equations among the hypotheses: over a content above Pure's a theorem is derivable exactly where its proposition is proved from the equations of its pairs and its hypotheses.
abbrev pub PairsAreEquations : Type 0
PairsAreEquations = (Q : Content) → IsContent Q → IsBelow pure_content Q → (th : Theorem) → IsDerivable Q th ↔ IsProved Q th

-- A hypothesis that is a proposition is proved.
abbrev pub AssumedIsProved : Type 0
AssumedIsProved = (Q : Content) (hyps : List Term) (rests : List Label) (A : Term) → IsProposition Q A → IsIn A hyps → Proves Q hyps rests A

-- What is proved is proved from more hypotheses, resting on more promises, in whatever order they stand.
abbrev pub WeakerIsProved : Type 0
WeakerIsProved = (Q : Content) (hyps more_hyps : List Term) (rests more_rests : List Label) (A : Term) → ((B : Term) → IsIn B hyps → IsIn B more_hyps) → ((l : Label) → IsIn l rests → IsIn l more_rests)
    → Proves Q hyps rests A → Proves Q more_hyps more_rests A

-- Implications are introduced and eliminated.
abbrev pub ImplicationIsProved : Type 0
ImplicationIsProved = (Q : Content) (hyps : List Term) (rests : List Label) (A B : Term) → IsProposition Q A → Proves Q (A ∷ hyps) rests B → Proves Q hyps rests (imp A B)

abbrev pub ConclusionIsProved : Type 0
ConclusionIsProved = (Q : Content) (hyps : List Term) (rests : List Label) (A B : Term) → Proves Q hyps rests (imp A B) → Proves Q hyps rests A → Proves Q hyps rests B

-- So are chains of them.
abbrev pub ChainIsProved : Type 0
ChainIsProved = (Q : Content) (premises hyps : List Term) (rests : List Label) (C : Term) → Each (IsProposition Q) premises → Proves Q (premises ++ hyps) rests C → Proves Q hyps rests (chain premises C)

abbrev pub EndOfChainIsProved : Type 0
EndOfChainIsProved = (Q : Content) (premises hyps : List Term) (rests : List Label) (C : Term) → Proves Q hyps rests (chain premises C) → Each (λ A. Proves Q hyps rests A) premises → Proves Q hyps rests C

-- A quantification is proved where its body is, for the fixed variables of the type: whoever proves it need not look for a fresh one. An instance of its body is proved from it.
abbrev pub QuantificationIsProved : Type 0
QuantificationIsProved = (Q : Content) (hyps : List Term) (rests : List Label) (T : Typ) (B : Term) → IsCertifiedTyp Q.declarations T → ((n : ℕ) → Proves Q hyps rests (subst_bound B (Free n T))) → Proves Q hyps rests (all T B)

abbrev pub InstanceOfBodyIsProved : Type 0
InstanceOfBodyIsProved = (Q : Content) (hyps : List Term) (rests : List Label) (T : Typ) (B t : Term) → IsCertifiedOf Q t T → Proves Q hyps rests (all T B) → Proves Q hyps rests (subst_bound B t)

-- Over a content above Pure's what is proved is a proposition, and a proved hypothesis may be cut.
abbrev pub ProvedIsProposition : Type 0
ProvedIsProposition = (Q : Content) → IsContent Q → IsBelow pure_content Q → (hyps : List Term) (rests : List Label) (A : Term) → Proves Q hyps rests A → IsProposition Q A

abbrev pub CutIsProved : Type 0
CutIsProved = (Q : Content) → IsContent Q → IsBelow pure_content Q → (hyps : List Term) (rests : List Label) (A B : Term) → Proves Q hyps rests A → Proves Q (A ∷ hyps) rests B → Proves Q hyps rests B
