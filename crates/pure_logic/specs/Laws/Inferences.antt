-- Laws of inferences on theorems, which keep their pairs.
use Rattle.std.specs.Prelude.{List, ◌++◌}
use Rattle.pure_text.specs.Lists.{IsIn, Each}
use Rattle.pure_definitions.specs.Names.{Label}
use Rattle.pure_definitions.specs.Types.Typ.{Typ}
use Rattle.pure_definitions.specs.Terms.Term.{Term}
use Rattle.pure_definitions.specs.Terms.Bounds.{subst_bound, abstract_over, Occurs}
use Rattle.pure_definitions.specs.Terms.Conditions.{IsVariable}
use Rattle.pure_logic.specs.Connectives.{all_of, all, imp}
use Rattle.pure_logic.specs.Content.{Content, IsContent, IsBelow, IsCertifiedOf, IsProposition}
use Rattle.pure_logic.specs.PureContent.{pure_content}
use Rattle.pure_logic.specs.Tree.{without}
use Rattle.pure_logic.specs.Concludes.{IsFresh}
use Rattle.pure_logic.specs.Derivable.{Pair, Theorem, IsDerivable}
use Rattle.pure_logic.specs.Proves.{Proves}

-- An inference from one theorem: where, beside any further hypotheses, B is proved from the new hypotheses if the theorem's proposition is from its own, then the theorem with B and the new hypotheses is derivable where the old one is.
abbrev pub InferredFromOne : Type 0
InferredFromOne = (Q : Content) → IsContent Q → IsBelow pure_content Q → (th : Theorem) (hyps : List Term) (B : Term)
    → ((further : List Term) → Proves Q (further ++ th.hyps) th.rests th.prop → Proves Q (further ++ hyps) th.rests B) → IsDerivable Q th → IsDerivable Q (record th { hyps = hyps; prop = B })

-- The hypotheses and the promises of a theorem are among these.
pub record IsAmong (th : Theorem) (all_hyps : List Term) (all_rests : List Label) : Type 0 where
  pub hyps : (A : Term) → IsIn A th.hyps → IsIn A all_hyps
  pub rests : (l : Label) → IsIn l th.rests → IsIn l all_rests

-- An inference from two theorems: where B is proved from any hypotheses from which both propositions are, then the theorem with B, the pairs of both, and hypotheses and promises that have those of both, is derivable where both theorems are.
abbrev pub InferredFromTwo : Type 0
InferredFromTwo = (Q : Content) → IsContent Q → IsBelow pure_content Q → (th other : Theorem) (hyps : List Term) (rests : List Label) (B : Term) → IsAmong th hyps rests → IsAmong other hyps rests
    → ((H : List Term) → Proves Q H rests th.prop → Proves Q H rests other.prop → Proves Q H rests B)
    → IsDerivable Q th → IsDerivable Q other → IsDerivable Q (record { hyps = hyps; pairs = th.pairs ++ other.pairs; prop = B; rests = rests })

-- So from derivable theorems of `A ==> B` and of A that of B is derivable, with the hypotheses, pairs and promises of both.
abbrev pub ImpliesElimIsDerivable : Type 0
ImpliesElimIsDerivable = (Q : Content) → IsContent Q → IsBelow pure_content Q → (A B : Term) (implication premise : Theorem)
    → IsDerivable Q (record implication { prop = imp A B }) → IsDerivable Q (record premise { prop = A })
    → IsDerivable Q (record { hyps = implication.hyps ++ premise.hyps; pairs = implication.pairs ++ premise.pairs; prop = B; rests = implication.rests ++ premise.rests })

-- From a theorem of B that of `A ==> B`, without A among the hypotheses.
abbrev pub ImpliesIntroIsDerivable : Type 0
ImpliesIntroIsDerivable = (Q : Content) → IsContent Q → IsBelow pure_content Q → (A B : Term) (th : Theorem) → IsProposition Q A → IsDerivable Q (record th { prop = B })
    → IsDerivable Q (record th { hyps = without A th.hyps; prop = imp A B })

-- From a theorem of `!!x. B[x]` that of `B[t]`.
abbrev pub AllElimIsDerivable : Type 0
AllElimIsDerivable = (Q : Content) → IsContent Q → IsBelow pure_content Q → (T : Typ) (B t : Term) (th : Theorem) → IsCertifiedOf Q t T → IsDerivable Q (record th { prop = all T B }) → IsDerivable Q (record th { prop = subst_bound B t })

-- The variable occurs in neither side of any of the pairs.
abbrev pub IsFreshInPairs : (variable : Term) → (pairs : List Pair) → Type 0
IsFreshInPairs x pairs = Each (λ p. (¬ Occurs x p.left) × (¬ Occurs x p.right)) pairs

-- From a theorem of B that of `!!x. B`, for a variable x that is free in none of the hypotheses and in no pair.
abbrev pub AllIntroIsDerivable : Type 0
AllIntroIsDerivable = (Q : Content) → IsContent Q → IsBelow pure_content Q → (x : Term) (T : Typ) (B : Term) (th : Theorem) → IsVariable x → IsCertifiedOf Q x T → IsFresh x th.hyps → IsFreshInPairs x th.pairs
    → IsDerivable Q (record th { prop = B }) → IsDerivable Q (record th { prop = all_of T (abstract_over B x) })
