-- Laws of goals at their beginning and their end, of subgoals exchanged and in another order, and of pairs that are not needed.
use Rattle.std.specs.Prelude.{◌≡◌, ◌↔◌, ◌⊎◌, List, [], ◌∷◌, ◌++◌, map}
use Rattle.pure_text.specs.Lists.{IsIn, Each}
use Rattle.pure_definitions.specs.Types.Typ.{Typ, prop}
use Rattle.pure_definitions.specs.Terms.Term.{Term}
use Rattle.pure_definitions.specs.Terms.Subst.{term_instance}
use Rattle.pure_logic.specs.Connectives.{protect, chain}
use Rattle.pure_logic.specs.Content.{Content, IsProposition}
use Rattle.pure_logic.specs.Concludes.{AreRespecting}
use Rattle.pure_logic.specs.Derivable.{Pair, Theorem, IsDerivable, IsDerivableAlone}
use Rattle.pure_logic.specs.Laws.Substitution.{pair_instance}
use Rattle.pure_equation_laws.specs.Equated.{AreEquated, IsPairEquated}
use Rattle.pure_equation_laws.specs.Laws.Proved.{IsCertifiedPair}
use Rattle.pure_goal_laws.specs.Laws.Scope.{Above}

-- The subgoals of a derivable goal are propositions, and the sides of a derivable theorem's pairs are certified, of one type.
abbrev pub SubgoalsArePropositions : Type 0
SubgoalsArePropositions = Above (λ Q. (goal : Theorem) (As : List Term) (G : Term) → goal.prop ≡ chain As G → IsDerivable Q goal → Each (IsProposition Q) As)

abbrev pub PairsAreCertified : Type 0
PairsAreCertified = Above (λ Q. (th : Theorem) → IsDerivable Q th → Each (IsCertifiedPair Q) th.pairs)

-- The first goal for a proposition, `S ==> # C` with a subgoal that is equated with it, as its long form is, is derivable.
abbrev pub StartIsDerivable : Type 0
StartIsDerivable = Above (λ Q. (S C : Term) → AreEquated Q.declarations [] [] prop S C → IsDerivableAlone Q (chain (S ∷ []) (protect C)))

-- From a goal without subgoals, `# C`, its proposition is derivable.
abbrev pub EndIsDerivable : Type 0
EndIsDerivable = Above (λ Q. (goal : Theorem) (C : Term) → goal.prop ≡ protect C → IsDerivable Q goal → IsDerivable Q (record goal { prop = C }))

-- The first subgoal of a goal may be exchanged for one that is equated with it modulo the goal's pairs.
abbrev pub ExchangedIsDerivable : Type 0
ExchangedIsDerivable = Above (λ Q. (goal : Theorem) (A S : Term) (others : List Term) (G : Term) → goal.hyps ≡ [] → goal.prop ≡ chain (A ∷ others) G → AreEquated Q.declarations goal.pairs [] prop A S
    → IsDerivable Q goal → IsDerivable Q (record goal { prop = chain (S ∷ others) G }))

-- The subgoals of a goal may stand in another order. So a subgoal may be taken to the front, and the first one to the end.
abbrev pub ReorderedIsDerivable : Type 0
ReorderedIsDerivable = Above (λ Q. (goal : Theorem) (As Bs : List Term) (G : Term) → goal.prop ≡ chain As G → ((A : Term) → IsIn A As ↔ IsIn A Bs) → IsDerivable Q goal → IsDerivable Q (record goal { prop = chain Bs G }))

abbrev pub PreferredIsDerivable : Type 0
PreferredIsDerivable = Above (λ Q. (goal : Theorem) (before : List Term) (A : Term) (after : List Term) (G : Term) → goal.prop ≡ chain (before ++ A ∷ after) G → IsDerivable Q goal → IsDerivable Q (record goal { prop = chain (A ∷ (before ++ after)) G }))

abbrev pub DeferredIsDerivable : Type 0
DeferredIsDerivable = Above (λ Q. (goal : Theorem) (A : Term) (others : List Term) (G : Term) → goal.prop ≡ chain (A ∷ others) G → IsDerivable Q goal → IsDerivable Q (record goal { prop = chain (others ++ A ∷ []) G }))

-- Pairs are dropped where the sides of each are equated modulo those that are left.
abbrev pub DroppedIsDerivable : Type 0
DroppedIsDerivable = Above (λ Q. (th : Theorem) (others : List Pair) → Each (λ p. IsIn p th.pairs) others → Each (λ p. IsIn p others ⊎ IsPairEquated Q.declarations others p) th.pairs → IsDerivable Q th → IsDerivable Q (record th { pairs = others }))

-- The theorem with its pairs smashed: an instance by maps under which the sides of each pair are equated, and so without pairs. Its proposition and its hypotheses are equated with those of the instance, as their normal forms are.
pub record IsSmashed (Q : Content) (th smashed : Theorem) (typs : Typ → Typ) (terms : Term → Term) : Type 0 where
  pub respecting : AreRespecting Q typs terms
  pub pairs : Each (IsPairEquated Q.declarations []) (map (pair_instance typs terms) th.pairs)
  pub no_pairs : smashed.pairs ≡ []
  pub hyps : Each (λ A. (B : Term) × IsIn B smashed.hyps × AreEquated Q.declarations [] [] prop A B) (map (term_instance typs terms) th.hyps)
  pub proposition : AreEquated Q.declarations [] [] prop (term_instance typs terms th.prop) smashed.prop
  pub rests : smashed.rests ≡ th.rests

abbrev pub SmashedIsDerivable : Type 0
SmashedIsDerivable = Above (λ Q. (th smashed : Theorem) (typs : Typ → Typ) (terms : Term → Term) → IsSmashed Q th smashed typs terms → IsDerivable Q th → IsDerivable Q smashed)
