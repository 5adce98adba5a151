-- What is derivable over a content (Isabelle/Isar Implementation manual, section 2.3).
use Rattle.std.specs.Prelude.{◌≡◌, List, [], ◌∷◌}
use Rattle.pure_text.specs.Lists.{IsIn, Each}
use Rattle.pure_definitions.specs.Names.{Label}
use Rattle.pure_definitions.specs.Types.Typ.{Typ}
use Rattle.pure_definitions.specs.Terms.Term.{Term}
use Rattle.pure_definitions.specs.Terms.Typing.{HasType}
use Rattle.pure_logic.specs.Connectives.{imp, eq}
use Rattle.pure_logic.specs.Content.{Content}
use Rattle.pure_logic.specs.Tree.{Tree, hyps_of, rests_of}
use Rattle.pure_logic.specs.Concludes.{Concludes}

-- two terms that unification left to be made equal
pub record Pair : Type 0 where
  pub left : Term
  pub right : Term

-- A theorem: its proposition, with the hypotheses and the equations of pairs under which it holds, and the promises on which it rests.
pub record Theorem : Type 0 where
  pub hyps : List Term
  pub pairs : List Pair
  pub prop : Term
  pub rests : List Label

-- q is A under the equations of the pairs, in order: of the pairs t, u and v, w it is `t == u ==> v == w ==> A`.
abbrev pub IsUnderPairs : (pairs : List Pair) → (A q : Term) → Type 0
IsUnderPairs [] A q = q ≡ A
IsUnderPairs (p ∷ ps) A q = (T : Typ) × (B : Term) × HasType [] p.left T × IsUnderPairs ps A B × (q ≡ imp (eq T p.left p.right) B)

-- The theorem is derivable: a tree over the content concludes its proposition under its pairs, from hypotheses among its own, and rests on promises among its own.
pub record IsDerivable (Q : Content) (th : Theorem) : Type 0 where
  pub tree : Tree
  pub conclusion : Term
  pub concludes : Concludes Q tree conclusion
  pub under_pairs : IsUnderPairs th.pairs th.prop conclusion
  pub hyps : Each (λ A. IsIn A th.hyps) (hyps_of tree)
  pub rests : Each (λ l. IsIn l th.rests) (rests_of tree)

-- The proposition is derivable from the content's axioms alone: without hypotheses, without pairs, and resting on no promise.
abbrev pub IsDerivableAlone : Content → Term → Type 0
IsDerivableAlone Q A = IsDerivable Q (record { hyps = []; pairs = []; prop = A; rests = [] })
