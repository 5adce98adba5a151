-- Laws of promises: what rests on promises rests on nothing once they are kept.
use Rattle.std.specs.Prelude.{◌≡◌, ◌⊎◌, ◌↔◌, ℕ, List, []}
use Rattle.pure_text.specs.Lists.{IsIn, Each}
use Rattle.pure_definitions.specs.Names.{Label}
use Rattle.pure_definitions.specs.Terms.Term.{Term}
use Rattle.pure_definitions.specs.Declarations.Decl.{PromiseDecl}
use Rattle.pure_logic.specs.Content.{Content, IsContent}
use Rattle.pure_logic.specs.Tree.{Tree, hyps_of, rests_of}
use Rattle.pure_logic.specs.Concludes.{Concludes}
use Rattle.pure_logic.specs.Derivable.{Theorem, IsDerivable, IsDerivableAlone}
use Rattle.pure_logic.specs.Proves.{Proves}
use Rattle.pure_logic.specs.Fulfilment.{Fulfilment, left_after, AreServing, joined, AreFulfilments, Reaches, HasLabel, AreInOrder}

-- The statement that the content has for the label is derivable from the content's axioms alone.
abbrev pub IsSettled : Content → Label → Type 0
IsSettled Q label = (name : ℕ) (A : Term) → IsIn (PromiseDecl name label A) Q.declarations → IsDerivableAlone Q A

-- Each of the promises is among those that are left open, or is settled.
abbrev pub AreOpenOrSettled : (Q : Content) → (left_open rests : List Label) → Type 0
AreOpenOrSettled Q left_open rests = Each (λ l. IsIn l left_open ⊎ IsSettled Q l) rests

-- The statement that the content has for the label is proved, resting on these promises.
abbrev pub IsProvedFor : (Q : Content) → (rests : List Label) → Label → Type 0
IsProvedFor Q rests label = (name : ℕ) (A : Term) → IsIn (PromiseDecl name label A) Q.declarations → Proves Q [] rests A

-- A tree for what d concludes, from hypotheses of d, that rests on none but these promises.
pub record IsCutTree (Q : Content) (left_open : List Label) (d : Tree) (C : Term) : Type 0 where
  pub tree : Tree
  pub concludes : Concludes Q tree C
  pub hyps : Each (λ A. IsIn A (hyps_of d)) (hyps_of tree)
  pub rests : Each (λ l. IsIn l left_open) (rests_of tree)

-- Promises are cut from a tree, all at once and at whatever instances: where each promise on which it rests is left open, or proved resting on those left open, there is a tree that rests on those left open alone.
abbrev pub CutOfTrees : Type 0
CutOfTrees = (Q : Content) → IsContent Q → (left_open : List Label) (d : Tree) (C : Term) → Concludes Q d C → Each (λ l. IsIn l left_open ⊎ IsProvedFor Q left_open l) (rests_of d) → IsCutTree Q left_open d C

-- So from a theorem: one that rests on promises of which each is left open, or proved resting on those left open, is derivable resting on those left open alone.
abbrev pub CutByProofs : Type 0
CutByProofs = (Q : Content) → IsContent Q → (th : Theorem) (left_open : List Label) → Each (λ l. IsIn l left_open ⊎ IsProvedFor Q left_open l) th.rests
    → IsDerivable Q th → IsDerivable Q (record th { rests = left_open })

-- So each may be left open or settled; and where all are settled the theorem rests on none.
abbrev pub CutOfPromises : Type 0
CutOfPromises = (Q : Content) → IsContent Q → (th : Theorem) (left_open : List Label) → AreOpenOrSettled Q left_open th.rests → IsDerivable Q th → IsDerivable Q (record th { rests = left_open })

abbrev pub SettledIsDerivable : Type 0
SettledIsDerivable = (Q : Content) → IsContent Q → (th : Theorem) → Each (IsSettled Q) th.rests → IsDerivable Q th → IsDerivable Q (record th { rests = [] })

-- Promises are fulfilled one after another, the latest first: a derivable theorem is so resting on the labels that are left; and if none is left, on none.
abbrev pub FulfilledIsDerivable : Type 0
FulfilledIsDerivable = (Q : Content) → IsContent Q → (es : List Fulfilment) (th : Theorem) → AreServing Q es th.rests → IsDerivable Q th → IsDerivable Q (record th { rests = left_after es th.rests })

abbrev pub AllFulfilledIsDerivable : Type 0
AllFulfilledIsDerivable = (Q : Content) → IsContent Q → (es : List Fulfilment) (th : Theorem) → AreServing Q es th.rests → left_after es th.rests ≡ [] → IsDerivable Q th → IsDerivable Q (record th { rests = [] })

-- The statement of each joined promise is derivable from the axioms of its own content alone.
abbrev pub JoinedAreDerivable : Type 0
JoinedAreDerivable = (es : List Fulfilment) → AreFulfilments es → Each (λ e. IsDerivableAlone e.content e.statement) (joined es)

-- In a list in order these are the ones that reach nothing but labels of the list: whose proof rests on promises that are fulfilled, by proofs that rest on such promises, and so on.
abbrev pub JoinedExactly : Type 0
JoinedExactly = (es : List Fulfilment) → AreInOrder es → (e : Fulfilment) → IsIn e es → IsIn e (joined es) ↔ ((k : Label) → Reaches es e k → HasLabel es k)
