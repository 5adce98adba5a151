-- Promises that are fulfilled, one after another, each by a proof that may rest on earlier ones.
use Rattle.std.specs.Prelude.{◌≡◌, ℕ, Bool, ◌&&◌, nat_eq, if◌then◌else◌, List, [], ◌∷◌, ◌++◌}
use Rattle.std.specs.List.{list_all, list_any}
use Rattle.pure_text.specs.Lists.{IsIn}
use Rattle.pure_definitions.specs.Names.{Label}
use Rattle.pure_definitions.specs.Terms.Term.{Term}
use Rattle.pure_definitions.specs.Declarations.Decl.{PromiseDecl}
use Rattle.pure_logic.specs.Content.{Content, IsContent, IsBelow}
use Rattle.pure_logic.specs.Proves.{Proves}

-- whether two labels are the same
abbrev pub label_eq : Label → Label → Bool
label_eq k l = nat_eq k.theory l.theory && (nat_eq k.command l.command && nat_eq k.part l.part)

-- What fulfils a promise: its label, what it states, the content over which its proof stands, and the promises on which this proof rests.
pub record Fulfilment : Type 0 where
  pub label : Label
  pub statement : Term
  pub content : Content
  pub rests : List Label

-- Over its content the statement is proved, without hypotheses.
pub record IsFulfilment (e : Fulfilment) : Type 0 where
  pub is_content : IsContent e.content
  pub proves : Proves e.content [] e.rests e.statement

-- It serves a content: this is above its own, and has no other statement for its label.
pub record Serves (e : Fulfilment) (Q : Content) : Type 0 where
  pub below : IsBelow e.content Q
  pub states : (name : ℕ) (A : Term) → IsIn (PromiseDecl name e.label A) Q.declarations → A ≡ e.statement

-- the labels, with those on which the proof of the fulfilment rests wherever its own stands
abbrev pub put_for_label : Fulfilment → List Label → List Label
put_for_label e [] = []
put_for_label e (l ∷ ls) = if label_eq e.label l then e.rests ++ put_for_label e ls else l ∷ put_for_label e ls

-- The labels on which something rests once the promises are fulfilled one after another, in the order of the list. The latest promise stands first, so that a proof rests on promises behind it in the list alone.
abbrev pub left_after : List Fulfilment → List Label → List Label
left_after [] labels = labels
left_after (e ∷ es) labels = left_after es (put_for_label e labels)

-- Each of them is a fulfilment that serves the content, wherever its label is met on the way.
abbrev pub AreServing : (Q : Content) → List Fulfilment → List Label → Type 0
AreServing Q [] labels = Unit {0}
AreServing Q (e ∷ es) labels = (IsIn e.label labels → IsFulfilment e × Serves e Q) × AreServing Q es (put_for_label e labels)

-- The proof of the one rests on the label, or on that of another in the list whose proof reaches it.
pub data Reaches (es : List Fulfilment) : Fulfilment → Label → Type 0 where
  rests_on : {e : Fulfilment} {k : Label} → IsIn k e.rests → Reaches es e k
  through : {e : Fulfilment} {k : Label} → (f : Fulfilment) → IsIn f es → IsIn f.label e.rests → Reaches es f k → Reaches es e k

-- One of them is of the label.
abbrev pub HasLabel : List Fulfilment → Label → Type 0
HasLabel es k = (f : Fulfilment) × IsIn f es × (f.label ≡ k)

-- The latest stands first: no label is that of one behind it, and no proof rests on its own label or on one in front of it.
abbrev pub AreInOrder : List Fulfilment → Type 0
AreInOrder [] = Unit {0}
AreInOrder (e ∷ es) = (¬ HasLabel es e.label) × ((f : Fulfilment) → IsIn f (e ∷ es) → ¬ IsIn e.label f.rests) × AreInOrder es

-- whether one of them is of the label
abbrev pub is_label_of : List Fulfilment → Label → Bool
is_label_of es l = list_any (λ e. label_eq e.label l) es

-- The joined ones of a list, of which the latest stands first: those whose proof rests on nothing but the labels of joined ones behind them.
abbrev pub joined : List Fulfilment → List Fulfilment
joined [] = []
joined (e ∷ es) = if list_all (is_label_of (joined es)) e.rests then e ∷ joined es else joined es

-- Each is a fulfilment, and each behind it of whose label its proof rests serves its content.
abbrev pub AreFulfilments : List Fulfilment → Type 0
AreFulfilments [] = Unit {0}
AreFulfilments (e ∷ es) = IsFulfilment e × ((f : Fulfilment) → IsIn f es → IsIn f.label e.rests → Serves f e.content) × AreFulfilments es
