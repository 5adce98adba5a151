-- What is joined: lemmas that are shown by proofs which rest, in the end, on shown ones alone.
use Rattle.std.specs.Prelude.{◌≡◌, ◌↔◌, ℕ, List, [], map}
use Rattle.pure_text.specs.Lists.{IsIn, Each}
use Rattle.pure_definitions.specs.Names.{Label}
use Rattle.pure_definitions.specs.Terms.Term.{Term}
use Rattle.pure_definitions.specs.Declarations.Decl.{PromiseDecl}
use Rattle.pure_logic.specs.Content.{IsContent, IsBelow}
use Rattle.pure_logic.specs.Derivable.{IsDerivable, IsDerivableAlone}
use Rattle.pure_theorem.specs.Sets.{IsLabelSet}
use Rattle.pure_method.specs.Theory.Certified.{Certified}
use Rattle.pure_promise_fates.specs.Entries as fates
use Rattle.pure_promise_fates.specs.Entries.{Shown, Became, Reaches, AreEntries}
use Rattle.pure_promise.specs.Entries.{plain}
use Rattle.pure_promise.specs.Seen.{seen}
use Rattle.pure_promise.specs.declared.entry.Entry.{Entry}
use Rattle.pure_promise.specs.declared.entry.Own.TheVariants.{Proved}

-- A proof shows the lemma with this label.
abbrev pub IsShown : List fates.Entry → Label → Type 0
IsShown es l = (rests : List Label) × Became es l (Shown rests)

-- It is shown, and so is each that it reaches.
pub record IsJoined (es : List fates.Entry) (l : Label) : Type 0 where
  pub shown : IsShown es l
  pub reached : (k : Label) → Reaches es l k → IsShown es k

-- These are the labels that are joined, in order.
pub record AreJoined (es : List fates.Entry) (labels : List Label) : Type 0 where
  pub ascend : IsLabelSet labels
  pub exactly : (l : Label) → IsIn l labels ↔ IsJoined es l

-- What a theorem carries with it: its theory's content is one, and it is derivable over that.
abbrev pub IsTheorem : Entry → Type 0
IsTheorem e = (r : Certified) → e.own ≡ Proved r → IsContent r.content × IsDerivable r.content r.theorem

-- The theorem of a lemma that is proved is its statement, without hypotheses and pairs.
abbrev pub IsClosed : Entry → Type 0
IsClosed e = (r : Certified) → e.own ≡ Proved r → (r.theorem.prop ≡ e.prop.value) × (r.theorem.hyps ≡ []) × (r.theorem.pairs ≡ [])

-- Each promise on which its theorem rests states in the theorem's theory what its lemma does; where that one is proved too, its theory is below this one's.
abbrev pub IsGrounded : List Entry → Entry → Type 0
IsGrounded es e = (r : Certified) → e.own ≡ Proved r → (d : Entry) → IsIn d es → IsIn d.label r.theorem.rests
    → ((name : ℕ) (A : Term) → IsIn (PromiseDecl name d.label A) r.content.declarations → A ≡ d.prop.value)
    × ((s : Certified) → d.own ≡ Proved s → IsBelow s.content r.content)

-- Lemmas may be joined: their labels ascend and their proofs rest on earlier ones, theorems are statements, and promises are those of the lemmas.
pub record MayJoin (es : List Entry) : Type 0 where
  pub entries : AreEntries (map plain (seen es))
  pub closed : Each IsClosed es
  pub grounded : Each (IsGrounded es) es

-- What the lemma with this label states is derivable from the axioms of its theorem's theory alone.
abbrev pub IsSettled : List Entry → Label → Type 0
IsSettled es l = (e : Entry) → IsIn e es → e.label ≡ l → (r : Certified) × (e.own ≡ Proved r) × IsDerivableAlone r.content e.prop.value
