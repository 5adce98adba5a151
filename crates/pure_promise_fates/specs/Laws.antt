-- Laws of fates: each lemma has one, and what is proved is derivable from the axioms alone.
use Rattle.std.specs.Prelude.{◌≡◌, List, [], map}
use Rattle.pure_text.specs.Lists.{IsIn, Each}
use Rattle.pure_definitions.specs.Names.{Label}
use Rattle.pure_definitions.specs.Terms.Term.{Term}
use Rattle.pure_definitions.specs.Declarations.Decl.{PromiseDecl}
use Rattle.pure_logic.specs.Content.{Content, IsContent, IsBelow}
use Rattle.pure_logic.specs.Derivable.{IsDerivable, IsDerivableAlone}
use Rattle.pure_promise_fates.specs.Entries.{Entry, Shown, Fate, Proved, IsFate, AreEntries}

-- A lemma has one fate.
abbrev pub OneFate : Type 0
OneFate = (es : List Entry) → AreEntries es → (l : Label) (f g : Fate) → IsFate es l f → IsFate es l g → f ≡ g

-- what a lemma states, and the content over which its proof stands
pub record Claim : Type 0 where
  pub entry : Entry
  pub prop : Term
  pub content : Content

-- The claim is shown: resting on the promises of its proof its statement is derivable over its content.
abbrev pub IsShown : Claim → Type 0
IsShown c = (rests : List Label) → c.entry.own ≡ Shown rests → IsContent c.content × IsDerivable c.content (record { hyps = []; pairs = []; prop = c.prop; rests = rests })

-- Each promise on which its proof rests stands in its content as another claim states it; where that one is shown, its content is below this one's.
abbrev pub IsGrounded : List Claim → Claim → Type 0
IsGrounded cs c = (rests : List Label) → c.entry.own ≡ Shown rests → (d : Claim) → IsIn d cs → IsIn d.entry.label rests
    → ((name : _) (A : Term) → IsIn (PromiseDecl name d.entry.label A) c.content.declarations → A ≡ d.prop)
    × ((more : List Label) → d.entry.own ≡ Shown more → IsBelow d.content c.content)

-- What is proved is derivable from the axioms of its content alone.
abbrev pub ProvedIsDerivable : Type 0
ProvedIsDerivable = (cs : List Claim) → AreEntries (map Claim.entry cs) → Each IsShown cs → Each (IsGrounded cs) cs
    → (c : Claim) → IsIn c cs → IsFate (map Claim.entry cs) c.entry.label Proved → IsDerivableAlone c.content c.prop
