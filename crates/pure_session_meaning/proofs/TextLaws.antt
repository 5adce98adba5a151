-- Texts and theories of a session.
use Rattle.std.proofs.Common.{◌≡◌, ℕ, List, sym, ◌∙◌}
use Rattle.pure_text.proofs.ListLaws.{each_at}
use Rattle.pure_typ.specs.NameTexts.{HasText}
use Rattle.pure_graph.specs.Order.{Loaded}
use Rattle.pure_session_laws.specs.Well.{IsWellLoaded}
use Rattle.pure_session_laws.specs.Loaded.{IsLoadedSession}
use Rattle.pure_session_meaning.specs.Verdicts.{IsTheoryAt}
use Rattle.pure_session_laws.proofs.FollowingLaws.{at-in}

-- A name has one text at most.
pub one_text : (texts : List (List ℕ)) (n : ℕ) (a b : List ℕ) → HasText texts n a → HasText texts n b → a ≡ b
one_text texts n a b h k = let same = sym h ∙ k in cc

-- Each theory of the session is well loaded.
pub theory-well : (texts : List (List ℕ)) (theories : List Loaded) → IsLoadedSession texts theories → (index : ℕ) (theory : Loaded) → IsTheoryAt theories index theory → IsWellLoaded texts theory
theory-well texts theories session index theory is_at = each_at (IsWellLoaded texts) theories session.well theory (at-in theories is_at.0 theory is_at.2)
