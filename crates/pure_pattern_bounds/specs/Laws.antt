-- Laws of covered states.
use Rattle.std.specs.Prelude.{◌≡◌, ℕ, ◌≤◌, List, ◌∷◌, ◌++◌}
use Rattle.pure_text.specs.Lists.{IsIn, Each}
use Rattle.pure_definitions.specs.Terms.Term.{IsWithin}
use Rattle.pure_definitions.specs.Terms.Subst.{TermBind}
use Rattle.pure_logic.specs.Derivable.{Pair}
use Rattle.pure_unify_final.specs.Laws.{AreVariablesUpTo}
use Rattle.pure_pattern_laws.specs.Treatment.{Becomes, Sets, IsTreated}
use Rattle.pure_pattern_laws.specs.Steps.{State, start, IsWithinState}
use Rattle.pure_pattern_laws.specs.Laws.{IsPatternState}
use Rattle.pure_pattern_bounds.specs.Put.{state_put}
use Rattle.pure_pattern_bounds.specs.Covered.{IsCovered}

-- The first state is covered, and steps lead from covered states to such.
abbrev pub StartIsCovered : Type 0
StartIsCovered = (n : ℕ) (ps : List Pair) → Each (AreVariablesUpTo n) ps → IsCovered n (start ps)

abbrev pub ReplacedIsCovered : Type 0
ReplacedIsCovered = (index n : ℕ) (p : Pair) (ps qs : List Pair) (bs : List TermBind) → IsTreated index p.left p.right (Becomes qs) → IsCovered n (record { pairs = p ∷ ps; binds = bs }) → IsCovered n (record { pairs = qs ++ ps; binds = bs })

abbrev pub SetIsCovered : Type 0
SetIsCovered = (index n : ℕ) (p : Pair) (ps : List Pair) (bs : List TermBind) (s : State) → s.pairs ≡ p ∷ ps → IsWithin p.left × IsWithin p.right → IsPatternState s → IsTreated index p.left p.right (Sets bs) → IsCovered n s → IsCovered n (state_put bs s)

-- A covered state is within the limits where its pairs and the images of variables of the given indexes are.
abbrev pub CoveredIsWithin : Type 0
CoveredIsWithin = (n : ℕ) (s : State) → IsCovered n s → Each (λ p. IsWithin p.left × IsWithin p.right) s.pairs → ((b : TermBind) → IsIn b s.binds → b.index ≤ n → IsWithin b.image) → IsWithinState s
