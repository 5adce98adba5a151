-- Unification of patterns: steps on states, each of which treats the first pair, up to an answer.
use Rattle.std.specs.Prelude.{◌≡◌, ℕ, ◌+◌, ◌<◌, List, [], ◌∷◌, ◌++◌, if◌then◌else◌}
use Rattle.std.specs.List.{list_any}
use Rattle.pure_text.specs.Lists.{Each, EachTwo}
use Rattle.pure_definitions.specs.Terms.Term.{Term, IsWithin, term_eq}
use Rattle.pure_definitions.specs.Terms.Subst.{TermBind, term_variable, term_image, inst_term}
use Rattle.pure_logic.specs.Derivable.{Pair}
use Rattle.pure_reduction.specs.LongForms.{HasLongForm}
use Rattle.pure_unify_definitions.specs.Fronts.{pair_variables}
use Rattle.pure_pattern_laws.specs.Treatment.{Becomes, Sets, Never, IsTreated}

-- pairs, and the variables that were set, in order, each with its image. The images are put into the pairs, and later ones into earlier ones; all is in long form.
pub record State : Type 0 where
  pub pairs : List Pair
  pub binds : List TermBind

-- the given pairs
abbrev pub start : List Pair → State
start ps = record { pairs = ps; binds = [] }

-- With the images put in, t has the long form u.
abbrev pub IsPut : List TermBind → Term → Term → Type 0
IsPut bs t u = HasLongForm (inst_term (term_image bs) t) u

-- So have the sides of a pair, and the image of an entry, whose variable stays.
abbrev pub IsPairPut : List TermBind → Pair → Pair → Type 0
IsPairPut bs p q = IsPut bs p.left q.left × IsPut bs p.right q.right

abbrev pub IsBindPut : List TermBind → TermBind → TermBind → Type 0
IsBindPut bs b c = (term_variable b ≡ term_variable c) × IsPut bs b.image c.image

-- What one step, whose new variables have the given index, makes of a state: its first pair is replaced, or variables are set, and the pair stays.
pub data Follows (index : ℕ) (s : State) : State → Type 0 where
  replaced : {p : Pair} {ps qs : List Pair} → s.pairs ≡ p ∷ ps → IsTreated index p.left p.right (Becomes qs) → Follows index s (record { pairs = qs ++ ps; binds = s.binds })
  set : {p : Pair} {ps qs : List Pair} {bs : List TermBind} (cs : List TermBind) → s.pairs ≡ p ∷ ps → IsTreated index p.left p.right (Sets bs) → EachTwo (IsPairPut bs) s.pairs qs → EachTwo (IsBindPut bs) s.binds cs
      → Follows index s (record { pairs = qs; binds = cs ++ bs })

-- The step finds that there is no unifier.
pub record Stops (index : ℕ) (s : State) : Type 0 where
  pub first : Pair
  pub rest : List Pair
  pub are : s.pairs ≡ first ∷ rest
  pub never : IsTreated index first.left first.right Never

-- The sides and the images are within the limits.
pub record IsWithinState (s : State) : Type 0 where
  pub sides : Each (λ p. IsWithin p.left × IsWithin p.right) s.pairs
  pub images : Each (λ b. IsWithin b.image) s.binds

-- how many steps there may be
abbrev pub max_steps : ℕ
max_steps = 10000

-- what steps come to: each variable that was set with its image, no unifier, too many steps, or something beyond the limits
pub data Outcome : Type 0 where
  Solved : List TermBind → Outcome
  NoUnifier : Outcome
  Steps : Outcome
  Big : Outcome

-- After `done` steps the state is this one. What comes of it is decided at the first state that isn't within the limits or has no pair left, or at the first step that finds no unifier, or when the steps have run out.
-- The new variables of a step have as index the greatest given one and the number of the step, counted from 1.
pub data Runs (maxidx : ℕ) : (done : ℕ) → State → Outcome → Type 0 where
  big : {n : ℕ} {s : State} → ¬ IsWithinState s → Runs maxidx n s Big
  over : {n : ℕ} {s : State} → IsWithinState s → s.pairs ≡ [] → Runs maxidx n s (Solved s.binds)
  out_of_steps : {n : ℕ} {s : State} {p : Pair} {ps : List Pair} → IsWithinState s → s.pairs ≡ p ∷ ps → n ≡ max_steps → Runs maxidx n s Steps
  never : {n : ℕ} {s : State} → IsWithinState s → n < max_steps → Stops (maxidx + (n + 1)) s → Runs maxidx n s NoUnifier
  next : {n : ℕ} {s m : State} {outcome : Outcome} → IsWithinState s → n < max_steps → Follows (maxidx + (n + 1)) s m → Runs maxidx (n + 1) m outcome → Runs maxidx n s outcome

-- the entries of those variables that occur in the pairs
abbrev pub given_binds : List Pair → List TermBind → List TermBind
given_binds ps [] = []
given_binds ps (b ∷ bs) = if list_any (term_eq (term_variable b)) (pair_variables ps) then (b ∷ given_binds ps bs) else given_binds ps bs
