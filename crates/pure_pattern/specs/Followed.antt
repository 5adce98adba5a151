-- Runs, as far as they are held: entries of new variables aren't.
use Rattle.std.specs.Prelude.{◌≡◌, ℕ, List, [], ◌∷◌, ◌++◌, ◌⊎◌, map, reverse, nat_lt, if◌then◌else◌, Result, Ok, Err}
use Rattle.std.specs.Global.{Vec}
use Rattle.pure_text.specs.Lists.{Each}
use Rattle.pure_definitions.specs.Terms.Subst.{TermBind, term_image}
use Rattle.pure_typ.specs.declared.grow.Grow.{Grow}
use Rattle.pure_typ.specs.declared.grow.Grow.TheVariants as grown
use Rattle.pure_logic.specs.Derivable.{Pair}
use Rattle.pure_pattern_laws.specs.Steps as steps
use Rattle.pure_pattern_laws.specs.Steps.{State, Solved, Runs}
use Rattle.pure_pattern_bounds.specs.Covered.{IsCovered}
use Rattle.pure_pattern_rules.specs.Treated.{AreSidesWithin}
use Rattle.pure_pattern.specs.declared.state.Held.{Held}
use Rattle.pure_pattern.specs.declared.fault.PatternFault.{PatternFault}
use Rattle.pure_pattern.specs.declared.fault.PatternFault.TheVariants.{NoUnifier, Steps, Big, Memory}
use Rattle.pure_pattern_bounds.specs.Put.{pair_put, bind_put}
use Rattle.pure_pattern.specs.Held.{IsImageWithin}
use Rattle.pure_pattern.specs.Reached.{IsReached}

-- the entries of indexes up to n
abbrev pub kept : ℕ → List TermBind → List TermBind
kept n [] = []
kept n (b ∷ bs) = if nat_lt n b.index then kept n bs else (b ∷ kept n bs)

-- After n steps the state has these pairs, and these entries of indexes up to maxidx.
pub record IsFollowed (maxidx n : ℕ) (first : State) (ps : List Pair) (bs : List TermBind) : Type 0 where
  pub state : State
  pub reached : IsReached maxidx n first state
  pub covered : IsCovered maxidx state
  pub pairs : state.pairs ≡ ps
  pub binds : kept maxidx state.binds ≡ bs

-- What is held has these pairs with images put in, and these entries, and the new ones of indexes up to maxidx; all is within the limits.
pub record IsGiven (maxidx : ℕ) (bs : List TermBind) (pairs : List Pair) (binds : List TermBind) (h : Held) : Type 0 where
  pub are : h.pairs.items ≡ map (pair_put (term_image bs)) pairs
  pub within : Each AreSidesWithin h.pairs.items
  pub entries : h.binds.items ≡ map (bind_put (term_image bs)) binds ++ kept maxidx bs
  pub images : Each IsImageWithin h.binds.items

-- With the images put in, the pairs or the entries aren't within the limits.
abbrev pub AreBeyond : List TermBind → List Pair → List TermBind → Type 0
AreBeyond bs pairs binds = (¬ Each AreSidesWithin (map (pair_put (term_image bs)) pairs)) ⊎ (¬ Each IsImageWithin (map (bind_put (term_image bs)) binds))

-- The answer of a call that puts images in, and of one that does so where a first pair is held apart.
abbrev pub IsGivenMade : (maxidx : ℕ) → List TermBind → Held → Result Held Grow → Type 0
IsGivenMade maxidx bs old (Ok h) = IsGiven maxidx bs old.pairs.items old.binds.items h
IsGivenMade maxidx bs old (Err grown.Big) = AreBeyond bs old.pairs.items old.binds.items
IsGivenMade maxidx bs old (Err grown.Memory) = Unit {0}

abbrev pub IsGivenSet : (maxidx : ℕ) → List TermBind → Pair → Held → Result Held PatternFault → Type 0
IsGivenSet maxidx bs p old (Ok h) = IsGiven maxidx bs (old.pairs.items ++ p ∷ []) old.binds.items h
IsGivenSet maxidx bs p old (Err Big) = AreBeyond bs (old.pairs.items ++ p ∷ []) old.binds.items
IsGivenSet maxidx bs p old (Err Memory) = Unit {0}
IsGivenSet maxidx bs p old (Err fault) = ⊥

-- The answer of a step: what is held of the state that follows; that there is no unifier; that the state which follows isn't within the limits; or `Memory`.
abbrev pub IsStepped : (maxidx n : ℕ) → State → Result Held PatternFault → Type 0
IsStepped maxidx n first (Ok h) = IsFollowed maxidx n first (reverse h.pairs.items) h.binds.items
IsStepped maxidx n first (Err NoUnifier) = Runs maxidx 0 first steps.NoUnifier
IsStepped maxidx n first (Err Big) = Runs maxidx 0 first steps.Big
IsStepped maxidx n first (Err Memory) = Unit {0}
IsStepped maxidx n first (Err fault) = ⊥

-- These are the entries of indexes up to maxidx of those that steps come to.
pub record AreSolvedUpTo (maxidx : ℕ) (first : State) (bs : List TermBind) : Type 0 where
  pub all : List TermBind
  pub run : Runs maxidx 0 first (Solved all)
  pub are : kept maxidx all ≡ bs

-- The answer is what steps come to; or `Memory`.
abbrev pub IsDecided : (maxidx : ℕ) → State → Result (Vec TermBind) PatternFault → Type 0
IsDecided maxidx first (Ok bs) = AreSolvedUpTo maxidx first bs.items
IsDecided maxidx first (Err NoUnifier) = Runs maxidx 0 first steps.NoUnifier
IsDecided maxidx first (Err Steps) = Runs maxidx 0 first steps.Steps
IsDecided maxidx first (Err Big) = Runs maxidx 0 first steps.Big
IsDecided maxidx first (Err Memory) = Unit {0}
IsDecided maxidx first (Err fault) = ⊥
