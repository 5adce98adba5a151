-- Passes over the pairs that look at the limits at the end alone: images only grow, so what is within them then was so before.
use Rattle.std.specs.Prelude.{◌≡◌, ℕ, ◌≤◌, List, [], ◌++◌, drop, length}
use Rattle.pure_definitions.specs.Types.Order.{Algebra}
use Rattle.pure_definitions.specs.Terms.Subst.{TypBind}
use Rattle.pure_tunify.specs.declared.pair.TypPair.{TypPair}
use Rattle.pure_tunify.specs.declared.fault.TypFault.{TypFault}
use Rattle.pure_tunify.specs.declared.fault.TypFault.TheVariants.{NoTyping, Big, Memory}
use Rattle.pure_tunify.specs.declared.unifier.Pass.{Pass}
use Rattle.pure_tunify.specs.declared.unifier.Pass.TheVariants.{Whole, Beyond, Stopped}
use Rattle.pure_tunify.specs.declared.unifier.Attempt.{Attempt}
use Rattle.pure_tunify.specs.declared.unifier.Attempt.TheVariants as attempt
use Rattle.pure_tunify.specs.Steps.{instance_pair}
use Rattle.pure_tunify.specs.Settings.{composed, AreWithinLimits, Progress}
use Rattle.pure_tunify.specs.Procedure.{Equalises, Blocks, Outcome, TooBig, Unifies}

-- After some of the pairs without a look at the limits: what the others come to all of them come to, if the settings are within the limits.
pub record HasCome (A : Algebra) (index from : ℕ) (pairs : List TypPair) (i : ℕ) (now : Progress) : Type 0 where
  pub onward : (at : ℕ) → at ≡ i → AreWithinLimits now.sets now.next → (outcome : Outcome) → Unifies A index at now.next now.sets (drop i pairs) outcome → Unifies A index 0 from [] pairs outcome
  pub same : now.index ≡ index
  pub later : from ≤ now.next

-- Where all are made equal, all have come to the settings; where one passes the limits, it decides, unless one before it does.
abbrev pub IsPass : Algebra → (old new : Progress) → List TypPair → Pass → Type 0
IsPass A old new pairs Whole = HasCome A old.index old.next pairs (length pairs) new
IsPass A old new pairs (Beyond at) = AreWithinLimits new.sets new.next → Unifies A old.index 0 old.next [] pairs (TooBig at)
IsPass A old new pairs (Stopped at) = Unit {0}

-- Behind settings within the limits the pair has no unifier, or makes an image beyond them.
abbrev pub IsJudged : Algebra → (old : Progress) → TypPair → (index : ℕ) → TypFault → Type 0
IsJudged A old p index (NoTyping k) = (k ≡ index) × AreWithinLimits old.sets old.next × Blocks A old.index old.next (instance_pair (composed old.sets) p)
IsJudged A old p index (Big k) = (k ≡ index) × AreWithinLimits old.sets old.next × ((more : List TypBind) × (next : ℕ) × Equalises A old.index old.next (instance_pair (composed old.sets) p) more next × ¬ AreWithinLimits (old.sets ++ more) next)
IsJudged A old p index Memory = Unit {0}

-- what is said of settings that are found
abbrev pub IfFound : (Progress → Type 0) → Attempt → Type 0
IfFound P (attempt.Found found) = P found
IfFound P (attempt.Beyond at) = Unit {0}
IfFound P (attempt.Stopped at) = Unit {0}

-- what is said of a pair that passes the limits
abbrev pub IfBeyond : (ℕ → Type 0) → Attempt → Type 0
IfBeyond P (attempt.Beyond at) = P at
IfBeyond P _ = Unit {0}
