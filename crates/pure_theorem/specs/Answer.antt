-- What an inference answers: the one form of all contracts of inferences.
use Rattle.std.specs.Prelude.{◌≡◌, ◌++◌, Result, Ok, Err}
use Rattle.pure_definitions.specs.Terms.Term.{Term}
use Rattle.pure_definitions.specs.Models.Comparison.{term_cmp}
use Rattle.pure_logic.specs.Derivable.{Theorem}
use Rattle.pure_theorem.specs.Sets.{label_cmp, IsSetOf}
use Rattle.pure_theorem.specs.Within.{AreWithin}
use Rattle.pure_theorem.specs.declared.fault.RuleFault.{RuleFault}
use Rattle.pure_theorem.specs.declared.fault.RuleFault.TheVariants.{Big, Memory}

-- The answer of an inference: the theorem that it gives, within the limits; or `Big` where it gives one that isn't; or the fault for which it is refused; or `Memory`.
abbrev pub IsAnswer : (Gives : Theorem → Type 0) → (Refuses : RuleFault → Type 0) → Result Theorem RuleFault → Type 0
IsAnswer Gives Refuses (Ok th) = Gives th × AreWithin th
IsAnswer Gives Refuses (Err Big) = (th : Theorem) × Gives th × ¬ AreWithin th
IsAnswer Gives Refuses (Err Memory) = Unit {0}
IsAnswer Gives Refuses (Err fault) = Refuses fault

-- nothing is refused
abbrev pub NoRefusal : RuleFault → Type 0
NoRefusal fault = ⊥

-- What follows from two theorems: this proposition, with their hypotheses and promises united, and the pairs of both, the left theorem's first.
pub record IsJoined (left right : Theorem) (B : Term) (th : Theorem) : Type 0 where
  pub hyps : IsSetOf term_cmp (left.hyps ++ right.hyps) th.hyps
  pub pairs : th.pairs ≡ left.pairs ++ right.pairs
  pub prop : th.prop ≡ B
  pub rests : IsSetOf label_cmp (left.rests ++ right.rests) th.rests
