-- What a map of terms makes of a theorem; and what the calls answer.
use Rattle.std.specs.Prelude.{◌≡◌, map, Result, Ok, Err}
use Rattle.pure_text.specs.Lists.{Each}
use Rattle.pure_definitions.specs.Terms.Term.{Term, IsWithin}
use Rattle.pure_definitions.specs.Models.Comparison.{term_cmp}
use Rattle.pure_logic.specs.Derivable.{Pair, Theorem}
use Rattle.pure_theorem.specs.Sets.{IsSetOf}
use Rattle.pure_theorem.specs.Within.{IsPairWithin, AreWithin}
use Rattle.pure_inst.specs.declared.fault.InstFault.{InstFault}
use Rattle.pure_inst.specs.declared.fault.InstFault.TheVariants.{Big, Memory}

-- the pair of the images of its sides
abbrev pub pair_image : (Term → Term) → Pair → Pair
pair_image f p = record { left = f p.left; right = f p.right }

-- The set of the images of the hypotheses, the images of the pairs and of the proposition, and the same promises.
pub record IsImage (f : Term → Term) (th new : Theorem) : Type 0 where
  pub hyps : IsSetOf term_cmp (map f th.hyps) new.hyps
  pub pairs : new.pairs ≡ map (pair_image f) th.pairs
  pub prop : new.prop ≡ f th.prop
  pub rests : new.rests ≡ th.rests

-- Each term of the theorem has an image within the limits.
pub record AreImagesWithin (f : Term → Term) (th : Theorem) : Type 0 where
  pub hyps : Each (λ A. IsWithin (f A)) th.hyps
  pub pairs : Each (λ p. IsPairWithin (pair_image f p)) th.pairs
  pub prop : IsWithin (f th.prop)

-- The answer of a call that maps a theorem: the theorem that it gives, within the limits; or `Big` where it gives one that isn't; or the fault for which it is refused; or `Memory`.
abbrev pub IsMapAnswer : (Gives : Theorem → Type 0) → (Refuses : InstFault → Type 0) → Result Theorem InstFault → Type 0
IsMapAnswer Gives Refuses (Ok th) = Gives th × AreWithin th
IsMapAnswer Gives Refuses (Err Big) = (th : Theorem) × Gives th × ¬ AreWithin th
IsMapAnswer Gives Refuses (Err Memory) = Unit {0}
IsMapAnswer Gives Refuses (Err fault) = Refuses fault

-- nothing is refused
abbrev pub RefusesNothing : InstFault → Type 0
RefusesNothing fault = ⊥
