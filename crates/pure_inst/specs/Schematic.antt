-- Fixed variables made schematic, and indexes raised: what the calls give, and when they are refused. In the figures H are hypotheses.
use Rattle.std.specs.Prelude.{◌≡◌, ℕ, List, map}
use Rattle.pure_text.specs.Lists.{Each}
use Rattle.pure_definitions.specs.Terms.Subst.{term_instance}
use Rattle.pure_logic.specs.Derivable.{Theorem}
use Rattle.pure_logic.specs.Laws.Maps.{Generalisation, HasNoneOf, generalised, raised_typs, raised_terms}
use Rattle.pure_theorem.specs.First.{IsFirstWith}
use Rattle.pure_inst.specs.Named.{is_named}
use Rattle.pure_inst.specs.Image.{pair_image, IsImage}
use Rattle.pure_inst.specs.declared.fault.InstFault.{InstFault}
use Rattle.pure_inst.specs.declared.fault.InstFault.TheVariants.{FreeInHyps}

-- the fixed type variables and the fixed variables of these names, with this index
abbrev pub generalisation : (tfrees frees : List ℕ) → (index : ℕ) → Generalisation
generalisation tfrees frees index = record { typs = is_named tfrees; terms = is_named frees; index = index }

--  H |- A[x]
-- ------------ the fixed variables x occur nowhere in H
--  H |- A[?x]
pub record GivesGeneralised (g : Generalisation) (th new : Theorem) : Type 0 where
  pub fresh : Each (HasNoneOf g) th.hyps
  pub is : new ≡ record th { pairs = map (pair_image (generalised g)) th.pairs; prop = generalised g th.prop }

-- One of them occurs in a hypothesis, of which this is the first.
abbrev pub RefusesGeneralised : Generalisation → Theorem → InstFault → Type 0
RefusesGeneralised g th (FreeInHyps which) = IsFirstWith (λ A. ¬ HasNoneOf g A) th.hyps which
RefusesGeneralised g th _ = ⊥

-- The theorem with each schematic index raised.
abbrev pub GivesRaised : (by : ℕ) → Theorem → Theorem → Type 0
GivesRaised by th new = IsImage (term_instance (raised_typs by) (raised_terms by)) th new
