-- Instances of a theorem by finite maps: what the call gives, and when it is refused. In the figure H are hypotheses.
use Rattle.std.specs.Prelude.{List, []}
use Rattle.pure_definitions.specs.Types.Order.{Algebra, IsOfSort}
use Rattle.pure_definitions.specs.Terms.Subst.{TypBind, TermBind, AreSortRespecting, AreTypeRespecting}
use Rattle.pure_definitions.specs.Terms.Typing.{HasType}
use Rattle.pure_logic.specs.Derivable.{Theorem}
use Rattle.pure_logic.specs.Laws.Maps.{instantiated}
use Rattle.pure_theorem.specs.First.{IsFirstWith}
use Rattle.pure_inst.specs.Image.{IsImage}
use Rattle.pure_inst.specs.declared.fault.InstFault.{InstFault}
use Rattle.pure_inst.specs.declared.fault.InstFault.TheVariants.{SortFails, TypeDiffers}

--     H |- A
-- ---------------- types put in first, of their variables' sorts; then terms, of their variables' types
--  H[t] |- A[t]
pub record GivesInstance (algebra : Algebra) (typs : List TypBind) (terms : List TermBind) (th new : Theorem) : Type 0 where
  pub sorts : AreSortRespecting algebra typs
  pub types : AreTypeRespecting terms
  pub image : IsImage (instantiated typs terms) th new

-- An image isn't of its variable's sort, of which this is the first; or each is, and an image has not its variable's type, of which this is the first.
abbrev pub RefusesInstance : Algebra → List TypBind → List TermBind → InstFault → Type 0
RefusesInstance algebra typs terms (SortFails place) = IsFirstWith (λ b. ¬ IsOfSort algebra b.image b.sort) typs place
RefusesInstance algebra typs terms (TypeDiffers place) = AreSortRespecting algebra typs × IsFirstWith (λ b. ¬ HasType [] b.image b.typ) terms place
RefusesInstance algebra typs terms _ = ⊥
