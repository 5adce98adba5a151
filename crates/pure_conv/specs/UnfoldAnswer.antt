-- What the conversion answers that unfolds a definition. In the figure c is a constant.
use Rattle.std.specs.Prelude.{◌≡◌, []}
use Rattle.pure_definitions.specs.Types.Typ.{Typ}
use Rattle.pure_definitions.specs.Types.Order.{Algebra}
use Rattle.pure_definitions.specs.Terms.Term.{Term}
use Rattle.pure_definitions.specs.Terms.Typing.{HasType}
use Rattle.pure_logic.specs.Connectives.{eq}
use Rattle.pure_logic.specs.Derivable.{Theorem}
use Rattle.pure_unfold.specs.Unfold.{IsNoDefinition, Unfolds, UnfoldsNothing}
use Rattle.pure_conv.specs.declared.fault.ConvFault.{ConvFault}
use Rattle.pure_conv.specs.declared.fault.ConvFault.TheVariants.{NotDefinition, NothingToUnfold}

--  |- c == r
-- ----------- u is t with each instance of c replaced by that of r
--  |- t == u
pub record GivesUnfolded (A : Algebra) (def : Theorem) (t : Term) (th : Theorem) : Type 0 where
  pub unfolded : Term
  pub unfolds : Unfolds A def.prop t unfolded
  pub typ : Typ
  pub typed : HasType [] t typ
  pub is : th ≡ record def { prop = eq typ t unfolded }

-- The theorem is no definition; or it is one by which nothing in the term is unfolded.
abbrev pub RefusesUnfolded : Algebra → (def : Theorem) → (t : Term) → ConvFault → Type 0
RefusesUnfolded A def t NotDefinition = IsNoDefinition def.prop
RefusesUnfolded A def t NothingToUnfold = UnfoldsNothing A def.prop t
RefusesUnfolded A def t _ = ⊥
