-- Prefixes of subgoals: the parameters and the hypotheses that stand before a subgoal's conclusion (Isabelle/Isar Implementation manual, section 2.4.2).
use Rattle.std.specs.Prelude.{List, [], ◌∷◌, length}
use Rattle.pure_definitions.specs.Types.Typ.{Typ}
use Rattle.pure_definitions.specs.Terms.Term.{Term, Abs}
use Rattle.pure_definitions.specs.Terms.Bounds.{lift_term}
use Rattle.pure_logic.specs.Connectives.{all, imp}

-- A part of a prefix: a parameter of a type, which is bound in all that follows, or a hypothesis.
pub data Item : Type 0 where
  Parameter : (typ : Typ) → Item
  Hypothesis : (proposition : Term) → Item

-- the proposition behind a prefix: `!!x.` for each parameter and `A ==>` for each hypothesis. The parameters are loose bound variables of the conclusion, the last one the bound variable 0.
abbrev pub behind : List Item → Term → Term
behind [] C = C
behind (Parameter T ∷ ps) C = all T (behind ps C)
behind (Hypothesis A ∷ ps) C = imp A (behind ps C)

-- the types of the parameters, in order
abbrev pub parameters : List Item → List Typ
parameters [] = []
parameters (Parameter T ∷ ps) = T ∷ parameters ps
parameters (Hypothesis A ∷ ps) = parameters ps

-- the term below abstractions over variables of these types, the first type outermost
abbrev pub abstracted : List Typ → Term → Term
abstracted [] t = t
abstracted (T ∷ Ts) t = Abs T (abstracted Ts t)

-- the term below abstractions over the parameters of the prefix
abbrev pub below_parameters : List Item → Term → Term
below_parameters ps t = abstracted (parameters ps) t

-- the hypotheses in order, as they stand behind the whole prefix: each lifted over the parameters that come after it
abbrev pub hypotheses : List Item → List Term
hypotheses [] = []
hypotheses (Parameter T ∷ ps) = hypotheses ps
hypotheses (Hypothesis A ∷ ps) = lift_term (length (parameters ps)) 0 A ∷ hypotheses ps
