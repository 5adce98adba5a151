-- An equation from a term.
use Rattle.std.proofs.Common.{◌≡◌, []}
use Rattle.pure_definitions.specs.Types.Typ.{Typ}
use Rattle.pure_definitions.specs.Terms.Term.{Term}
use Rattle.pure_logic.specs.Connectives.{eq}
use Rattle.pure_logic.specs.Derivable.{Theorem}
use Rattle.pure_conv.specs.Bottom.{IsEquationFrom}

-- what equates the term with another, alone, is an equation from it
pub equation_from : (t : Term) (th : Theorem) → th.hyps ≡ [] → th.pairs ≡ [] → ((typ : Typ) × (right : Term) × (th.prop ≡ eq typ t right)) → IsEquationFrom t th
equation_from t th hyps pairs (typ, right, is) = record { no_hyps = hyps; no_pairs = pairs; typ = typ; right = right; equates = is }
