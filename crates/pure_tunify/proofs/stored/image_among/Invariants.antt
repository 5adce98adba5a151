use Rattle.std.proofs.Common.{◌≡◌, drop}
use Rattle.pure_definitions.specs.Types.Typ.{TVar}
use Rattle.pure_definitions.specs.Terms.Subst.{typ_image}
use Rattle.pure_tunify.proofs.stored.image_among.Given as goal

-- None of the entries so far is for the variable.
abbrev pub invariant-loop-bind : goal.invariant-loop-bind
invariant-loop-bind l = typ_image l.binds (TVar l.name l.index l.sort) ≡ typ_image (drop l.bind-index l.binds) (TVar l.name l.index l.sort)
