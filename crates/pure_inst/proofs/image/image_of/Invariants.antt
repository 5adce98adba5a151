use Rattle.std.proofs.Common.{◌≡◌, drop}
use Rattle.pure_definitions.specs.Terms.Term.{Var}
use Rattle.pure_definitions.specs.Terms.Subst.{typ_image, term_image, typ_instance}
use Rattle.pure_inst.proofs.image.image_of.Given as goal

-- the entries that are left decide
abbrev pub invariant-loop-bind : goal.invariant-loop-bind
invariant-loop-bind l = (let v = Var l.name l.index (typ_instance (typ_image l.typs) l.typ) in term_image (drop l.bind-index l.bind-items) v ≡ term_image l.bind-items v)
