-- The maps of a unifier at once, and one after the other.
use Rattle.std.proofs.Common.{◌≡◌, refl, ap}
use Rattle.pure_definitions.specs.Terms.Term.{Term, Const, Free, Var, Bound, Abs, App}
use Rattle.pure_definitions.specs.Terms.Subst.{typ_instance, term_image, term_instance, inst_typ, inst_term}
use Rattle.pure_unify_definitions.specs.Search.{Unifier}
use Rattle.pure_unify_answers.specs.Maps.{unifier_typs, unifier_terms}

pub maps_one_after_the_other : (u : Unifier) (t : Term) → inst_term (term_image u.terms) (inst_typ (unifier_typs u) t) ≡ term_instance (unifier_typs u) (unifier_terms u) t
maps_one_after_the_other u (Const c T) = refl
maps_one_after_the_other u (Free x T) = refl
maps_one_after_the_other u (Var x i T) = refl
maps_one_after_the_other u (Bound n) = refl
maps_one_after_the_other u (Abs T b) = ap (Abs (typ_instance (unifier_typs u) T)) (maps_one_after_the_other u b)
maps_one_after_the_other u (App f a) = λ l. App (maps_one_after_the_other u f l) (maps_one_after_the_other u a l)
