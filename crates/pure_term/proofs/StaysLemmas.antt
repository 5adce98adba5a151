-- A term without schematic variables stays under finite maps.
use Rattle.std.proofs.Common.{◌≡◌, List, refl, ap, arith}
use Rattle.pure_definitions.specs.Terms.Term.{Term, Const, Free, Var, Bound, Abs, App}
use Rattle.pure_definitions.specs.Terms.Subst.{TypBind, TermBind, typ_image, term_image, inst_typ, inst_term, retyped_variable}
use Rattle.pure_definitions.specs.Terms.Measures.{term_index_above}
use Rattle.pure_definitions.proofs.InstanceLemmas.{typ_image-fixed, term_image-fixed}
use Rattle.pure_definitions.proofs.MeasureLemmas.{term_stays}

pub inst_typ_stays : (binds : List TypBind) (t : Term) → term_index_above t ≡ 0 → inst_typ (typ_image binds) t ≡ t
inst_typ_stays binds t e = term_stays (typ_image binds) (retyped_variable (typ_image binds)) (typ_image-fixed binds) (λ x T. refl) t e

pub inst_term_stays : (binds : List TermBind) (t : Term) → term_index_above t ≡ 0 → inst_term (term_image binds) t ≡ t
inst_term_stays binds (Const c T) e = refl
inst_term_stays binds (Free x T) e = term_image-fixed binds x T
inst_term_stays binds (Var x i T) e = absurd (omega arith)
inst_term_stays binds (Bound n) e = refl
inst_term_stays binds (Abs T b) e = ap (Abs T) (inst_term_stays binds b (omega arith))
inst_term_stays binds (App f a) e = λ l. App (inst_term_stays binds f (omega arith) l) (inst_term_stays binds a (omega arith) l)
