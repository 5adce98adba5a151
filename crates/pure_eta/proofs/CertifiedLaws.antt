-- The long form of a certified term is certified.
use Rattle.std.proofs.Common.{ℕ, zero, suc, ◌+◌, List, [], ◌∷◌, Bool, true, false}
use Rattle.std.specs.Prelude.{Option, Some, None, slice_get}
use Rattle.pure_text.specs.Lists.{Each}
use Rattle.pure_definitions.specs.Types.Typ.{Typ, Con, none, also}
use Rattle.pure_definitions.specs.Terms.Term.{Term, Const, Free, Var, Bound, Abs, App}
use Rattle.pure_definitions.specs.Terms.Bounds.{lift_term}
use Rattle.pure_definitions.specs.Declarations.Decl.{Decl}
use Rattle.pure_definitions.specs.Declarations.Certified.{IsCertifiedTyp, HasCertifiedParts}
use Rattle.pure_definitions.proofs.LiftLaws.{lift_term-bound}
use Rattle.pure_eta.specs.LongTerm.{range_typ, front_typ, expanded, expanded_at, long_term}

certified-lift : (ds : List Decl) (by from : ℕ) (t : Term) → HasCertifiedParts ds t → HasCertifiedParts ds (lift_term by from t)
certified-lift ds by from (Const c T) h = h
certified-lift ds by from (Free x T) h = h
certified-lift ds by from (Var x i T) h = h
certified-lift ds by from (Bound p) h = rw (lift_term-bound by from p) tt
certified-lift ds by from (Abs T b) h = (h.0, certified-lift ds by (from + 1) b h.1)
certified-lift ds by from (App f a) h = (certified-lift ds by from f h.0, certified-lift ds by from a h.1)

-- The type, where there is one, is certified.
abbrev IsCertifiedOption : List Decl → Option Typ → Type 0
IsCertifiedOption ds (Some T) = IsCertifiedTyp ds T
IsCertifiedOption ds None = Unit {0}

certified-range : (ds : List Decl) (o : Option Typ) → IsCertifiedOption ds o → IsCertifiedOption ds (range_typ o)
certified-range ds (Some (Con zero (also A (also B none)))) h = h.1.1.0
certified-range ds _ h = tt

certified-binder : (ds : List Decl) (bs : List Typ) (p : ℕ) → Each (IsCertifiedTyp ds) bs → IsCertifiedOption ds (slice_get bs p)
certified-binder ds [] p h = tt
certified-binder ds (b ∷ bs) zero h = h.0
certified-binder ds (b ∷ bs) (suc p) h = certified-binder ds bs p h.1

certified-front : (ds : List Decl) (bs : List Typ) (t : Term) → Each (IsCertifiedTyp ds) bs → HasCertifiedParts ds t → IsCertifiedOption ds (front_typ bs t)
certified-front ds bs (Const c T) b h = h.0
certified-front ds bs (Free x T) b h = h
certified-front ds bs (Var x i T) b h = h
certified-front ds bs (Bound p) b h = certified-binder ds bs p b
certified-front ds bs (Abs T u) b h = tt
certified-front ds bs (App f a) b h = certified-range ds (front_typ bs f) (certified-front ds bs f b h.0)

certified-expanded : (ds : List Decl) (T : Typ) (t : Term) → IsCertifiedTyp ds T → HasCertifiedParts ds t → HasCertifiedParts ds (expanded T t)
certified-expanded ds (Con zero (also A (also B none))) t c h =
    (c.1.0, certified-expanded ds B (App (lift_term 1 0 t) (expanded A (Bound 0))) c.1.1.0 (certified-lift ds 1 0 t h, certified-expanded ds A (Bound 0) c.1.0 tt))
certified-expanded ds T t c h = h

certified-at : (ds : List Decl) (applied : Bool) (o : Option Typ) (t : Term) → IsCertifiedOption ds o → HasCertifiedParts ds t → HasCertifiedParts ds (expanded_at applied o t)
certified-at ds false (Some T) t c h = certified-expanded ds T t c h
certified-at ds applied o t c h = h

pub certified-long_term : (ds : List Decl) (applied : Bool) (bs : List Typ) (t : Term) → Each (IsCertifiedTyp ds) bs → HasCertifiedParts ds t → HasCertifiedParts ds (long_term applied bs t)
certified-long_term ds applied bs (Const c T) b h = certified-at ds applied (Some T) (Const c T) h.0 h
certified-long_term ds applied bs (Free x T) b h = certified-at ds applied (Some T) (Free x T) h h
certified-long_term ds applied bs (Var x i T) b h = certified-at ds applied (Some T) (Var x i T) h h
certified-long_term ds applied bs (Bound p) b h = certified-at ds applied (slice_get bs p) (Bound p) (certified-binder ds bs p b) tt
certified-long_term ds applied bs (Abs T u) b h = (h.0, certified-long_term ds false (T ∷ bs) u (h.0, b) h.1)
certified-long_term ds applied bs (App f a) b h =
    certified-at ds applied (front_typ bs (App f a)) (App (long_term true bs f) (long_term false bs a)) (certified-front ds bs (App f a) b h)
    (certified-long_term ds true bs f b h.0, certified-long_term ds false bs a b h.1)
