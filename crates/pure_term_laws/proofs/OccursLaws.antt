-- Maps that agree on what occurs in a term; where what occurs in an instance comes from; and terms that maps leave as they are, or closed.
use Rattle.std.proofs.Common.{◌≡◌, ◌⊎◌, ◌≤◌, ◌+◌, ℕ, inl, inr, refl, ap, ◌∙◌, arith}
use Rattle.pure_definitions.specs.Types.Typ.{Typ, TFree, TVar, Con, Typs, none, also}
use Rattle.pure_definitions.specs.Types.Occurs.{OccursInTyp, OccursInTyps}
use Rattle.pure_definitions.specs.Terms.Term.{Term, Const, Free, Var, Bound, Abs, App}
use Rattle.pure_definitions.specs.Terms.Bounds.{IsClosedUnder, Occurs}
use Rattle.pure_definitions.specs.Terms.Conditions.{IsVariable, variable_typ}
use Rattle.pure_definitions.specs.Terms.Subst.{typ_instance, typs_instance, term_instance, KeepsFixedTyps, KeepsFixedTerms}
use Rattle.pure_term_laws.specs.LawsMaps.{AreImagesClosed}
use Rattle.pure_term_laws.specs.LawsOccurs.{IsTypVariable, TypOccurs, AgreeOn, HasNoSchematic}
use Rattle.pure_term_laws.proofs.MapLaws.{not_variable}
use Rattle.pure_term_laws.proofs.SubstLaws.{typ_instance-identity, term_instance-identity}

mutual
  pub typ_instances-agree : (typs others : Typ → Typ) (T : Typ) → ((v : Typ) → IsTypVariable v → OccursInTyp v T → typs v ≡ others v) → typ_instance typs T ≡ typ_instance others T
  typ_instances-agree typs others (TFree x s) same = same (TFree x s) tt refl
  typ_instances-agree typs others (TVar x i s) same = same (TVar x i s) tt refl
  typ_instances-agree typs others (Con k ts) same = ap (Con k) (typs_instances-agree typs others ts (λ v is o. same v is (inr o)))

  typs_instances-agree : (typs others : Typ → Typ) (ts : Typs) → ((v : Typ) → IsTypVariable v → OccursInTyps v ts → typs v ≡ others v) → typs_instance typs ts ≡ typs_instance others ts
  typs_instances-agree typs others none same = refl
  typs_instances-agree typs others (also t ts) same =
      λ l. also (typ_instances-agree typs others t (λ v is o. same v is (inl o)) l) (typs_instances-agree typs others ts (λ v is o. same v is (inr o)) l)

pub agreeing_instance : (typs other_typs : Typ → Typ) (terms other_terms : Term → Term) (t : Term) → AgreeOn typs other_typs terms other_terms t
    → term_instance typs terms t ≡ term_instance other_typs other_terms t
agreeing_instance typs others terms more (Const c T) same = ap (Const c) (typ_instances-agree typs others T same.on_typs)
agreeing_instance typs others terms more (Free x T) same = same.on_terms (Free x T) tt refl
agreeing_instance typs others terms more (Var x i T) same = same.on_terms (Var x i T) tt refl
agreeing_instance typs others terms more (Bound n) same = refl
agreeing_instance typs others terms more (Abs T b) same =
    let binder = typ_instances-agree typs others T (λ v is o. same.on_typs v is (inl o)) in
    let body = agreeing_instance typs others terms more b (record { on_typs = λ v is o. same.on_typs v is (inr o); on_terms = λ u is o. same.on_terms u is (inr o) }) in
    λ l. Abs (binder l) (body l)
agreeing_instance typs others terms more (App f a) same =
    let function = agreeing_instance typs others terms more f (record { on_typs = λ v is o. same.on_typs v is (inl o); on_terms = λ u is o. same.on_terms u is (inr (inl o)) }) in
    let argument = agreeing_instance typs others terms more a (record { on_typs = λ v is o. same.on_typs v is (inr o); on_terms = λ u is o. same.on_terms u is (inr (inr o)) }) in
    λ l. App (function l) (argument l)

mutual
  pub typ_variable_of_typ_instance : (typs : Typ → Typ) (v T : Typ) → IsTypVariable v → OccursInTyp v (typ_instance typs T) → (u : Typ) × IsTypVariable u × OccursInTyp u T × OccursInTyp v (typs u)
  typ_variable_of_typ_instance typs v (TFree x s) is o = (TFree x s, tt, refl, o)
  typ_variable_of_typ_instance typs v (TVar x i s) is o = (TVar x i s, tt, refl, o)
  typ_variable_of_typ_instance typs v (Con k ts) is (inl e) = absurd (rw e at is)
  typ_variable_of_typ_instance typs v (Con k ts) is (inr o) = let found = typ_variable_of_typs_instance typs v ts is o in (found.0, found.1, inr found.2, found.3)

  typ_variable_of_typs_instance : (typs : Typ → Typ) (v : Typ) (ts : Typs) → IsTypVariable v → OccursInTyps v (typs_instance typs ts) → (u : Typ) × IsTypVariable u × OccursInTyps u ts × OccursInTyp v (typs u)
  typ_variable_of_typs_instance typs v none is o = absurd o
  typ_variable_of_typs_instance typs v (also t ts) is (inl o) = let found = typ_variable_of_typ_instance typs v t is o in (found.0, found.1, inl found.2, found.3)
  typ_variable_of_typs_instance typs v (also t ts) is (inr o) = let found = typ_variable_of_typs_instance typs v ts is o in (found.0, found.1, inr found.2, found.3)

pub variable_of_instance : (typs : Typ → Typ) (terms : Term → Term) (w t : Term) → IsVariable w → Occurs w (term_instance typs terms t) → (u : Term) × IsVariable u × Occurs u t × Occurs w (terms u)
variable_of_instance typs terms w (Const c T) is o = absurd (rw o at is)
variable_of_instance typs terms w (Free x T) is o = (Free x T, tt, refl, o)
variable_of_instance typs terms w (Var x i T) is o = (Var x i T, tt, refl, o)
variable_of_instance typs terms w (Bound n) is o = absurd (rw o at is)
variable_of_instance typs terms w (Abs T b) is (inl e) = absurd (rw e at is)
variable_of_instance typs terms w (Abs T b) is (inr o) = let found = variable_of_instance typs terms w b is o in (found.0, found.1, inr found.2, found.3)
variable_of_instance typs terms w (App f a) is (inl e) = absurd (rw e at is)
variable_of_instance typs terms w (App f a) is (inr (inl o)) = let found = variable_of_instance typs terms w f is o in (found.0, found.1, inr (inl found.2), found.3)
variable_of_instance typs terms w (App f a) is (inr (inr o)) = let found = variable_of_instance typs terms w a is o in (found.0, found.1, inr (inr found.2), found.3)

module _ (typs : Typ → Typ) (terms : Term → Term) (v : Typ) (is : IsTypVariable v) where
  -- A type variable of the term has v in its image, or a variable of it has.
  abbrev ComesFrom : Term → Type 0
  ComesFrom t = ((u : Typ) × IsTypVariable u × TypOccurs u t × OccursInTyp v (typs u)) ⊎ ((u : Term) × IsVariable u × Occurs u t × TypOccurs v (terms u))

  -- What comes from a part of a term comes from the term.
  comes_from-whole : (part whole : Term) → ((u : Typ) → TypOccurs u part → TypOccurs u whole) → ((u : Term) → Occurs u part → Occurs u whole) → ComesFrom part → ComesFrom whole
  comes_from-whole part whole on_typs on_terms (inl found) = inl (found.0, found.1, on_typs found.0 found.2, found.3)
  comes_from-whole part whole on_typs on_terms (inr found) = inr (found.0, found.1, on_terms found.0 found.2, found.3)

  pub typ_variable_of_instance : (t : Term) → TypOccurs v (term_instance typs terms t) → ComesFrom t
  typ_variable_of_instance (Const c T) o = inl (typ_variable_of_typ_instance typs v T is o)
  typ_variable_of_instance (Free x T) o = inr (Free x T, tt, refl, o)
  typ_variable_of_instance (Var x i T) o = inr (Var x i T, tt, refl, o)
  typ_variable_of_instance (Bound n) o = absurd o
  typ_variable_of_instance (Abs T b) (inl o) = let found = typ_variable_of_typ_instance typs v T is o in inl (found.0, found.1, inl found.2, found.3)
  typ_variable_of_instance (Abs T b) (inr o) = comes_from-whole b (Abs T b) (λ u m. inr m) (λ u m. inr m) (typ_variable_of_instance b o)
  typ_variable_of_instance (App f a) (inl o) = comes_from-whole f (App f a) (λ u m. inl m) (λ u m. inr (inl m)) (typ_variable_of_instance f o)
  typ_variable_of_instance (App f a) (inr o) = comes_from-whole a (App f a) (λ u m. inr m) (λ u m. inr (inr m)) (typ_variable_of_instance a o)

-- What occurs in the type of a variable of the term occurs in a type in the term.
pub typ_occurs-variable : (v : Typ) (u t : Term) → IsVariable u → Occurs u t → OccursInTyp v (variable_typ u) → TypOccurs v t
typ_occurs-variable v u (Const c T) is o h = not_variable u (Const c T) is o (λ no. no)
typ_occurs-variable v u (Free x T) is o h = rw o at h
typ_occurs-variable v u (Var x i T) is o h = rw o at h
typ_occurs-variable v u (Bound n) is o h = not_variable u (Bound n) is o (λ no. no)
typ_occurs-variable v u (Abs T b) is (inl e) h = not_variable u (Abs T b) is e (λ no. no)
typ_occurs-variable v u (Abs T b) is (inr o) h = inr (typ_occurs-variable v u b is o h)
typ_occurs-variable v u (App f a) is (inl e) h = not_variable u (App f a) is e (λ no. no)
typ_occurs-variable v u (App f a) is (inr (inl o)) h = inl (typ_occurs-variable v u f is o h)
typ_occurs-variable v u (App f a) is (inr (inr o)) h = inr (typ_occurs-variable v u a is o h)

module _ (typs : Typ → Typ) (terms : Term → Term) (fixed_typs : KeepsFixedTyps typs) (fixed : KeepsFixedTerms typs terms) (t : Term) (h : HasNoSchematic t) where
  keeps_typ : (v : Typ) → IsTypVariable v → TypOccurs v t → typs v ≡ v
  keeps_typ (TFree x s) is o = fixed_typs x s
  keeps_typ (TVar x i s) is o = absurd (h.typs x i s o)
  keeps_typ (Con k ts) is o = absurd is

  keeps_term : (u : Term) → IsVariable u → Occurs u t → terms u ≡ u
  keeps_term (Free x T) is o =
      fixed x T
      ∙ ap (Free x) (typ_instances-agree typs (λ v. v) T (λ v variable m. keeps_typ v variable (typ_occurs-variable v (Free x T) t is o m)) ∙ typ_instance-identity T)
  keeps_term (Var x i T) is o = absurd (h.terms x i T o)
  keeps_term (Const c T) is o = absurd is
  keeps_term (Bound n) is o = absurd is
  keeps_term (Abs T b) is o = absurd is
  keeps_term (App f a) is o = absurd is

  pub schematic_map_keeps : term_instance typs terms t ≡ t
  schematic_map_keeps = agreeing_instance typs (λ v. v) terms (λ v. v) t (record { on_typs = keeps_typ; on_terms = keeps_term }) ∙ term_instance-identity t

-- What is closed under some binders is closed under more.
pub closed-more : (n m : ℕ) (t : Term) → n ≤ m → IsClosedUnder n t → IsClosedUnder m t
closed-more n m (Const c T) le h = tt
closed-more n m (Free x T) le h = tt
closed-more n m (Var x i T) le h = tt
closed-more n m (Bound p) le h = omega arith
closed-more n m (Abs T b) le h = closed-more (n + 1) (m + 1) b (omega arith) h
closed-more n m (App f a) le h = (closed-more n m f le h.0, closed-more n m a le h.1)

pub instance_is_closed : (typs : Typ → Typ) (terms : Term → Term) → AreImagesClosed terms → (n : ℕ) (t : Term) → IsClosedUnder n t → IsClosedUnder n (term_instance typs terms t)
instance_is_closed typs terms closed n (Const c T) h = tt
instance_is_closed typs terms closed n (Free x T) h = closed-more 0 n (terms (Free x T)) (omega arith) (closed.fixed x T)
instance_is_closed typs terms closed n (Var x i T) h = closed-more 0 n (terms (Var x i T)) (omega arith) (closed.schematic x i T)
instance_is_closed typs terms closed n (Bound p) h = h
instance_is_closed typs terms closed n (Abs T b) h = instance_is_closed typs terms closed (n + 1) b h
instance_is_closed typs terms closed n (App f a) h = (instance_is_closed typs terms closed n f h.0, instance_is_closed typs terms closed n a h.1)
