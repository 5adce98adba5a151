-- A proposition is no definition, or by it nothing is unfolded in a term, or something is.
use Rattle.std.proofs.Common.{◌≡◌, ◌⊎◌, ℕ, List, [], ◌∷◌, inl, inr, refl, ap, sym, subst, ◌∙◌}
use Rattle.std.specs.Prelude.{Option, Some, None}
use Rattle.pure_text.specs.Lists.{IsIn, Each}
use Rattle.pure_text.proofs.ListLaws.{in_or_not, each_decided, each_of, any_of}
use Rattle.pure_definitions.specs.Types.Typ.{Typ, TFree, TVar, Con, Typs, none, also, prop}
use Rattle.pure_definitions.specs.Types.Occurs.{OccursInTyp, OccursInTyps}
use Rattle.pure_definitions.specs.Types.Order.{Algebra, IsCoregular, IsOfClass, AreOfSorts, IsOfSort, HasClassBelow, IsClassBelow}
use Rattle.pure_definitions.specs.Terms.Term.{Term, Const, Free, Var, Bound, Abs, App}
use Rattle.pure_definitions.specs.Terms.Subst.{typ_instance, typs_instance, inst_typ, IsSortRespecting}
use Rattle.pure_definitions.specs.Declarations.Certified.{IsMatch}
use Rattle.pure_tunify.proofs.DecidedLaws.{has_class_below_or_not, domains_or_none, same_or_not, occurs_or_not}
use Rattle.pure_logic.specs.Connectives.{eq}
use Rattle.pure_resolve.proofs.UnifyAnswers.TreatmentLaws.{terms_same_or_not}
use Rattle.pure_unfold.specs.Replaced.{IsReplaced, HasReplaced}
use Rattle.pure_unfold.specs.Unfold.{HasVariable, HasExtra, HaveExtra, HasExtraTyp, IsDefinition, IsNoDefinition, IsUnfolded, Unfolds, UnfoldsNothing}

-- What stands in a proposition where it is a definition.
abbrev function_of : Term → Term
function_of (App f a) = f
function_of t = t

abbrev argument_of : Term → Term
argument_of (App f a) = a
argument_of t = t

abbrev name_of : Term → ℕ
name_of (Const c T) = c
name_of t = 0

abbrev typ_of : Term → Typ
typ_of (Const c T) = T
typ_of t = prop

abbrev first_of : Typ → Typ
first_of (Con k (also t ts)) = t
first_of T = T

abbrev body : Term → Term
body P = argument_of P

abbrev constant : Term → Term
constant P = argument_of (function_of P)

abbrev sides : Term → Typ
sides P = first_of (typ_of (function_of (function_of P)))

abbrev recomposed : Term → Term
recomposed P = eq (sides P) (Const (name_of (constant P)) (typ_of (constant P))) (body P)

recomposed-is : (P : Term) (S : Typ) (c : ℕ) (T : Typ) (b : Term) → P ≡ eq S (Const c T) b → P ≡ recomposed P
recomposed-is P S c T b e = subst (λ (R : Term). R ≡ recomposed R) (sym e) refl

variable_or_not : (t : Term) → HasVariable t ⊎ ¬ HasVariable t
variable_or_not (Const c T) = inr (λ h. h)
variable_or_not (Free x T) = inl tt
variable_or_not (Var x i T) = inl tt
variable_or_not (Bound n) = inr (λ h. h)
variable_or_not (Abs T b) = variable_or_not b
variable_or_not (App f a) = elim (variable_or_not f) [
  | inl h ↦ inl (inl h)
  | inr n ↦ elim (variable_or_not a) [ inl h ↦ inl (inr h) | inr m ↦ inr (λ h. elim h [ inl i ↦ n i | inr i ↦ m i ]) ]
]

absent_or_not : (v T : Typ) → (¬ OccursInTyp v T) ⊎ ¬ ¬ OccursInTyp v T
absent_or_not v T = elim (occurs_or_not v T) [ inl o ↦ inr (λ h. h o) | inr n ↦ inl n ]

mutual
  extra_or_not : (T U : Typ) → HasExtra T U ⊎ ¬ HasExtra T U
  extra_or_not T (TFree x s) = absent_or_not (TFree x s) T
  extra_or_not T (TVar x i s) = absent_or_not (TVar x i s) T
  extra_or_not T (Con k ts) = extras_or_not T ts

  extras_or_not : (T : Typ) (ts : Typs) → HaveExtra T ts ⊎ ¬ HaveExtra T ts
  extras_or_not T none = inr (λ h. h)
  extras_or_not T (also t ts) = elim (extra_or_not T t) [
    | inl h ↦ inl (inl h)
    | inr n ↦ elim (extras_or_not T ts) [ inl h ↦ inl (inr h) | inr m ↦ inr (λ h. elim h [ inl i ↦ n i | inr i ↦ m i ]) ]
  ]

extra_typ_or_not : (T : Typ) (t : Term) → HasExtraTyp T t ⊎ ¬ HasExtraTyp T t
extra_typ_or_not T (Const c U) = extra_or_not T U
extra_typ_or_not T (Free x U) = extra_or_not T U
extra_typ_or_not T (Var x i U) = extra_or_not T U
extra_typ_or_not T (Bound n) = inr (λ h. h)
extra_typ_or_not T (Abs U b) = elim (extra_or_not T U) [
  | inl h ↦ inl (inl h)
  | inr n ↦ elim (extra_typ_or_not T b) [ inl h ↦ inl (inr h) | inr m ↦ inr (λ h. elim h [ inl i ↦ n i | inr i ↦ m i ]) ]
]
extra_typ_or_not T (App f a) = elim (extra_typ_or_not T f) [
  | inl h ↦ inl (inl h)
  | inr n ↦ elim (extra_typ_or_not T a) [ inl h ↦ inl (inr h) | inr m ↦ inr (λ h. elim h [ inl i ↦ n i | inr i ↦ m i ]) ]
]

-- a proposition as the definition that it alone can be
abbrev IsOwnDefinition : Term → Type 0
IsOwnDefinition P = IsDefinition P (name_of (constant P)) (typ_of (constant P)) (body P)

definition_or_not : (P : Term) → IsOwnDefinition P ⊎ IsNoDefinition P
definition_or_not P = elim (terms_same_or_not P (recomposed P)) [
  | inr n ↦ inr (λ c T b d. n (recomposed-is P d.sides c T b d.equates))
  | inl e ↦ elim (variable_or_not (body P)) [
    | inl h ↦ inr (λ c T b d. d.no_variable (subst HasVariable (ap argument_of d.equates) h))
    | inr closed ↦ elim (extra_typ_or_not (typ_of (constant P)) (body P)) [
      | inl h ↦ inr (λ c T b d. d.no_extra
          (subst (HasExtraTyp T) (ap argument_of d.equates) (subst (λ (U : Typ). HasExtraTyp U (body P)) (ap (λ (Q : Term). typ_of (constant Q)) d.equates) h)))
      | inr bare ↦ inl (record { sides = sides P; equates = e; no_variable = closed; no_extra = bare })
    ]
  ]
]

-- Matching: what a pattern's variable is matched with, at its first place.
abbrev or_else : Option Typ → Option Typ → Option Typ
or_else (Some t) r = Some t
or_else None r = r

abbrev pick : (P : Type 0) → P ⊎ (¬ P) → Typ → Option Typ
pick P (inl e) t = Some t
pick P (inr n) t = None

abbrev mutual
  found : (v p t : Typ) → Option Typ
  found v (TFree x s) t = None
  found v (TVar x i s) t = pick (v ≡ TVar x i s) (same_or_not v (TVar x i s)) t
  found v (Con k ps) (Con l ts) = founds v ps ts
  found v (Con k ps) (TFree x s) = None
  found v (Con k ps) (TVar x i s) = None

  founds : (v : Typ) (ps ts : Typs) → Option Typ
  founds v none ts = None
  founds v (also p ps) none = None
  founds v (also p ps) (also t ts) = or_else (found v p t) (founds v ps ts)

abbrev image : Option Typ → Typ → Typ
image (Some t) v = t
image None v = v

abbrev matching : (p t : Typ) → Typ → Typ
matching p t (TVar x i s) = image (found (TVar x i s) p t) (TVar x i s)
matching p t (TFree x s) = TFree x s
matching p t (Con k ts) = Con k ts

-- what is found for a variable, by a map that makes the instance: its image, and it is found where it occurs
abbrev IsRight : (g : Typ → Typ) (v : Typ) → (Occurs : Type 0) → Option Typ → Type 0
IsRight g v Occurs None = ¬ Occurs
IsRight g v Occurs (Some u) = u ≡ g v

module _ (g : Typ → Typ) (x i : ℕ) (s : List ℕ) where
  abbrev v : Typ
  v = TVar x i s

  joined-right : (P R : Type 0) (a b : Option Typ) → IsRight g v P a → IsRight g v R b → IsRight g v (P ⊎ R) (or_else a b)
  joined-right P R (Some u) b h k = h
  joined-right P R None (Some u) h k = k
  joined-right P R None None h k = λ o. elim o [ inl m ↦ h m | inr m ↦ k m ]

  whole-right : (P R : Type 0) (a : Option Typ) → ¬ P → IsRight g v R a → IsRight g v (P ⊎ R) a
  whole-right P R (Some u) n h = h
  whole-right P R None n h = λ o. elim o [ inl m ↦ n m | inr m ↦ h m ]

  mutual
    found-right : (p : Typ) → IsRight g v (OccursInTyp v p) (found v p (typ_instance g p))
    found-right (TFree y r) = λ o. let no : ⊥ = cc in no
    found-right (TVar y j r) = by (same_or_not v (TVar y j r))
      where
        by : (d : (v ≡ TVar y j r) ⊎ ¬ (v ≡ TVar y j r)) → IsRight g v (v ≡ TVar y j r) (pick (v ≡ TVar y j r) d (g (TVar y j r)))
        by (inl e) = ap g (sym e)
        by (inr n) = n
    found-right (Con k ps) = whole-right (v ≡ Con k ps) (OccursInTyps v ps) (founds v ps (typs_instance g ps)) (λ e. let no : ⊥ = cc in no) (founds-right ps)

    founds-right : (ps : Typs) → IsRight g v (OccursInTyps v ps) (founds v ps (typs_instance g ps))
    founds-right none = λ o. o
    founds-right (also p ps) = joined-right (OccursInTyp v p) (OccursInTyps v ps) (found v p (typ_instance g p)) (founds v ps (typs_instance g ps)) (found-right p) (founds-right ps)

  matched : (p t : Typ) → typ_instance g p ≡ t → OccursInTyp v p → matching p t v ≡ g v
  matched p t e o = by (found v p t) (subst (λ (u : Typ). IsRight g v (OccursInTyp v p) (found v p u)) e (found-right p))
    where
      by : (a : Option Typ) → IsRight g v (OccursInTyp v p) a → image a v ≡ g v
      by None h = absurd (h o)
      by (Some u) h = h

module _ (f g : Typ → Typ) (fixed : (x : ℕ) (s : List ℕ) → f (TFree x s) ≡ g (TFree x s)) where
  mutual
    agrees : (T : Typ) → ((x i : ℕ) (s : List ℕ) → OccursInTyp (TVar x i s) T → f (TVar x i s) ≡ g (TVar x i s)) → typ_instance f T ≡ typ_instance g T
    agrees (TFree x s) h = fixed x s
    agrees (TVar x i s) h = h x i s refl
    agrees (Con k ts) h = ap (Con k) (all-agree ts (λ x i s o. h x i s (inr o)))

    all-agree : (ts : Typs) → ((x i : ℕ) (s : List ℕ) → OccursInTyps (TVar x i s) ts → f (TVar x i s) ≡ g (TVar x i s)) → typs_instance f ts ≡ typs_instance g ts
    all-agree none h = refl
    all-agree (also t ts) h =
        let first = agrees t (λ x i s o. h x i s (inl o)) in
        let rest = all-agree ts (λ x i s o. h x i s (inr o)) in
        λ j. also (first j) (rest j)

module _ (A : Algebra) (co : IsCoregular A) where
  mutual
    class_or_not : (t : Typ) (c : ℕ) → IsOfClass A t c ⊎ ¬ IsOfClass A t c
    class_or_not (TFree x s) c = has_class_below_or_not A s c
    class_or_not (TVar x i s) c = has_class_below_or_not A s c
    class_or_not (Con k ts) c = elim (domains_or_none A co k c) [
      | inr n ↦ inr (n ts)
      | inl d ↦ elim (sorts_or_not ts d.0) [ inl h ↦ inl ((d.1 ts).1 h) | inr n ↦ inr (λ h. n ((d.1 ts).0 h)) ]
    ]

    sorts_or_not : (ts : Typs) (ss : List (List ℕ)) → AreOfSorts A ts ss ⊎ ¬ AreOfSorts A ts ss
    sorts_or_not none [] = inl tt
    sorts_or_not none (s ∷ ss) = inr (λ h. h)
    sorts_or_not (also t ts) [] = inr (λ h. h)
    sorts_or_not (also t ts) (s ∷ ss) = elim (each_decided (λ c. IsOfClass A t c) (λ c. class_or_not t c) s) [
      | inr n ↦ inr (λ h. n h.0)
      | inl here ↦ elim (sorts_or_not ts ss) [ inl rest ↦ inl (here, rest) | inr n ↦ inr (λ h. n h.1) ]
    ]

  -- At each place of a variable in the pattern what is matched is of its sort.
  abbrev mutual
    AreSorted : Typ → Typ → Type 0
    AreSorted (TFree x s) t = Unit {0}
    AreSorted (TVar x i s) t = IsOfSort A t s
    AreSorted (Con k ps) (Con l ts) = AreAllSorted ps ts
    AreSorted (Con k ps) (TFree x s) = Unit {0}
    AreSorted (Con k ps) (TVar x i s) = Unit {0}

    AreAllSorted : Typs → Typs → Type 0
    AreAllSorted none ts = Unit {0}
    AreAllSorted (also p ps) none = Unit {0}
    AreAllSorted (also p ps) (also t ts) = AreSorted p t × AreAllSorted ps ts

  mutual
    sorted_or_not : (p t : Typ) → AreSorted p t ⊎ ¬ AreSorted p t
    sorted_or_not (TFree x s) t = inl tt
    sorted_or_not (TVar x i s) t = each_decided (λ c. IsOfClass A t c) (λ c. class_or_not t c) s
    sorted_or_not (Con k ps) (Con l ts) = all_sorted_or_not ps ts
    sorted_or_not (Con k ps) (TFree x s) = inl tt
    sorted_or_not (Con k ps) (TVar x i s) = inl tt

    all_sorted_or_not : (ps ts : Typs) → AreAllSorted ps ts ⊎ ¬ AreAllSorted ps ts
    all_sorted_or_not none ts = inl tt
    all_sorted_or_not (also p ps) none = inl tt
    all_sorted_or_not (also p ps) (also t ts) = elim (sorted_or_not p t) [
      | inr n ↦ inr (λ h. n h.0)
      | inl here ↦ elim (all_sorted_or_not ps ts) [ inl rest ↦ inl (here, rest) | inr n ↦ inr (λ h. n h.1) ]
    ]

  mutual
    sorted-by : (g : Typ → Typ) → IsSortRespecting A g → (p : Typ) → AreSorted p (typ_instance g p)
    sorted-by g r (TFree x s) = tt
    sorted-by g r (TVar x i s) = r.schematic x i s
    sorted-by g r (Con k ps) = all_sorted-by g r ps

    all_sorted-by : (g : Typ → Typ) → IsSortRespecting A g → (ps : Typs) → AreAllSorted ps (typs_instance g ps)
    all_sorted-by g r none = tt
    all_sorted-by g r (also p ps) = (sorted-by g r p, all_sorted-by g r ps)

  abbrev IsSome : List ℕ → Option Typ → Type 0
  IsSome s None = Unit {0}
  IsSome s (Some u) = IsOfSort A u s

  either-sorted : (s : List ℕ) (a b : Option Typ) → IsSome s a → IsSome s b → IsSome s (or_else a b)
  either-sorted s (Some u) b h k = h
  either-sorted s None b h k = k

  sort-same : (x i : ℕ) (s : List ℕ) (y j : ℕ) (r : List ℕ) → TVar x i s ≡ TVar y j r → r ≡ s
  sort-same x i s y j r e = cc

  module _ (x i : ℕ) (s : List ℕ) where
    mutual
      found-sorted : (p t : Typ) → AreSorted p t → IsSome s (found (TVar x i s) p t)
      found-sorted (TFree y r) t h = tt
      found-sorted (TVar y j r) t h = by (same_or_not (TVar x i s) (TVar y j r))
        where
          by : (d : (TVar x i s ≡ TVar y j r) ⊎ ¬ (TVar x i s ≡ TVar y j r)) → IsSome s (pick (TVar x i s ≡ TVar y j r) d t)
          by (inl e) = subst (λ (q : List ℕ). IsOfSort A t q) (sort-same x i s y j r e) h
          by (inr n) = tt
      found-sorted (Con k ps) (Con l ts) h = founds-sorted ps ts h
      found-sorted (Con k ps) (TFree y r) h = tt
      found-sorted (Con k ps) (TVar y j r) h = tt

      founds-sorted : (ps ts : Typs) → AreAllSorted ps ts → IsSome s (founds (TVar x i s) ps ts)
      founds-sorted none ts h = tt
      founds-sorted (also p ps) none h = tt
      founds-sorted (also p ps) (also t ts) h = either-sorted s (found (TVar x i s) p t) (founds (TVar x i s) ps ts) (found-sorted p t h.0) (founds-sorted ps ts h.1)

    image-sorted : (a : Option Typ) → IsSome s a → IsOfSort A (TVar x i s) s → IsOfSort A (image a (TVar x i s)) s
    image-sorted (Some u) h own = h
    image-sorted None h own = own

  own-sort : (s : List ℕ) → Each (λ c. HasClassBelow A s c) s
  own-sort s = each_of (λ c. HasClassBelow A s c) s (λ c m. any_of (λ b. IsClassBelow A b c) c s m IsClassBelow.itself)

  abbrev Matches : (f : Typ → Typ) → (p t : Typ) → Type 0
  Matches f p t = IsMatch f p t × IsSortRespecting A f

  match_or_not : (p t : Typ) → ((f : Typ → Typ) × Matches f p t) ⊎ ((f : Typ → Typ) → Matches f p t → ⊥)
  match_or_not p t = elim (same_or_not (typ_instance (matching p t) p) t) [
    | inr n ↦ inr (λ g m. n (agrees (matching p t) g (λ x s. sym (m.0.fixed x s)) p (λ x i s o. matched g x i s p t m.0.is o) ∙ m.0.is))
    | inl e ↦ elim (sorted_or_not p t) [
      | inr n ↦ inr (λ g m. n (subst (AreSorted p) m.0.is (sorted-by g m.1 p)))
      | inl sorted ↦ inl (
        matching p t,
        (
          record { fixed = λ x s. refl; is = e },
          record {
            fixed = λ x s. own-sort s;
            schematic = λ x i s. image-sorted x i s (found (TVar x i s) p t) (found-sorted x i s p t sorted) (own-sort s);
          },
        ),
      )
    ]
  ]

  module _ (name : ℕ) (typ : Typ) (inside : Term) where
    abbrev Puts : ℕ → Typ → Term → Type 0
    Puts = IsUnfolded A name typ inside

    puts_or_not : (c : ℕ) (T : Typ) → ((u : Term) × Puts c T u) ⊎ ((u : Term) → ¬ Puts c T u)
    puts_or_not c T = elim (in_or_not c (name ∷ [])) [
      | inr n ↦ inr (λ u h. n (inl h.same))
      | inl there ↦ elim (match_or_not typ T) [
        | inr n ↦ inr (λ u h. n h.typs (h.matches, h.respecting))
        | inl m ↦ inl (inst_typ m.0 inside, record { same = same c there; typs = m.0; matches = m.1.0; respecting = m.1.1; is = refl })
      ]
    ]
      where
        same : (c : ℕ) → IsIn c (name ∷ []) → c ≡ name
        same c (inl e) = e
        same c (inr m) = absurd m

    replaced : (t : Term) → (u : Term) × IsReplaced Puts t u
    replaced (Const c T) = elim (puts_or_not c T) [ inl h ↦ (h.0, inl h.1) | inr n ↦ (Const c T, inr (refl, n)) ]
    replaced (Free x T) = (Free x T, refl)
    replaced (Var x i T) = (Var x i T, refl)
    replaced (Bound n) = (Bound n, refl)
    replaced (Abs T b) = let rest = replaced b in (Abs T rest.0, (rest.0, rest.1, refl))
    replaced (App f a) = let function = replaced f in let argument = replaced a in (App function.0 argument.0, (function.0, argument.0, function.1, argument.1, refl))

    has_or_not : (t : Term) → HasReplaced Puts t ⊎ ¬ HasReplaced Puts t
    has_or_not (Const c T) = elim (puts_or_not c T) [ inl h ↦ inl h | inr n ↦ inr (λ h. n h.0 h.1) ]
    has_or_not (Free x T) = inr (λ h. h)
    has_or_not (Var x i T) = inr (λ h. h)
    has_or_not (Bound n) = inr (λ h. h)
    has_or_not (Abs T b) = has_or_not b
    has_or_not (App f a) = elim (has_or_not f) [
      | inl h ↦ inl (inl h)
      | inr n ↦ elim (has_or_not a) [ inl h ↦ inl (inr h) | inr m ↦ inr (λ h. elim h [ inl i ↦ n i | inr i ↦ m i ]) ]
    ]

  pub unfolds_or_not : (P t : Term) → IsNoDefinition P ⊎ (UnfoldsNothing A P t ⊎ ((u : Term) × Unfolds A P t u))
  unfolds_or_not P t = elim (definition_or_not P) [
    | inr n ↦ inl n
    | inl d ↦ elim (has_or_not (name_of (constant P)) (typ_of (constant P)) (body P) t) [
      | inr nothing ↦ inr (inl (record { name = name_of (constant P); typ = typ_of (constant P); body = body P; definition = d; none = nothing }))
      | inl some ↦
          let all = replaced (name_of (constant P)) (typ_of (constant P)) (body P) t in
          inr (inr (all.0, record { name = name_of (constant P); typ = typ_of (constant P); body = body P; definition = d; some = some; each = all.1 }))
    ]
  ]
