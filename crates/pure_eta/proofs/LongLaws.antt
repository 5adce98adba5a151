-- The function gives the long form.
use Rattle.std.proofs.Common.{◌≡◌, zero, ◌+◌, List, [], ◌∷◌, true, false, refl, ap}
use Rattle.std.specs.Prelude.{Option, Some}
use Rattle.pure_definitions.specs.Types.Typ.{Typ, Con, none, also, arrow}
use Rattle.pure_definitions.specs.Terms.Term.{Term, Const, Free, Var, Bound, Abs, App}
use Rattle.pure_definitions.specs.Terms.Bounds.{lift_term}
use Rattle.pure_definitions.specs.Terms.Typing.{HasType}
use Rattle.pure_definitions.specs.Reduction.Beta.{IsAbs, IsBetaNormal}
use Rattle.pure_definitions.specs.Reduction.Eta.{EtaStep, EtaReduces, abstraction_count, arrow_count, HasSaturatedParts, IsLongForm}
use Rattle.pure_term_laws.proofs.TypingBoundLaws.{typing-lift}
use Rattle.pure_eta.specs.LongTerm.{range_typ, front_typ, expanded, expanded_at, long_term}
use Rattle.pure_eta.proofs.EtaStepLaws.{reduces-then, reduces-body, reduces-application}
use Rattle.pure_definitions.proofs.NormalLemmas.{abstraction-unlift, normal-lift}
use Rattle.pure_eta.proofs.SaturatedLaws.{reduces-lift, parts-lift}

-- A term of the type that reduces to t, beta-normal and no abstraction, whose parts are long.
pub record IsFront (bs : List Typ) (t u : Term) (T : Typ) : Type 0 where
  pub typed : HasType bs u T
  pub reduces : EtaReduces u t
  pub normal : IsBetaNormal u
  pub applied : ¬ IsAbs u
  pub parts : HasSaturatedParts bs u

-- A term of the type that reduces to t, beta-normal and long, as are its parts.
pub record IsLong (bs : List Typ) (t u : Term) (T : Typ) : Type 0 where
  pub typed : HasType bs u T
  pub reduces : EtaReduces u t
  pub normal : IsBetaNormal u
  pub count : abstraction_count u ≡ arrow_count T
  pub parts : HasSaturatedParts bs u

pub no_abstraction : (t : Term) → ¬ IsAbs t → abstraction_count t ≡ 0
no_abstraction (Const c T) n = refl
no_abstraction (Free x T) n = refl
no_abstraction (Var x i T) n = refl
no_abstraction (Bound p) n = refl
no_abstraction (Abs T b) n = absurd (n tt)
no_abstraction (App f a) n = refl

leaf-front : (bs : List Typ) (t : Term) (T : Typ) → HasType bs t T → IsBetaNormal t → ¬ IsAbs t → HasSaturatedParts bs t → IsFront bs t t T
leaf-front bs t T h n a p = record { typed = h; reduces = EtaReduces.done; normal = n; applied = a; parts = p }

application-front : (bs : List Typ) (f g a b : Term) (T U : Typ) → IsFront bs f g (arrow T U) → IsLong bs a b T → IsFront bs (App f a) (App g b) U
application-front bs f g a b T U h k = record {
  typed = (T, h.typed, k.typed);
  reduces = reduces-application g f b a h.reduces k.reduces;
  normal = (h.applied, h.normal, k.normal);
  applied = (λ x. x);
  parts = (h.parts, (T, k.typed, k.count), k.parts);
}

lifted-front : (bs : List Typ) (A : Typ) (t u : Term) (T : Typ) → IsFront bs t u T → IsFront (A ∷ bs) (lift_term 1 0 t) (lift_term 1 0 u) T
lifted-front bs A t u T h = record {
  typed = typing-lift [] (A ∷ []) bs 0 1 u T refl refl h.typed;
  reduces = reduces-lift 1 0 h.reduces;
  normal = normal-lift 1 0 u h.normal;
  applied = (λ x. h.applied (abstraction-unlift 1 0 u x));
  parts = parts-lift [] (A ∷ []) bs 0 1 u refl refl h.parts;
}

abstraction-long : (bs : List Typ) (A B : Typ) (b c : Term) → IsLong (A ∷ bs) b c B → IsLong bs (Abs A b) (Abs A c) (arrow A B)
abstraction-long bs A B b c h = record {
  typed = (B, h.typed, refl);
  reduces = reduces-body A h.reduces;
  normal = h.normal;
  count = ap (λ n. 1 + n) h.count;
  parts = ((B, h.typed, h.count), h.parts);
}

long-reduces : (bs : List Typ) (t u v : Term) (T : Typ) → IsLong bs t u T → EtaReduces t v → IsLong bs v u T
long-reduces bs t u v T h k = record { typed = h.typed; reduces = reduces-then h.reduces k; normal = h.normal; count = h.count; parts = h.parts }

-- What is expanded at its type is long.
expanded-long : (T : Typ) (bs : List Typ) (t u : Term) → IsFront bs t u T → IsLong bs t (expanded T u) T
expanded-long (Con zero (also A (also B none))) bs t u h =
    let variable = expanded-long A (A ∷ bs) (Bound 0) (Bound 0) (leaf-front (A ∷ bs) (Bound 0) A refl tt (λ x. x) tt) in
    let applied = application-front (A ∷ bs) (lift_term 1 0 t) (lift_term 1 0 u) (Bound 0) (expanded A (Bound 0)) A B (lifted-front bs A t u (arrow A B) h) variable in
    let body = expanded-long B (A ∷ bs) (App (lift_term 1 0 t) (Bound 0)) (App (lift_term 1 0 u) (expanded A (Bound 0))) applied in
    long-reduces bs (Abs A (App (lift_term 1 0 t) (Bound 0))) (expanded (arrow A B) u) t (arrow A B)
    (abstraction-long bs A B (App (lift_term 1 0 t) (Bound 0)) (expanded B (App (lift_term 1 0 u) (expanded A (Bound 0)))) body) (EtaReduces.next (EtaStep.contract refl) EtaReduces.done)
expanded-long T bs t u h = record { typed = h.typed; reduces = h.reduces; normal = h.normal; count = no_abstraction u h.applied; parts = h.parts }

-- The type of a typed term that is no redex is read off at its front.
front_typ-is : (bs : List Typ) (t : Term) (T : Typ) → HasType bs t T → IsBetaNormal t → ¬ IsAbs t → front_typ bs t ≡ Some T
front_typ-is bs (Const c V) T h n a = ap Some h
front_typ-is bs (Free x V) T h n a = ap Some h
front_typ-is bs (Var x i V) T h n a = ap Some h
front_typ-is bs (Bound p) T h n a = h
front_typ-is bs (Abs V b) T h n a = absurd (a tt)
front_typ-is bs (App f b) T h n a = ap range_typ (front_typ-is bs f (arrow h.0 T) h.1 n.1 n.0)

expanded_at-long : (bs : List Typ) (o : Option Typ) (t u : Term) (T : Typ) → o ≡ Some T → IsFront bs t u T → IsLong bs t (expanded_at false o u) T
expanded_at-long bs o t u T e h = rw e (expanded-long T bs t u h)

-- what is read of a term, where it is applied and where it isn't
record IsRead (bs : List Typ) (t : Term) (T : Typ) : Type 0 where
  front : ¬ IsAbs t → IsFront bs t (long_term true bs t) T
  long : IsLong bs t (long_term false bs t) T

leaf-read : (bs : List Typ) (t : Term) (T : Typ) → HasType bs t T → IsBetaNormal t → ¬ IsAbs t → HasSaturatedParts bs t → long_term true bs t ≡ t → long_term false bs t ≡ expanded_at false (front_typ bs t) t → IsRead bs t T
leaf-read bs t T h n a p e f =
    let front = leaf-front bs t T h n a p in
    record { front = (λ _. rw e front); long = rw f (expanded_at-long bs (front_typ bs t) t t T (front_typ-is bs t T h n a) front) }

long_term-is : (bs : List Typ) (t : Term) (T : Typ) → HasType bs t T → IsBetaNormal t → IsRead bs t T
long_term-is bs (Const c V) T h n = leaf-read bs (Const c V) T h n (λ x. x) tt refl refl
long_term-is bs (Free x V) T h n = leaf-read bs (Free x V) T h n (λ x. x) tt refl refl
long_term-is bs (Var x i V) T h n = leaf-read bs (Var x i V) T h n (λ x. x) tt refl refl
long_term-is bs (Bound p) T h n = leaf-read bs (Bound p) T h n (λ x. x) tt refl refl
long_term-is bs (Abs V b) T h n = record {
  front = (λ no. absurd (no tt));
  long = rw (← h.2) (abstraction-long bs V h.0 b (long_term false (V ∷ bs) b) ((long_term-is (V ∷ bs) b h.0 h.1 n).long));
}
long_term-is bs (App f a) T h n =
    let front = application-front bs f (long_term true bs f) a (long_term false bs a) h.0 T ((long_term-is bs f (arrow h.0 T) h.1 n.1).front n.0) ((long_term-is bs a h.0 h.2 n.2).long) in
    record { front = (λ _. front); long = expanded_at-long bs (front_typ bs (App f a)) (App f a) (App (long_term true bs f) (long_term false bs a)) T (front_typ-is bs (App f a) T h n (λ x. x)) front }

pub long_form-is : (t : Term) (T : Typ) → HasType [] t T → IsBetaNormal t → IsLongForm t (long_term false [] t)
long_form-is t T h n =
    let long = (long_term-is [] t T h n).long in
    record { typ = T; typed = h; long_typed = long.typed; reduces = long.reduces; normal = long.normal; saturated = (T, long.typed, long.count); parts = long.parts }
