-- What keeps terms equated: lifting, a wider scope, instantiation, respecting maps, and other pairs.
use Rattle.std.proofs.Common.{◌≡◌, ℕ, ◌+◌, List, [], ◌∷◌, ◌++◌, length, map, true, refl, ap, sym, arith, nat_lt}
use Rattle.std.proofs.lemmas.Bool.{lt-ltb}
use Rattle.pure_text.specs.Lists.{Each}
use Rattle.pure_text.proofs.ListLaws.{each_at, in-map}
use Rattle.pure_definitions.specs.Types.Typ.{Typ, arrow}
use Rattle.pure_definitions.specs.Terms.Term.{Term, Bound, Abs, App}
use Rattle.pure_definitions.specs.Terms.Bounds.{lift_term, subst_bound}
use Rattle.pure_definitions.specs.Terms.Subst.{typ_instance, term_instance}
use Rattle.pure_definitions.specs.Declarations.Decl.{Decl}
use Rattle.pure_definitions.specs.Declarations.Certified.{IsCertifiedTyp}
use Rattle.pure_definitions.proofs.LiftLaws.{lift-lift}
use Rattle.pure_term_laws.proofs.BindLaws.{lift-past-subst}
use Rattle.pure_term_laws.proofs.CertifiedLaws.{parts-lift}
use Rattle.pure_term_laws.proofs.MapLaws.{instance-lift, instance-subst}
use Rattle.pure_term_laws.proofs.TypingLaws.{typed-once, typed-closed, lift-closed}
use Rattle.pure_term_laws.proofs.TypingBoundLaws.{typing-lift, typing-weaken, typing-instance}
use Rattle.pure_logic.specs.Content.{Content, IsContent}
use Rattle.pure_logic.specs.Concludes.{AreRespecting}
use Rattle.pure_logic.specs.Derivable.{Pair}
use Rattle.pure_logic.specs.Laws.Substitution.{pair_instance}
use Rattle.pure_logic.proofs.InstanceLaws.{certified-instance, parts-instance}
use Rattle.pure_logic.proofs.SubstitutionLaws.{images_closed}
use Rattle.pure_equation_laws.specs.Equated.{IsTypedUnder, AreEquated, IsPairEquated}
use Rattle.pure_equation_laws.proofs.SidesLaws.{equated_are_typed}

module _ (ds : List Decl) (pairs : List Pair) where
  pub equated-along : (bs : List Typ) (T : Typ) (t u v w : Term) → t ≡ v → u ≡ w → AreEquated ds pairs bs T v w → AreEquated ds pairs bs T t u
  equated-along bs T t u v w e k p = rw (e, k) p

  typed-lifted : (bs es cs scope : List Typ) (n by : ℕ) (t : Term) (T : Typ) → n ≡ length bs → by ≡ length es → scope ≡ bs ++ cs → IsTypedUnder ds scope t T → IsTypedUnder ds (bs ++ (es ++ cs)) (lift_term by n t) T
  typed-lifted bs es cs scope n by t T m k s h = record { parts = parts-lift ds by n t h.parts; typed = typing-lift bs es cs n by t T m k (rw s at h.typed) }

  equated-lifted : (bs es cs scope : List Typ) (n by : ℕ) (T : Typ) (t u : Term) → n ≡ length bs → by ≡ length es → scope ≡ bs ++ cs
      → AreEquated ds pairs scope T t u → AreEquated ds pairs (bs ++ (es ++ cs)) T (lift_term by n t) (lift_term by n u)
  equated-lifted bs es cs scope n by T t u m k s (AreEquated.same h) = AreEquated.same (typed-lifted bs es cs scope n by t T m k s h)
  equated-lifted bs es cs scope n by T t u m k s (AreEquated.back e) = AreEquated.back (equated-lifted bs es cs scope n by T u t m k s e)
  equated-lifted bs es cs scope n by T t u m k s (AreEquated.through {u = v} e f) = AreEquated.through (equated-lifted bs es cs scope n by T t v m k s e) (equated-lifted bs es cs scope n by T v u m k s f)
  equated-lifted bs es cs scope n by T t u m k s (AreEquated.beta {V = V} {b = b} {a = a} h) =
      let place : 0 + n ≡ n = omega arith in
      equated-along (bs ++ (es ++ cs)) T (App (Abs V (lift_term by (n + 1) b)) (lift_term by n a)) (lift_term by n (subst_bound b a))
      (App (Abs V (lift_term by (n + 1) b)) (lift_term by n a)) (subst_bound (lift_term by (n + 1) b) (lift_term by n a)) refl (rw place at (lift-past-subst by 0 n a b))
      (AreEquated.beta (typed-lifted bs es cs scope n by (App (Abs V b) a) T m k s h))
  equated-lifted bs es cs scope n by T t u m k s (AreEquated.eta {V = V} {U = U} {f = f} v h) =
      let own : nat_lt 0 (n + 1) ≡ true = lt-ltb 0 (n + 1) (omega arith) in
      equated-along (bs ++ (es ++ cs)) (arrow V U) (lift_term by n (Abs V (App (lift_term 1 0 f) (Bound 0)))) (lift_term by n f)
      (Abs V (App (lift_term 1 0 (lift_term by n f)) (Bound 0))) (lift_term by n f) (rw own (ap (λ g. Abs V (App g (Bound 0))) (sym (lift-lift by 1 0 n f (omega arith))))) refl
      (AreEquated.eta v (typed-lifted bs es cs scope n by f (arrow V U) m k s h))
  equated-lifted bs es cs scope n by T t u m k s (AreEquated.pair p i h j) =
      equated-along (bs ++ (es ++ cs)) T (lift_term by n p.left) (lift_term by n p.right) p.left p.right
      (lift-closed by n p.left (typed-closed p.left T h.typed)) (lift-closed by n p.right (typed-closed p.right T j.typed)) (AreEquated.pair p i h j)
  equated-lifted bs es cs scope n by T t u m k s (AreEquated.abstraction {V = V} {U = U} {b = b} {c = c} v e) = AreEquated.abstraction v (equated-lifted (V ∷ bs) es cs (V ∷ scope) (n + 1) by U b c (omega arith) k (ap (λ xs. V ∷ xs) s) e)
  equated-lifted bs es cs scope n by T t u m k s (AreEquated.application {T = V} {f = f} {g = g} {a = a} {b = b} e j) =
      AreEquated.application (equated-lifted bs es cs scope n by (arrow V T) f g m k s e) (equated-lifted bs es cs scope n by V a b m k s j)

  pub equated_of_lift : (bs es cs : List Typ) (n by : ℕ) (T : Typ) (t u : Term) → n ≡ length bs → by ≡ length es
      → AreEquated ds pairs (bs ++ cs) T t u → AreEquated ds pairs (bs ++ (es ++ cs)) T (lift_term by n t) (lift_term by n u)
  equated_of_lift bs es cs n by T t u m k e = equated-lifted bs es cs (bs ++ cs) n by T t u m k refl e

  typed-in_scope : (bs cs : List Typ) (t : Term) (T : Typ) → IsTypedUnder ds bs t T → IsTypedUnder ds (bs ++ cs) t T
  typed-in_scope bs cs t T h = record { parts = h.parts; typed = typing-weaken bs cs t T h.typed }

  pub equated_in_scope : (bs cs : List Typ) (T : Typ) (t u : Term) → AreEquated ds pairs bs T t u → AreEquated ds pairs (bs ++ cs) T t u
  equated_in_scope bs cs T t u (AreEquated.same h) = AreEquated.same (typed-in_scope bs cs t T h)
  equated_in_scope bs cs T t u (AreEquated.back e) = AreEquated.back (equated_in_scope bs cs T u t e)
  equated_in_scope bs cs T t u (AreEquated.through {u = v} e f) = AreEquated.through (equated_in_scope bs cs T t v e) (equated_in_scope bs cs T v u f)
  equated_in_scope bs cs T t u (AreEquated.beta {V = V} {b = b} {a = a} h) = AreEquated.beta (typed-in_scope bs cs (App (Abs V b) a) T h)
  equated_in_scope bs cs T t u (AreEquated.eta {V = V} {U = U} {f = f} v h) = AreEquated.eta v (typed-in_scope bs cs f (arrow V U) h)
  equated_in_scope bs cs T t u (AreEquated.pair p i h j) = AreEquated.pair p i h j
  equated_in_scope bs cs T t u (AreEquated.abstraction {V = V} {U = U} {b = b} {c = c} v e) = AreEquated.abstraction v (equated_in_scope (V ∷ bs) cs U b c e)
  equated_in_scope bs cs T t u (AreEquated.application {T = V} {f = f} {g = g} {a = a} {b = b} e j) = AreEquated.application (equated_in_scope bs cs (arrow V T) f g e) (equated_in_scope bs cs V a b j)

  -- Abstractions of the bodies are equated, and so are they applied to the arguments; beta on either side gives the instances.
  pub equated-contracta : (bs : List Typ) (V T : Typ) (b c a d : Term) → IsCertifiedTyp ds V → AreEquated ds pairs (V ∷ bs) T b c → AreEquated ds pairs bs V a d → AreEquated ds pairs bs T (subst_bound b a) (subst_bound c d)
  equated-contracta bs V T b c a d v e k =
      let applied : AreEquated ds pairs bs T (App (Abs V b) a) (App (Abs V c) d) = AreEquated.application (AreEquated.abstraction v e) k in
      let sides = equated_are_typed ds pairs bs T (App (Abs V b) a) (App (Abs V c) d) applied in
      AreEquated.through (AreEquated.back (AreEquated.beta sides.0)) (AreEquated.through applied (AreEquated.beta sides.1))

-- The instance of a typed term by maps that respect a content is typed.
module _ (Q : Content) (q : IsContent Q) (typs : Typ → Typ) (terms : Term → Term) (r : AreRespecting Q typs terms) (pairs : List Pair) where
  pub typed-instance : (bs : List Typ) (t : Term) (T : Typ) → IsTypedUnder Q.declarations bs t T → IsTypedUnder Q.declarations (map (typ_instance typs) bs) (term_instance typs terms t) (typ_instance typs T)
  typed-instance bs t T h = record { parts = parts-instance Q q typs terms r t h.parts; typed = typing-instance typs terms r.types bs t T h.typed }

  -- what stands equated modulo the pairs' instances
  abbrev AreInstancesEquated : List Typ → Typ → Term → Term → Type 0
  AreInstancesEquated bs T t u = AreEquated Q.declarations (map (pair_instance typs terms) pairs) (map (typ_instance typs) bs) (typ_instance typs T) t u

  instances-along : (bs : List Typ) (T : Typ) (t u v w : Term) → t ≡ v → u ≡ w → AreInstancesEquated bs T v w → AreInstancesEquated bs T t u
  instances-along bs T t u v w e k p = equated-along Q.declarations (map (pair_instance typs terms) pairs) (map (typ_instance typs) bs) (typ_instance typs T) t u v w e k p

  pub equated-instance : (bs : List Typ) (T : Typ) (t u : Term) → AreEquated Q.declarations pairs bs T t u → AreInstancesEquated bs T (term_instance typs terms t) (term_instance typs terms u)
  equated-instance bs T t u (AreEquated.same h) = AreEquated.same (typed-instance bs t T h)
  equated-instance bs T t u (AreEquated.back e) = AreEquated.back (equated-instance bs T u t e)
  equated-instance bs T t u (AreEquated.through {u = v} e f) = AreEquated.through (equated-instance bs T t v e) (equated-instance bs T v u f)
  equated-instance bs T t u (AreEquated.beta {V = V} {b = b} {a = a} h) =
      let redex = term_instance typs terms (App (Abs V b) a) in
      instances-along bs T redex (term_instance typs terms (subst_bound b a)) redex (subst_bound (term_instance typs terms b) (term_instance typs terms a)) refl
      (instance-subst typs terms (images_closed Q typs terms r) 0 a b)
      (AreEquated.beta (typed-instance bs (App (Abs V b) a) T h))
  equated-instance bs T t u (AreEquated.eta {V = V} {U = U} {f = f} v h) =
      let image = term_instance typs terms f in
      instances-along bs (arrow V U) (term_instance typs terms (Abs V (App (lift_term 1 0 f) (Bound 0)))) image (Abs (typ_instance typs V) (App (lift_term 1 0 image) (Bound 0))) image
      (ap (λ g. Abs (typ_instance typs V) (App g (Bound 0))) (instance-lift typs terms (images_closed Q typs terms r) 1 0 f)) refl
      (AreEquated.eta (certified-instance Q q typs terms r V v) (typed-instance bs f (arrow V U) h))
  equated-instance bs T t u (AreEquated.pair p i h j) =
      AreEquated.pair (pair_instance typs terms p) (in-map (pair_instance typs terms) p pairs i) (typed-instance [] p.left T h) (typed-instance [] p.right T j)
  equated-instance bs T t u (AreEquated.abstraction {V = V} {U = U} {b = b} {c = c} v e) = AreEquated.abstraction (certified-instance Q q typs terms r V v) (equated-instance (V ∷ bs) U b c e)
  equated-instance bs T t u (AreEquated.application {T = V} {f = f} {g = g} {a = a} {b = b} e j) = AreEquated.application (equated-instance bs (arrow V T) f g e) (equated-instance bs V a b j)

pub equated_of_instance : (Q : Content) → IsContent Q → (typs : Typ → Typ) (terms : Term → Term) → AreRespecting Q typs terms → (pairs : List Pair) (bs : List Typ) (T : Typ) (t u : Term)
    → AreEquated Q.declarations pairs bs T t u
    → AreEquated Q.declarations (map (pair_instance typs terms) pairs) (map (typ_instance typs) bs) (typ_instance typs T) (term_instance typs terms t) (term_instance typs terms u)
equated_of_instance Q q typs terms r pairs bs T t u e = equated-instance Q q typs terms r pairs bs T t u e

module _ (ds : List Decl) (pairs others : List Pair) (replaced : Each (IsPairEquated ds others) pairs) where
  pub equated_modulo_others : (bs : List Typ) (T : Typ) (t u : Term) → AreEquated ds pairs bs T t u → AreEquated ds others bs T t u
  equated_modulo_others bs T t u (AreEquated.same h) = AreEquated.same h
  equated_modulo_others bs T t u (AreEquated.back e) = AreEquated.back (equated_modulo_others bs T u t e)
  equated_modulo_others bs T t u (AreEquated.through {u = v} e f) = AreEquated.through (equated_modulo_others bs T t v e) (equated_modulo_others bs T v u f)
  equated_modulo_others bs T t u (AreEquated.beta h) = AreEquated.beta h
  equated_modulo_others bs T t u (AreEquated.eta v h) = AreEquated.eta v h
  equated_modulo_others bs T t u (AreEquated.pair p i h j) =
      let given = each_at (IsPairEquated ds others) pairs replaced p i in
      let sides = equated_are_typed ds others [] given.0 p.left p.right given.1 in
      let once : given.0 ≡ T = typed-once [] p.left given.0 T sides.0.typed h.typed in
      equated_in_scope ds others [] bs T p.left p.right (rw once at given.1)
  equated_modulo_others bs T t u (AreEquated.abstraction {V = V} {U = U} {b = b} {c = c} v e) = AreEquated.abstraction v (equated_modulo_others (V ∷ bs) U b c e)
  equated_modulo_others bs T t u (AreEquated.application {T = V} {f = f} {g = g} {a = a} {b = b} e j) = AreEquated.application (equated_modulo_others bs (arrow V T) f g e) (equated_modulo_others bs V a b j)
