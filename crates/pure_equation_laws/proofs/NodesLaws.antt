-- Congruence: terms that are equal node by node modulo pairs, maps with equated images, functions that are equated at each argument, and instances of bound variables.
use Rattle.std.proofs.Common.{◌≡◌, ◌↔◌, inl, inr, ℕ, ◌+◌, List, [], ◌∷◌, ◌++◌, length, map, refl, ap, sym, ◌∙◌, arith}
use Rattle.std.proofs.lemmas.Bool.Decides.{nat_tests}
use Rattle.pure_text.specs.Lists.{Each}
use Rattle.pure_definitions.specs.Types.Typ.{Typ, arrow}
use Rattle.pure_definitions.specs.Terms.Term.{Term, Const, Free, Var, Bound, Abs, App}
use Rattle.pure_definitions.specs.Terms.Bounds.{lift_term, place_at, subst_under, subst_bound, Occurs}
use Rattle.pure_definitions.specs.Terms.Conditions.{IsVariable}
use Rattle.pure_definitions.specs.Terms.Subst.{typ_instance, term_instance}
use Rattle.pure_definitions.specs.Declarations.Decl.{Decl}
use Rattle.pure_definitions.specs.Declarations.Certified.{IsCertifiedTyp}
use Rattle.pure_definitions.proofs.LiftLaws.{lifted, lift_term-bound}
use Rattle.pure_term_laws.proofs.MapLaws.{Beside, beside, place-below, place-itself, place-above}
use Rattle.pure_term_laws.proofs.TypingLaws.{typed-once}
use Rattle.pure_logic.specs.Content.{Content, IsContent}
use Rattle.pure_logic.specs.Concludes.{AreRespecting}
use Rattle.pure_logic.specs.Derivable.{Pair}
use Rattle.pure_equation_laws.specs.Equated.{IsTypedUnder, AreEquated, AreEqualModulo}
use Rattle.pure_equation_laws.proofs.SidesLaws.{equated_are_typed, typed-function, typed-argument, typed-body, typed-lift, typed-application}
use Rattle.pure_equation_laws.proofs.KeptLaws.{equated-along, equated-contracta, equated_of_lift, equated_in_scope, typed-instance}
use Rattle.pure_equation_laws.proofs.ReductionLaws.{equated-body}

module _ (ds : List Decl) (pairs : List Pair) where
  pub equated_node_by_node : (bs : List Typ) (T : Typ) (t u : Term) → IsTypedUnder ds bs t T → AreEqualModulo ds pairs bs t u → AreEquated ds pairs bs T t u
  equated_node_by_node bs T t u h (AreEqualModulo.equated {T = U} e) =
      let once : U ≡ T = typed-once bs t U T (equated_are_typed ds pairs bs U t u e).0.typed h.typed in
      rw once at e
  equated_node_by_node bs T t u h AreEqualModulo.itself = AreEquated.same h
  equated_node_by_node bs T t u h (AreEqualModulo.bodies {V = V} {b = b} {c = c} e) = equated-body ds pairs bs V T b c h (equated_node_by_node (V ∷ bs) h.typed.0 b c (typed-body ds bs T V b h) e)
  equated_node_by_node bs T t u h (AreEqualModulo.applied {f = f} {g = g} {a = a} {b = b} e k) =
      AreEquated.application (equated_node_by_node bs (arrow h.typed.0 T) f g (typed-function ds bs T f a h) e) (equated_node_by_node bs h.typed.0 a b (typed-argument ds bs T f a h) k)

  equal-in_scope : (bs : List Typ) (t u : Term) → AreEqualModulo ds pairs [] t u → AreEqualModulo ds pairs bs t u
  equal-in_scope bs t u e = further [] t u e
    where
      further : (cs : List Typ) (t u : Term) → AreEqualModulo ds pairs cs t u → AreEqualModulo ds pairs (cs ++ bs) t u
      further cs t u (AreEqualModulo.equated {T = T} e) = AreEqualModulo.equated (equated_in_scope ds pairs cs bs T t u e)
      further cs t u AreEqualModulo.itself = AreEqualModulo.itself
      further cs t u (AreEqualModulo.bodies {V = V} {b = b} {c = c} e) = AreEqualModulo.bodies (further (V ∷ cs) b c e)
      further cs t u (AreEqualModulo.applied {f = f} {g = g} {a = a} {b = b} e k) = AreEqualModulo.applied (further cs f g e) (further cs a b k)

  -- Two instances of a term whose variables' images are equal modulo the pairs.
  equal-instances : (typs : Typ → Typ) (terms others : Term → Term) (bs : List Typ) (t : Term) → ((v : Term) → IsVariable v → Occurs v t → AreEqualModulo ds pairs [] (terms v) (others v))
      → AreEqualModulo ds pairs bs (term_instance typs terms t) (term_instance typs others t)
  equal-instances typs terms others bs (Const c T) h = AreEqualModulo.itself
  equal-instances typs terms others bs (Free x T) h = equal-in_scope bs (terms (Free x T)) (others (Free x T)) (h (Free x T) tt refl)
  equal-instances typs terms others bs (Var x i T) h = equal-in_scope bs (terms (Var x i T)) (others (Var x i T)) (h (Var x i T) tt refl)
  equal-instances typs terms others bs (Bound p) h = AreEqualModulo.itself
  equal-instances typs terms others bs (Abs V b) h = AreEqualModulo.bodies (equal-instances typs terms others (typ_instance typs V ∷ bs) b (λ v is o. h v is (inr o)))
  equal-instances typs terms others bs (App f a) h = AreEqualModulo.applied (equal-instances typs terms others bs f (λ v is o. h v is (inr (inl o)))) (equal-instances typs terms others bs a (λ v is o. h v is (inr (inr o))))

pub equated_instances : (Q : Content) → IsContent Q → (typs : Typ → Typ) (terms others : Term → Term) → AreRespecting Q typs terms → (pairs : List Pair) (bs : List Typ) (T : Typ) (t : Term)
    → IsTypedUnder Q.declarations bs t T → ((v : Term) → IsVariable v → Occurs v t → AreEqualModulo Q.declarations pairs [] (terms v) (others v))
    → AreEquated Q.declarations pairs (map (typ_instance typs) bs) (typ_instance typs T) (term_instance typs terms t) (term_instance typs others t)
equated_instances Q q typs terms others r pairs bs T t h images =
    equated_node_by_node Q.declarations pairs (map (typ_instance typs) bs) (typ_instance typs T) (term_instance typs terms t) (term_instance typs others t) (typed-instance Q q typs terms r pairs bs t T h)
    (equal-instances Q.declarations pairs typs terms others (map (typ_instance typs) bs) t images)

-- A body that is lifted above its own binder, with that binder put back for it.
own-place : (n p : ℕ) → Beside n p → place_at n (Bound 0) (lifted 1 (n + 1) p) ≡ Bound p
own-place n p (inl low) = let stays : lifted 1 (n + 1) p ≡ p = grind (arith, nat_tests) in rw stays (place-below n (Bound 0) p low)
own-place n p (inr (inl e)) =
    let stays : lifted 1 (n + 1) p ≡ n = grind (arith, nat_tests) in
    let sum : 0 + n ≡ n = omega arith in
    rw stays (place-itself n (Bound 0) ∙ (lift_term-bound n 0 0 ∙ ap Bound (sum ∙ sym e)))
own-place n p (inr (inr (q, e, high))) =
    let raised : lifted 1 (n + 1) p ≡ p + 1 = grind (arith, nat_tests) in
    rw raised (place-above n (Bound 0) p (omega arith))

own-binder : (n : ℕ) (t : Term) → subst_under n (Bound 0) (lift_term 1 (n + 1) t) ≡ t
own-binder n (Const c T) = refl
own-binder n (Free x T) = refl
own-binder n (Var x i T) = refl
own-binder n (Bound p) = ap (subst_under n (Bound 0)) (lift_term-bound 1 (n + 1) p) ∙ own-place n p (beside n p)
own-binder n (Abs T b) = ap (Abs T) (own-binder (n + 1) b)
own-binder n (App f a) = λ l. App (own-binder n f l) (own-binder n a l)

module _ (ds : List Decl) (pairs : List Pair) (bs : List Typ) (V U : Typ) where
  bound-typed : IsTypedUnder ds (V ∷ bs) (Bound 0) V
  bound-typed = record { parts = tt; typed = refl }

  at_bound : (f g : Term) → AreEquated ds pairs bs (arrow V U) f g → AreEquated ds pairs (V ∷ bs) U (App (lift_term 1 0 f) (Bound 0)) (App (lift_term 1 0 g) (Bound 0))
  at_bound f g e = AreEquated.application (equated_of_lift ds pairs [] (V ∷ []) bs 0 1 (arrow V U) f g refl refl e) (AreEquated.same bound-typed)

  pub equated_functions : (f g : Term) → IsCertifiedTyp ds V → IsTypedUnder ds bs f (arrow V U) → IsTypedUnder ds bs g (arrow V U)
      → AreEquated ds pairs bs (arrow V U) f g ↔ AreEquated ds pairs (V ∷ bs) U (App (lift_term 1 0 f) (Bound 0)) (App (lift_term 1 0 g) (Bound 0))
  equated_functions f g v h k = (at_bound f g, λ e. AreEquated.through (AreEquated.back (AreEquated.eta v h)) (AreEquated.through (AreEquated.abstraction v e) (AreEquated.eta v k)))

  -- Under its own binder an abstraction applied to the bound variable is its body.
  applied-body : (b : Term) → IsTypedUnder ds bs (Abs V b) (arrow V U) → AreEquated ds pairs (V ∷ bs) U (App (lift_term 1 0 (Abs V b)) (Bound 0)) b
  applied-body b h =
      let redex = typed-application ds (V ∷ bs) V U (lift_term 1 0 (Abs V b)) (Bound 0) (typed-lift ds V bs (Abs V b) (arrow V U) h) bound-typed in
      equated-along ds pairs (V ∷ bs) U (App (lift_term 1 0 (Abs V b)) (Bound 0)) b (App (Abs V (lift_term 1 1 b)) (Bound 0)) (subst_bound (lift_term 1 1 b) (Bound 0)) refl (sym (own-binder 0 b)) (AreEquated.beta redex)

  pub equated_bodies : (b c : Term) → IsCertifiedTyp ds V → AreEquated ds pairs bs (arrow V U) (Abs V b) (Abs V c) ↔ AreEquated ds pairs (V ∷ bs) U b c
  equated_bodies b c v = (
    λ e. let sides = equated_are_typed ds pairs bs (arrow V U) (Abs V b) (Abs V c) e in
        AreEquated.through (AreEquated.back (applied-body b sides.0)) (AreEquated.through (at_bound (Abs V b) (Abs V c) e) (applied-body c sides.1)),
    λ e. AreEquated.abstraction v e,
  )

-- Instantiation under further binders: the terms are abstracted over them, and taken out again.
module _ (ds : List Decl) (pairs : List Pair) (cs : List Typ) (V : Typ) (a d : Term) (v : IsCertifiedTyp ds V) (k : AreEquated ds pairs cs V a d) where
  pub equated-subst : (bs : List Typ) (n : ℕ) (T : Typ) (b c : Term) → n ≡ length bs → Each (IsCertifiedTyp ds) bs → AreEquated ds pairs (bs ++ V ∷ cs) T b c → AreEquated ds pairs (bs ++ cs) T (subst_under n a b) (subst_under n d c)
  equated-subst [] n T b c m binders e = rw m (equated-contracta ds pairs cs V T b c a d v e k)
  equated-subst (W ∷ bs) n T b c m binders e =
      let raised : n ≡ length bs + 1 = omega arith in
      let abstractions = equated-subst bs (length bs) (arrow W T) (Abs W b) (Abs W c) refl binders.1 (AreEquated.abstraction binders.0 e) in
      rw raised ((equated_bodies ds pairs (bs ++ cs) W T (subst_under (length bs + 1) a b) (subst_under (length bs + 1) d c) binders.0).0 abstractions)

pub equated_of_subst : (ds : List Decl) (pairs : List Pair) (bs cs : List Typ) (n : ℕ) (V T : Typ) (b c a d : Term) → n ≡ length bs → Each (IsCertifiedTyp ds) bs → IsCertifiedTyp ds V
    → AreEquated ds pairs (bs ++ V ∷ cs) T b c → AreEquated ds pairs cs V a d → AreEquated ds pairs (bs ++ cs) T (subst_under n a b) (subst_under n d c)
equated_of_subst ds pairs bs cs n V T b c a d m binders v e k = equated-subst ds pairs cs V a d v k bs n T b c m binders e
