-- Equality on what is proved.
use Rattle.std.proofs.Common.{◌≡◌, ◌↔◌, inl, inr, ℕ, List, [], ◌∷◌, refl, ap, sym, ◌∙◌}
use Rattle.pure_definitions.specs.Names.{Label, all_name, protect_name}
use Rattle.pure_definitions.specs.Declarations.Decl.{AxiomDecl}
use Rattle.pure_definitions.specs.Types.Typ.{Typ, arrow, prop}
use Rattle.pure_definitions.specs.Terms.Term.{Term, Const, Free, Var, Bound, Abs, App}
use Rattle.pure_definitions.specs.Terms.Typing.{HasType}
use Rattle.pure_definitions.specs.Terms.Bounds.{subst_under, subst_bound}
use Rattle.pure_definitions.specs.Declarations.Certified.{IsCertifiedTyp, HasCertifiedParts}
use Rattle.pure_definitions.proofs.LiftLaws.{subst-lift}
use Rattle.pure_term_laws.specs.LawsMaps.{sent}
use Rattle.pure_term_laws.proofs.BoundLaws.{lift-zero}
use Rattle.pure_term_laws.proofs.TypingLaws.{typed-closed, lift-closed}
use Rattle.pure_term_laws.proofs.TypingBoundLaws.{typing-weaken}
use Rattle.pure_logic.specs.Connectives.{all_typ, eq_typ, all_of, all, imp, eq, protect}
use Rattle.pure_logic.specs.Content.{Content, IsContent, IsBelow, IsCertifiedOf, IsProposition}
use Rattle.pure_logic.specs.PureContent.{pure_content, proposition_variable, protect_axiom}
use Rattle.pure_logic.specs.Tree.{Axiom, Beta, Refl, Subst, Ext, Iff}
use Rattle.pure_logic.specs.Concludes.{extensionality}
use Rattle.pure_logic.specs.Proves.{Proves}
use Rattle.pure_logic.specs.Laws.Quantification.{beta_applied}
use Rattle.pure_logic.proofs.ConnectiveLaws.{certified_of, eq-parts, prop-certified}
use Rattle.pure_logic.proofs.MapLaws.{identity_respects, sent-respects}
use Rattle.pure_logic.proofs.PropositionLaws.{body-typed, typ-of_certified}
use Rattle.pure_logic.proofs.ProvesLaws.{conclusion_is_proved, proved_is_proposition, quantification_is_proved, instance_of_body_is_proved}

-- A term without loose bound variables stays where a bound variable is replaced.
pub still : (n : ℕ) (a t : Term) (T : Typ) → HasType [] t T → subst_under n a t ≡ t
still n a t T h = ap (subst_under n a) (sym (lift-closed 1 n t (typed-closed t T h))) ∙ subst-lift n a t

module _ (Q : Content) (q : IsContent Q) (above : IsBelow pure_content Q) (hyps : List Term) (rests : List Label) where
  along : (A B : Term) → A ≡ B → Proves Q hyps rests A → Proves Q hyps rests B
  along A B e p = rw e at p

  -- The sides of an equation that is a proposition are certified, of its type.
  pub left-certified : (T : Typ) (t u : Term) → IsProposition Q (eq T t u) → IsCertifiedOf Q t T
  left-certified T t u h =
      let connective : eq_typ T ≡ arrow h.typed.1.0 (arrow h.typed.0 prop) = h.typed.1.1 in
      let same : h.typed.1.0 ≡ T = cc in
      certified_of Q t T h.certified.parts.0.1 (rw same at h.typed.1.2)

  pub right-certified : (T : Typ) (t u : Term) → IsProposition Q (eq T t u) → IsCertifiedOf Q u T
  right-certified T t u h =
      let connective : eq_typ T ≡ arrow h.typed.1.0 (arrow h.typed.0 prop) = h.typed.1.1 in
      let same : h.typed.0 ≡ T = cc in
      certified_of Q u T h.certified.parts.1 (rw same at h.typed.2)

  pub left-of : (T : Typ) (t u : Term) → Proves Q hyps rests (eq T t u) → IsCertifiedOf Q t T
  left-of T t u p = left-certified T t u (proved_is_proposition Q q above hyps rests (eq T t u) p)

  pub right-of : (T : Typ) (t u : Term) → Proves Q hyps rests (eq T t u) → IsCertifiedOf Q u T
  right-of T t u p = right-certified T t u (proved_is_proposition Q q above hyps rests (eq T t u) p)

  typ-of : (t : Term) (T : Typ) → IsCertifiedOf Q t T → IsCertifiedTyp Q.declarations T
  typ-of t T h = typ-of_certified Q above t T h

  under : (V : Typ) (t : Term) (T : Typ) → IsCertifiedOf Q t T → HasType (V ∷ []) t T
  under V t T h = typing-weaken [] (V ∷ []) t T h.typed

  -- `%z. l == r`, with sides of one type under the binder
  equation_of : (V U : Typ) (l r : Term) → IsCertifiedTyp Q.declarations V → IsCertifiedTyp Q.declarations U → HasCertifiedParts Q.declarations l → HasCertifiedParts Q.declarations r
      → HasType (V ∷ []) l U → HasType (V ∷ []) r U → IsCertifiedOf Q (Abs V (eq U l r)) (arrow V prop)
  equation_of V U l r v u k m h g = certified_of Q (Abs V (eq U l r)) (arrow V prop) (v, eq-parts Q above U l r u k m) (prop, (U, (U, refl, h), g), refl)

  pub reflexive_equality : (T : Typ) (t : Term) → IsCertifiedOf Q t T → Proves Q hyps rests (eq T t t)
  reflexive_equality T t h = record { tree = Refl t; concludes = (T, h, refl); from = tt; rest_on = tt }

  pub equals_are_replaced : (T : Typ) (B t u : Term) → IsCertifiedOf Q (Abs T B) (arrow T prop) → Proves Q hyps rests (eq T t u) → Proves Q hyps rests (subst_bound B t) → Proves Q hyps rests (subst_bound B u)
  equals_are_replaced T B t u h p r =
      let step : Proves Q hyps rests (imp (eq T t u) (imp (subst_bound B t) (subst_bound B u))) = record {
        tree = Subst (Abs T B) t u;
        concludes = (T, B, refl, h, left-of T t u p, right-of T t u p, refl);
        from = tt;
        rest_on = tt;
      } in
      conclusion_is_proved Q hyps rests (subst_bound B t) (subst_bound B u) (conclusion_is_proved Q hyps rests (eq T t u) (imp (subst_bound B t) (subst_bound B u)) step p) r

  pub symmetric_equality : (T : Typ) (t u : Term) → Proves Q hyps rests (eq T t u) → Proves Q hyps rests (eq T u t)
  symmetric_equality T t u p =
      let h = left-of T t u p in
      let typ = typ-of t T h in
      let abstraction = equation_of T T (Bound 0) t typ typ tt h.certified.parts refl (under T t T h) in
      let before : subst_bound (eq T (Bound 0) t) t ≡ eq T t t = λ l. eq T (lift-zero 0 t l) (still 0 t t T h.typed l) in
      let after : subst_bound (eq T (Bound 0) t) u ≡ eq T u t = λ l. eq T (lift-zero 0 u l) (still 0 u t T h.typed l) in
      along (subst_bound (eq T (Bound 0) t) u) (eq T u t) after
      (equals_are_replaced T (eq T (Bound 0) t) t u abstraction p (along (eq T t t) (subst_bound (eq T (Bound 0) t) t) (sym before) (reflexive_equality T t h)))

  pub transitive_equality : (T : Typ) (t u v : Term) → Proves Q hyps rests (eq T t u) → Proves Q hyps rests (eq T u v) → Proves Q hyps rests (eq T t v)
  transitive_equality T t u v p r =
      let h = left-of T t u p in
      let typ = typ-of t T h in
      let abstraction = equation_of T T t (Bound 0) typ typ h.certified.parts tt (under T t T h) refl in
      let before : subst_bound (eq T t (Bound 0)) u ≡ eq T t u = λ l. eq T (still 0 u t T h.typed l) (lift-zero 0 u l) in
      let after : subst_bound (eq T t (Bound 0)) v ≡ eq T t v = λ l. eq T (still 0 v t T h.typed l) (lift-zero 0 v l) in
      along (subst_bound (eq T t (Bound 0)) v) (eq T t v) after
      (equals_are_replaced T (eq T t (Bound 0)) u v abstraction r (along (eq T t u) (subst_bound (eq T t (Bound 0)) u) (sym before) p))

  applied-certified : (T U : Typ) (f a : Term) → IsCertifiedOf Q f (arrow T U) → IsCertifiedOf Q a T → IsCertifiedOf Q (App f a) U
  applied-certified T U f a h k = certified_of Q (App f a) U (h.certified.parts, k.certified.parts) (T, h.typed, k.typed)

  -- One function at equal arguments, and equal functions at one argument.
  equal_arguments : (T U : Typ) (f a b : Term) → IsCertifiedOf Q f (arrow T U) → Proves Q hyps rests (eq T a b) → Proves Q hyps rests (eq U (App f a) (App f b))
  equal_arguments T U f a b h p =
      let k = left-of T a b p in
      let whole = applied-certified T U f a h k in
      let abstraction = equation_of T U (App f a) (App f (Bound 0)) (typ-of a T k) (typ-of (App f a) U whole) whole.certified.parts (h.certified.parts, tt) (under T (App f a) U whole) (T, under T f (arrow T U) h, refl) in
      let before : subst_bound (eq U (App f a) (App f (Bound 0))) a ≡ eq U (App f a) (App f a) = λ l. eq U (still 0 a (App f a) U whole.typed l) (App (still 0 a f (arrow T U) h.typed l) (lift-zero 0 a l)) in
      let after : subst_bound (eq U (App f a) (App f (Bound 0))) b ≡ eq U (App f a) (App f b) = λ l. eq U (still 0 b (App f a) U whole.typed l) (App (still 0 b f (arrow T U) h.typed l) (lift-zero 0 b l)) in
      along (subst_bound (eq U (App f a) (App f (Bound 0))) b) (eq U (App f a) (App f b)) after
      (equals_are_replaced T (eq U (App f a) (App f (Bound 0))) a b abstraction p (along (eq U (App f a) (App f a)) (subst_bound (eq U (App f a) (App f (Bound 0))) a) (sym before) (reflexive_equality U (App f a) whole)))

  equal_functions_at : (T U : Typ) (f g a : Term) → Proves Q hyps rests (eq (arrow T U) f g) → IsCertifiedOf Q a T → Proves Q hyps rests (eq U (App f a) (App g a))
  equal_functions_at T U f g a p k =
      let h = left-of (arrow T U) f g p in
      let whole = applied-certified T U f a h k in
      let abstraction = equation_of (arrow T U) U (App f a) (App (Bound 0) a) (typ-of f (arrow T U) h) (typ-of (App f a) U whole) whole.certified.parts (tt, k.certified.parts) (under (arrow T U) (App f a) U whole) (T, refl, under (arrow T U) a T k) in
      let before : subst_bound (eq U (App f a) (App (Bound 0) a)) f ≡ eq U (App f a) (App f a) = λ l. eq U (still 0 f (App f a) U whole.typed l) (App (lift-zero 0 f l) (still 0 f a T k.typed l)) in
      let after : subst_bound (eq U (App f a) (App (Bound 0) a)) g ≡ eq U (App f a) (App g a) = λ l. eq U (still 0 g (App f a) U whole.typed l) (App (lift-zero 0 g l) (still 0 g a T k.typed l)) in
      along (subst_bound (eq U (App f a) (App (Bound 0) a)) g) (eq U (App f a) (App g a)) after
      (equals_are_replaced (arrow T U) (eq U (App f a) (App (Bound 0) a)) f g abstraction p (along (eq U (App f a) (App f a)) (subst_bound (eq U (App f a) (App (Bound 0) a)) f) (sym before) (reflexive_equality U (App f a) whole)))

  pub equal_applications : (T U : Typ) (f g a b : Term) → Proves Q hyps rests (eq (arrow T U) f g) → Proves Q hyps rests (eq T a b) → Proves Q hyps rests (eq U (App f a) (App g b))
  equal_applications T U f g a b p r =
      transitive_equality U (App f a) (App g a) (App g b) (equal_functions_at T U f g a p (left-of T a b r)) (equal_arguments T U g a b (right-of (arrow T U) f g p) r)

  pub equal_propositions : (A B : Term) → IsProposition Q A → IsProposition Q B → Proves Q hyps rests (imp A B) → Proves Q hyps rests (imp B A) → Proves Q hyps rests (eq prop A B)
  equal_propositions A B h k p r =
      let step : Proves Q hyps rests (imp (imp A B) (imp (imp B A) (eq prop A B))) = record { tree = Iff A B; concludes = (h, k, refl); from = tt; rest_on = tt } in
      conclusion_is_proved Q hyps rests (imp B A) (eq prop A B) (conclusion_is_proved Q hyps rests (imp A B) (imp (imp B A) (eq prop A B)) step p) r

  pub equal_is_proved : (A B : Term) → Proves Q hyps rests (eq prop A B) → Proves Q hyps rests A → Proves Q hyps rests B
  equal_is_proved A B p r =
      let abstraction = certified_of Q (Abs prop (Bound 0)) (arrow prop prop) (prop-certified Q above, tt) (prop, refl, refl) in
      along (subst_bound (Bound 0) B) B (lift-zero 0 B) (equals_are_replaced prop (Bound 0) A B abstraction p (along A (subst_bound (Bound 0) A) (sym (lift-zero 0 A)) r))

  pub equal_functions : (T U : Typ) (f g : Term) → IsCertifiedOf Q f (arrow T U) → IsCertifiedOf Q g (arrow T U)
      → Proves Q hyps rests (all T (eq U (App f (Bound 0)) (App g (Bound 0)))) → Proves Q hyps rests (eq (arrow T U) f g)
  equal_functions T U f g h k p =
      let step : Proves Q hyps rests (extensionality T U f g) = record { tree = Ext f g; concludes = (T, U, h, k, refl); from = tt; rest_on = tt } in
      conclusion_is_proved Q hyps rests (all T (eq U (App f (Bound 0)) (App g (Bound 0)))) (eq (arrow T U) f g) step p

  pub beta_equality : (T U : Typ) (b a : Term) → IsCertifiedOf Q (App (Abs T b) a) U → Proves Q hyps rests (eq U (App (Abs T b) a) (subst_bound b a))
  beta_equality T U b a h = record { tree = Beta (App (Abs T b) a); concludes = (T, U, b, a, refl, h, refl); from = tt; rest_on = tt }

  -- Functions that are equal at each fixed variable are equal.
  equal_at_each : (T U : Typ) (f g : Term) → IsCertifiedOf Q f (arrow T U) → IsCertifiedOf Q g (arrow T U)
      → ((n : ℕ) → Proves Q hyps rests (eq U (App f (Free n T)) (App g (Free n T)))) → Proves Q hyps rests (eq (arrow T U) f g)
  equal_at_each T U f g h k each =
      equal_functions T U f g h k
      (quantification_is_proved Q hyps rests T (eq U (App f (Bound 0)) (App g (Bound 0))) (typ-of f (arrow T U) h).1.0
      (λ n. along (eq U (App f (Free n T)) (App g (Free n T))) (subst_bound (eq U (App f (Bound 0)) (App g (Bound 0))) (Free n T))
      (λ l. eq U (App (sym (still 0 (Free n T) f (arrow T U) h.typed) l) (Free n T)) (App (sym (still 0 (Free n T) g (arrow T U) k.typed) l) (Free n T)))
      (each n)))

  variable-certified : (T U : Typ) (f : Term) (n : ℕ) → IsCertifiedOf Q f (arrow T U) → IsCertifiedOf Q (Free n T) T
  variable-certified T U f n h = certified_of Q (Free n T) T (typ-of f (arrow T U) h).1.0 refl

  pub equal_abstractions : (T U : Typ) (b c : Term) → IsCertifiedOf Q (Abs T b) (arrow T U) → IsCertifiedOf Q (Abs T c) (arrow T U)
      → ((n : ℕ) → Proves Q hyps rests (eq U (subst_bound b (Free n T)) (subst_bound c (Free n T)))) → Proves Q hyps rests (eq (arrow T U) (Abs T b) (Abs T c))
  equal_abstractions T U b c h k each = equal_at_each T U (Abs T b) (Abs T c) h k at
    where
      at : (n : ℕ) → Proves Q hyps rests (eq U (App (Abs T b) (Free n T)) (App (Abs T c) (Free n T)))
      at n =
          let left = beta_equality T U b (Free n T) (applied-certified T U (Abs T b) (Free n T) h (variable-certified T U (Abs T b) n h)) in
          let right = beta_equality T U c (Free n T) (applied-certified T U (Abs T c) (Free n T) k (variable-certified T U (Abs T c) n k)) in
          transitive_equality U (App (Abs T b) (Free n T)) (subst_bound c (Free n T)) (App (Abs T c) (Free n T))
          (transitive_equality U (App (Abs T b) (Free n T)) (subst_bound b (Free n T)) (subst_bound c (Free n T)) left (each n))
          (symmetric_equality U (App (Abs T c) (Free n T)) (subst_bound c (Free n T)) right)

  pub eta_equality : (T U : Typ) (f : Term) → IsCertifiedOf Q f (arrow T U) → Proves Q hyps rests (eq (arrow T U) (Abs T (App f (Bound 0))) f)
  eta_equality T U f h = equal_at_each T U (Abs T (App f (Bound 0))) f abstraction h at
    where
      abstraction : IsCertifiedOf Q (Abs T (App f (Bound 0))) (arrow T U)
      abstraction = certified_of Q (Abs T (App f (Bound 0))) (arrow T U) ((typ-of f (arrow T U) h).1.0, (h.certified.parts, tt)) (U, (T, under T f (arrow T U) h, refl), refl)

      at : (n : ℕ) → Proves Q hyps rests (eq U (App (Abs T (App f (Bound 0))) (Free n T)) (App f (Free n T)))
      at n =
          along (eq U (App (Abs T (App f (Bound 0))) (Free n T)) (subst_bound (App f (Bound 0)) (Free n T))) (eq U (App (Abs T (App f (Bound 0))) (Free n T)) (App f (Free n T)))
          (λ l. eq U (App (Abs T (App f (Bound 0))) (Free n T)) (App (still 0 (Free n T) f (arrow T U) h.typed l) (Free n T)))
          (beta_equality T U (App f (Bound 0)) (Free n T) (applied-certified T U (Abs T (App f (Bound 0))) (Free n T) abstraction (variable-certified T U f n h)))

  -- the axiom of Pure at A
  mark_axiom : (A : Term) → IsProposition Q A → Proves Q hyps rests (eq prop (protect A) A)
  mark_axiom A h = record {
    tree = Axiom protect_name (λ T. T) (sent (proposition_variable 0) A (λ t. t));
    concludes = (protect_axiom, above (AxiomDecl protect_name protect_axiom) (inr (inr (inr (inr (inr (inr (inl refl))))))), sent-respects Q (λ T. T) (λ t. t) (proposition_variable 0) A (identity_respects Q) h, refl);
    from = tt;
    rest_on = tt;
  }

  pub mark_means_nothing : (A : Term) → IsProposition Q A → Proves Q hyps rests (protect A) ↔ Proves Q hyps rests A
  mark_means_nothing A h = (
    λ p. equal_is_proved (protect A) A (mark_axiom A h) p,
    λ p. equal_is_proved A (protect A) (symmetric_equality prop (protect A) A (mark_axiom A h)) p,
  )

  -- Equal terms in one context.
  pub equal_in_context : (T U : Typ) (C t u : Term) → IsCertifiedOf Q (Abs T C) (arrow T U) → Proves Q hyps rests (eq T t u) → Proves Q hyps rests (eq U (subst_bound C t) (subst_bound C u))
  equal_in_context T U C t u h p =
      let left = beta_equality T U C t (applied-certified T U (Abs T C) t h (left-of T t u p)) in
      let right = beta_equality T U C u (applied-certified T U (Abs T C) u h (right-of T t u p)) in
      transitive_equality U (subst_bound C t) (App (Abs T C) u) (subst_bound C u)
      (transitive_equality U (subst_bound C t) (App (Abs T C) t) (App (Abs T C) u) (symmetric_equality U (App (Abs T C) t) (subst_bound C t) left) (equal_arguments T U (Abs T C) t u h p))
      right

  -- the sides of an equation that is quantified
  side-certified : (T U : Typ) (b c : Term) → IsProposition Q (all T (eq U b c)) → IsCertifiedOf Q (Abs T b) (arrow T U) × IsCertifiedOf Q (Abs T c) (arrow T U)
  side-certified T U b c h =
      let body : HasType (T ∷ []) (eq U b c) prop = body-typed T (eq U b c) h.typed in
      let connective : eq_typ U ≡ arrow body.1.0 (arrow body.0 prop) = body.1.1 in
      let first : body.1.0 ≡ U = cc in
      let second : body.0 ≡ U = cc in
      let parts : HasCertifiedParts Q.declarations (Abs T (eq U b c)) = h.certified.parts.1 in (
        certified_of Q (Abs T b) (arrow T U) (parts.0, parts.1.0.1) (U, rw first at body.1.2, refl),
        certified_of Q (Abs T c) (arrow T U) (parts.0, parts.1.1) (U, rw second at body.2, refl),
      )

  pub equal_bodies : (T U : Typ) (b c : Term) → Proves Q hyps rests (all T (eq U b c)) → Proves Q hyps rests (eq (arrow T U) (Abs T b) (Abs T c))
  equal_bodies T U b c p =
      let sides = side-certified T U b c (proved_is_proposition Q q above hyps rests (all T (eq U b c)) p) in
      equal_abstractions T U b c sides.0 sides.1 (λ n. instance_of_body_is_proved Q hyps rests T (eq U b c) (Free n T) (variable-certified T U (Abs T b) n sides.0) p)

  -- The function of a quantification that is a proposition.
  quantified-certified : (T : Typ) (f : Term) → IsProposition Q (all_of T f) → IsCertifiedOf Q f (arrow T prop) × IsCertifiedOf Q (Const all_name (all_typ T)) (arrow (arrow T prop) prop)
  quantified-certified T f h =
      let connective : all_typ T ≡ arrow h.typed.0 prop = h.typed.1 in
      let same : h.typed.0 ≡ arrow T prop = cc in
      (certified_of Q f (arrow T prop) h.certified.parts.1 (rw same at h.typed.2), certified_of Q (Const all_name (all_typ T)) (arrow (arrow T prop) prop) h.certified.parts.0 refl)

  -- By eta the function may be written as an abstraction.
  pub instance_of_function_is_proved : (T : Typ) (f t : Term) → IsCertifiedOf Q t T → Proves Q hyps rests (all_of T f) → Proves Q hyps rests (App f t)
  instance_of_function_is_proved T f t k p =
      let certified = quantified-certified T f (proved_is_proposition Q q above hyps rests (all_of T f) p) in
      let expanded = symmetric_equality (arrow T prop) (Abs T (App f (Bound 0))) f (eta_equality T prop f certified.0) in
      let same = equal_arguments (arrow T prop) prop (Const all_name (all_typ T)) f (Abs T (App f (Bound 0))) certified.1 expanded in
      let quantified = equal_is_proved (all_of T f) (all T (App f (Bound 0))) same p in
      along (subst_bound (App f (Bound 0)) t) (App f t) (λ l. App (still 0 t f (arrow T prop) certified.0.typed l) (lift-zero 0 t l))
      (instance_of_body_is_proved Q hyps rests T (App f (Bound 0)) t k quantified)

  reduced : (f t : Term) → Proves Q hyps rests (App f t) → Proves Q hyps rests (beta_applied f t)
  reduced (Abs V b) t p =
      let h = proved_is_proposition Q q above hyps rests (App (Abs V b) t) p in
      equal_is_proved (App (Abs V b) t) (subst_bound b t) (beta_equality V prop b t h) p
  reduced (Const c V) t p = p
  reduced (Free x V) t p = p
  reduced (Var x i V) t p = p
  reduced (Bound n) t p = p
  reduced (App g a) t p = p

  pub reduced_instance_is_proved : (T : Typ) (f t : Term) → IsCertifiedOf Q t T → Proves Q hyps rests (all_of T f) → Proves Q hyps rests (beta_applied f t)
  reduced_instance_is_proved T f t k p = reduced f t (instance_of_function_is_proved T f t k p)
