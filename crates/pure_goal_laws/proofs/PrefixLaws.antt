-- What is proved behind a prefix.
use Rattle.std.proofs.Common.{◌≡◌, ℕ, ◌+◌, List, [], ◌∷◌, ◌++◌, map, length, inl, inr, ap, refl, sym, ◌∙◌, subst, arith}
use Rattle.pure_text.specs.Lists.{IsIn}
use Rattle.pure_definitions.specs.Names.{Label}
use Rattle.pure_definitions.specs.Types.Typ.{Typ, arrow, prop}
use Rattle.pure_definitions.specs.Terms.Term.{Term, Free, Abs, App}
use Rattle.pure_definitions.specs.Terms.Typing.{HasType}
use Rattle.pure_definitions.specs.Terms.Bounds.{lift_term, subst_bound}
use Rattle.pure_definitions.specs.Declarations.Certified.{IsCertifiedTyp, HasCertifiedParts}
use Rattle.pure_definitions.proofs.LiftLaws.{subst-lift}
use Rattle.pure_term_laws.proofs.BoundLaws.{lift-zero, lift-again}
use Rattle.pure_term_laws.proofs.TypingLaws.{typed-once}
use Rattle.pure_logic.specs.Connectives.{all_typ, imp_typ, all, imp, eq, chain}
use Rattle.pure_logic.specs.Content.{Content, IsContent, IsBelow, IsProposition}
use Rattle.pure_logic.specs.PureContent.{pure_content}
use Rattle.pure_logic.specs.Proves.{Proves}
use Rattle.pure_logic.proofs.ConnectiveLaws.{certified_of, imp-parts}
use Rattle.pure_logic.proofs.PropositionLaws.{premise-proposition}
use Rattle.pure_logic.proofs.ProvesLaws.{assumed, weaker, implication_is_proved, conclusion_is_proved, proved_is_proposition}
use Rattle.pure_logic.proofs.EqualityLaws.{reflexive_equality, symmetric_equality, transitive_equality, equal_applications, equal_is_proved, beta_equality, left-of, right-of}
use Rattle.pure_goal_laws.specs.Prefix.{Item, Parameter, Hypothesis, behind, parameters, below_parameters, hypotheses}
use Rattle.pure_goal_laws.proofs.OpeningLaws.{put, put-imp, put-abs, put-further, Opens, opens-more, opens-both, closed, opened, opened-proposition}

pub behind-append : (ps others : List Item) (C : Term) → behind (ps ++ others) C ≡ behind ps (behind others C)
behind-append [] others C = refl
behind-append (Parameter T ∷ ps) others C = ap (all T) (behind-append ps others C)
behind-append (Hypothesis A ∷ ps) others C = ap (imp A) (behind-append ps others C)

-- A hypothesis more or less leaves the parameters.
pub parameters-without : (ps others : List Item) (A : Term) → parameters (ps ++ Hypothesis A ∷ others) ≡ parameters (ps ++ others)
parameters-without [] others A = refl
parameters-without (Parameter T ∷ ps) others A = ap (λ Ts. T ∷ Ts) (parameters-without ps others A)
parameters-without (Hypothesis B ∷ ps) others A = parameters-without ps others A

-- In what is of type prop, also under binders, what stands behind a quantifier or an implication is of type prop.
all-typed : (bs : List Typ) (T : Typ) (B : Term) → HasType bs (all T B) prop → HasType (T ∷ bs) B prop
all-typed bs T B h =
    let connective : all_typ T ≡ arrow h.0 prop = h.1 in
    let function : arrow T h.2.0 ≡ h.0 = h.2.2 in
    let same : h.2.0 ≡ prop = cc in
    rw same at h.2.1

imp-typed : (bs : List Typ) (A B : Term) → HasType bs (imp A B) prop → HasType bs A prop × HasType bs B prop
imp-typed bs A B h =
    let connective : imp_typ ≡ arrow h.1.0 (arrow h.0 prop) = h.1.1 in
    let left : h.1.0 ≡ prop = cc in
    let right : h.0 ≡ prop = cc in
    (rw left at h.1.2, rw right at h.2)

-- What stands behind a prefix may be the premise or the conclusion of the implication that stands there.
premise-typed : (bs : List Typ) (ps : List Item) (A B : Term) → HasType bs (behind ps (imp A B)) prop → HasType bs (behind ps A) prop × HasType bs (behind ps B) prop
premise-typed bs [] A B h = imp-typed bs A B h
premise-typed bs (Parameter T ∷ ps) A B h =
    let rest = premise-typed (T ∷ bs) ps A B (all-typed bs T (behind ps (imp A B)) h) in
    ((arrow T prop, refl, (prop, rest.0, refl)), (arrow T prop, refl, (prop, rest.1, refl)))
premise-typed bs (Hypothesis C ∷ ps) A B h =
    let parts = imp-typed bs C (behind ps (imp A B)) h in
    let rest = premise-typed bs ps A B parts.1 in
    ((prop, (prop, refl, parts.0), rest.0), (prop, (prop, refl, parts.0), rest.1))

implication-typed : (bs : List Typ) (ps : List Item) (A B : Term) → HasType bs (behind ps A) prop → HasType bs (behind ps B) prop → HasType bs (behind ps (imp A B)) prop
implication-typed bs [] A B h k = (prop, (prop, refl, h), k)
implication-typed bs (Parameter T ∷ ps) A B h k = (arrow T prop, refl, (prop, implication-typed (T ∷ bs) ps A B (all-typed bs T (behind ps A) h) (all-typed bs T (behind ps B) k), refl))
implication-typed bs (Hypothesis C ∷ ps) A B h k =
    let left = imp-typed bs C (behind ps A) h in
    (prop, (prop, refl, left.0), implication-typed bs ps A B left.1 (imp-typed bs C (behind ps B) k).1)

module _ (Q : Content) where
  implication-parts : IsBelow pure_content Q → (ps : List Item) (A B : Term) → HasCertifiedParts Q.declarations (behind ps A) → HasCertifiedParts Q.declarations (behind ps B) → HasCertifiedParts Q.declarations (behind ps (imp A B))
  implication-parts above [] A B h k = imp-parts Q above A B h k
  implication-parts above (Parameter T ∷ ps) A B h k = (h.0, (h.1.0, implication-parts above ps A B h.1.1 k.1.1))
  implication-parts above (Hypothesis C ∷ ps) A B h k = (h.0, implication-parts above ps A B h.1 k.1)

  premise-parts : (ps : List Item) (A B : Term) → HasCertifiedParts Q.declarations (behind ps (imp A B)) → HasCertifiedParts Q.declarations (behind ps A) × HasCertifiedParts Q.declarations (behind ps B)
  premise-parts [] A B h = (h.0.1, h.1)
  premise-parts (Parameter T ∷ ps) A B h = let rest = premise-parts ps A B h.1.1 in ((h.0, (h.1.0, rest.0)), (h.0, (h.1.0, rest.1)))
  premise-parts (Hypothesis C ∷ ps) A B h = let rest = premise-parts ps A B h.1 in ((h.0, rest.0), (h.0, rest.1))

  pub premise_behind : (ps : List Item) (A B : Term) → IsProposition Q (behind ps (imp A B)) → IsProposition Q (behind ps A)
  premise_behind ps A B h = certified_of Q (behind ps A) prop (premise-parts ps A B h.certified.parts).0 (premise-typed [] ps A B h.typed).0

  pub conclusion_behind : (ps : List Item) (A B : Term) → IsProposition Q (behind ps (imp A B)) → IsProposition Q (behind ps B)
  conclusion_behind ps A B h = certified_of Q (behind ps B) prop (premise-parts ps A B h.certified.parts).1 (premise-typed [] ps A B h.typed).1

  -- Behind a prefix two propositions make an implication.
  pub implication_behind : IsBelow pure_content Q → (ps : List Item) (A B : Term) → IsProposition Q (behind ps A) → IsProposition Q (behind ps B) → IsProposition Q (behind ps (imp A B))
  implication_behind above ps A B h k = certified_of Q (behind ps (imp A B)) prop (implication-parts above ps A B h.certified.parts k.certified.parts) (implication-typed [] ps A B h.typed k.typed)

  -- The proposition is one of the hypotheses.
  abbrev IsAssumed : List Term → Term → Type 0
  IsAssumed hyps A = IsProposition Q A × IsIn A hyps

  -- A hypothesis of the opening stays one, as it is seen behind the rest of the prefix.
  kept : (A : Term) (G : List (ℕ × Typ) → Type 0) (ps : List Item) (hyps : List Term) (xs : List (ℕ × Typ)) → IsAssumed hyps (put 0 xs A) → Opens Q (λ H ys. G ys) ps hyps xs
      → Opens Q (λ H ys. IsAssumed H (put 0 ys (lift_term (length (parameters ps)) 0 A))) ps hyps xs
  kept A G [] hyps xs m h = rw (lift-zero 0 A) m
  kept A G (Parameter T ∷ ps) hyps xs m h = (
    h.0,
    λ n.
        let again : lift_term (length (parameters ps)) 0 (lift_term 1 0 A) ≡ lift_term (length (parameters (Parameter T ∷ ps))) 0 A = lift-again 1 (length (parameters ps)) 0 0 A (omega arith) (omega arith) ∙ ap (λ k. lift_term k 0 A) (omega arith) in
        rw again at (kept (lift_term 1 0 A) G ps hyps ((n, T) ∷ xs) (subst (λ B. IsAssumed hyps (put 0 xs B)) (sym (subst-lift 0 (Free n T) A)) m) (h.1 n)),
  )
  kept A G (Hypothesis B ∷ ps) hyps xs m h = (h.0, kept A G ps (put 0 xs B ∷ hyps) xs (m.0, inr m.1) h.1)

  pub assumed_behind : (A : Term) (G : List (ℕ × Typ) → Type 0) (ps : List Item) (hyps : List Term) (xs : List (ℕ × Typ)) → IsIn A (hypotheses ps) → Opens Q (λ H ys. G ys) ps hyps xs
      → Opens Q (λ H ys. IsAssumed H (put 0 ys A)) ps hyps xs
  assumed_behind A G [] hyps xs m h = absurd m
  assumed_behind A G (Parameter T ∷ ps) hyps xs m h = (h.0, λ n. assumed_behind A G ps hyps ((n, T) ∷ xs) m (h.1 n))
  assumed_behind A G (Hypothesis B ∷ ps) hyps xs (inl e) h = (
    h.0,
    subst (λ C. Opens Q (λ H ys. IsAssumed H (put 0 ys C)) ps (put 0 xs B ∷ hyps) xs) (sym e) (kept B G ps (put 0 xs B ∷ hyps) xs (h.0, inl refl) h.1),
  )
  assumed_behind A G (Hypothesis B ∷ ps) hyps xs (inr m) h = (h.0, assumed_behind A G ps (put 0 xs B ∷ hyps) xs m h.1)

module _ (Q : Content) (q : IsContent Q) (above : IsBelow pure_content Q) (rests : List Label) where
  -- Equal abstractions are equal where the variable is put in.
  equal_bodies : (hyps : List Term) (S T : Typ) (b c : Term) (n : ℕ) → IsCertifiedTyp Q.declarations T → Proves Q hyps rests (eq S (Abs T b) (Abs T c))
      → (U : Typ) × Proves Q hyps rests (eq U (subst_bound b (Free n T)) (subst_bound c (Free n T)))
  equal_bodies hyps S T b c n typ p =
      let left = left-of Q q above hyps rests S (Abs T b) (Abs T c) p in
      let U = left.typed.0 in
      let x = Free n T in
      let functions : Proves Q hyps rests (eq (arrow T U) (Abs T b) (Abs T c)) = rw left.typed.2 p in
      let applied = equal_applications Q q above hyps rests T U (Abs T b) (Abs T c) x x functions (reflexive_equality Q q above hyps rests T x (certified_of Q x T typ refl)) in
      let one = beta_equality Q q above hyps rests T U b x (left-of Q q above hyps rests U (App (Abs T b) x) (App (Abs T c) x) applied) in
      let other = beta_equality Q q above hyps rests T U c x (right-of Q q above hyps rests U (App (Abs T b) x) (App (Abs T c) x) applied) in (
        U,
        transitive_equality Q q above hyps rests U (subst_bound b x) (App (Abs T b) x) (subst_bound c x)
            (symmetric_equality Q q above hyps rests U (App (Abs T b) x) (subst_bound b x) one)
            (transitive_equality Q q above hyps rests U (App (Abs T b) x) (App (Abs T c) x) (subst_bound c x) applied other),
      )

  equal_opened : (X Y : Term) (G : List (ℕ × Typ) → Type 0) (ps : List Item) (hyps : List Term) (xs : List (ℕ × Typ)) (S : Typ)
      → Proves Q hyps rests (eq S (put 0 xs (below_parameters ps X)) (put 0 xs (below_parameters ps Y))) → Opens Q (λ H ys. G ys) ps hyps xs
      → Opens Q (λ H ys. (U : Typ) × Proves Q H rests (eq U (put 0 ys X) (put 0 ys Y))) ps hyps xs
  equal_opened X Y G [] hyps xs S p h = (S, p)
  equal_opened X Y G (Parameter T ∷ ps) hyps xs S p h = (
    h.0,
    λ n.
        let b = below_parameters ps X in
        let c = below_parameters ps Y in
        let bodies = equal_bodies hyps S T (put (0 + 1) xs b) (put (0 + 1) xs c) n h.0 (rw (put-abs 0 xs T b, put-abs 0 xs T c) at p) in
        equal_opened X Y G ps hyps ((n, T) ∷ xs) bodies.0 (rw (put-further n T xs b, put-further n T xs c) at bodies.1) (h.1 n),
  )
  equal_opened X Y G (Hypothesis A ∷ ps) hyps xs S p h =
      (h.0, equal_opened X Y G ps (put 0 xs A ∷ hyps) xs S (weaker Q hyps (put 0 xs A ∷ hyps) rests rests (eq S (put 0 xs (below_parameters ps X)) (put 0 xs (below_parameters ps Y))) (λ B m. inr m) (λ l m. m) p) h.1)

  -- An equation at the type of its left side, a proposition.
  equal_along : (hyps : List Term) (U : Typ) (A B : Term) → Proves Q hyps rests (eq U A B) → Proves Q hyps rests A → Proves Q hyps rests B
  equal_along hyps U A B p r =
      let same = typed-once [] A U prop (left-of Q q above hyps rests U A B p).typed (proved_is_proposition Q q above hyps rests A r).typed in
      equal_is_proved Q q above hyps rests A B (rw same at p) r

module _ (Q : Content) (q : IsContent Q) (above : IsBelow pure_content Q) (hyps : List Term) (rests : List Label) where
  pub distributed : (ps : List Item) (A B : Term) → Proves Q hyps rests (behind ps (imp A B)) → Proves Q hyps rests (behind ps A) → Proves Q hyps rests (behind ps B)
  distributed ps A B p r =
      closed Q rests B ps hyps []
      (opens-more Q (λ H ys. Proves Q H rests (put 0 ys (imp A B)) × Proves Q H rests (put 0 ys A)) (λ H ys. Proves Q H rests (put 0 ys B))
      (λ H ys both. conclusion_is_proved Q H rests (put 0 ys A) (put 0 ys B) (rw (put-imp 0 ys A B) at both.0) both.1) ps hyps []
      (opens-both Q (λ H ys. Proves Q H rests (put 0 ys (imp A B))) (λ H ys. Proves Q H rests (put 0 ys A)) ps hyps [] (opened Q q above rests (imp A B) ps hyps [] p) (opened Q q above rests A ps hyps [] r)))

  -- A conclusion behind a prefix is proved there from a further hypothesis.
  pub further_hypothesis : (ps : List Item) (A B : Term) → IsProposition Q (behind ps (imp A B)) → Proves Q hyps rests (behind ps B) → Proves Q hyps rests (behind ps (imp A B))
  further_hypothesis ps A B h p =
      closed Q rests (imp A B) ps hyps []
      (opens-more Q (λ H ys. Proves Q H rests (put 0 ys B) × IsProposition Q (put 0 ys (imp A B))) (λ H ys. Proves Q H rests (put 0 ys (imp A B)))
      (λ H ys both.
      let whole : IsProposition Q (imp (put 0 ys A) (put 0 ys B)) = rw (put-imp 0 ys A B) at both.1 in
      rw (put-imp 0 ys A B)
      (implication_is_proved Q H rests (put 0 ys A) (put 0 ys B) (premise-proposition Q above (put 0 ys A) (put 0 ys B) whole)
      (weaker Q H (put 0 ys A ∷ H) rests rests (put 0 ys B) (λ C m. inr m) (λ l m. m) both.0))) ps hyps []
      (opens-both Q (λ H ys. Proves Q H rests (put 0 ys B)) (λ H ys. IsProposition Q (put 0 ys (imp A B))) ps hyps [] (opened Q q above rests B ps hyps [] p) (opened-proposition Q q above (imp A B) ps hyps h)))

  -- A hypothesis of a prefix is proved behind it.
  pub hypothesis_is_proved : (ps : List Item) (A C : Term) → IsProposition Q (behind ps C) → IsIn A (hypotheses ps) → Proves Q hyps rests (behind ps A)
  hypothesis_is_proved ps A C h m =
      closed Q rests A ps hyps []
      (opens-more Q (λ H ys. IsAssumed Q H (put 0 ys A)) (λ H ys. Proves Q H rests (put 0 ys A)) (λ H ys a. assumed Q H rests (put 0 ys A) a.0 a.1) ps hyps []
      (assumed_behind Q A (λ ys. IsProposition Q (put 0 ys C)) ps hyps [] m (opened-proposition Q q above C ps hyps h)))

  -- Of what is equal below abstractions over the parameters of a prefix the one is proved behind it where the other is.
  pub equal_behind : (ps : List Item) (S : Typ) (X Y : Term) → Proves Q hyps rests (eq S (below_parameters ps X) (below_parameters ps Y)) → Proves Q hyps rests (behind ps X) → Proves Q hyps rests (behind ps Y)
  equal_behind ps S X Y p r =
      let proposition = opened-proposition Q q above X ps hyps (proved_is_proposition Q q above hyps rests (behind ps X) r) in
      closed Q rests Y ps hyps []
      (opens-more Q (λ H ys. ((U : Typ) × Proves Q H rests (eq U (put 0 ys X) (put 0 ys Y))) × Proves Q H rests (put 0 ys X)) (λ H ys. Proves Q H rests (put 0 ys Y))
      (λ H ys both. equal_along Q q above rests H both.0.0 (put 0 ys X) (put 0 ys Y) both.0.1 both.1) ps hyps []
      (opens-both Q (λ H ys. (U : Typ) × Proves Q H rests (eq U (put 0 ys X) (put 0 ys Y))) (λ H ys. Proves Q H rests (put 0 ys X)) ps hyps []
      (equal_opened Q q above rests X Y (λ ys. IsProposition Q (put 0 ys X)) ps hyps [] S p proposition) (opened Q q above rests X ps hyps [] r)))

-- A chain behind a prefix is one of what stands behind the prefix.
pub chain_behind : (Q : Content) → IsContent Q → IsBelow pure_content Q → (hyps : List Term) (rests : List Label) (ps : List Item) (As : List Term) (B : Term) → Proves Q hyps rests (behind ps (chain As B))
    → Proves Q hyps rests (chain (map (behind ps) As) (behind ps B))
chain_behind Q q above hyps rests ps [] B p = p
chain_behind Q q above hyps rests ps (A ∷ As) B p =
    let premise = premise_behind Q ps A (chain As B) (proved_is_proposition Q q above hyps rests (behind ps (imp A (chain As B))) p) in
    let H = behind ps A ∷ hyps in
    let further = weaker Q hyps H rests rests (behind ps (imp A (chain As B))) (λ C m. inr m) (λ l m. m) p in
    implication_is_proved Q hyps rests (behind ps A) (chain (map (behind ps) As) (behind ps B)) premise
    (chain_behind Q q above H rests ps As B (distributed Q q above H rests ps A (chain As B) further (assumed Q H rests (behind ps A) premise (inl refl))))
