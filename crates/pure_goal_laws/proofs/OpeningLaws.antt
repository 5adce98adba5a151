-- Openings of a prefix: a fixed variable for each of its parameters, and its hypotheses assumed.
use Rattle.std.proofs.Common.{◌≡◌, ◌<◌, ℕ, ◌+◌, List, [], ◌∷◌, inl, inr, ap, refl, sym, ◌∙◌, arith}
use Rattle.pure_definitions.specs.Names.{Label}
use Rattle.pure_definitions.specs.Types.Typ.{Typ}
use Rattle.pure_definitions.specs.Terms.Term.{Term, Const, Free, Bound, Abs, App}
use Rattle.pure_definitions.specs.Terms.Bounds.{subst_under, subst_bound}
use Rattle.pure_definitions.specs.Declarations.Certified.{IsCertifiedTyp}
use Rattle.pure_term_laws.proofs.MapLaws.{place-below}
use Rattle.pure_logic.specs.Connectives.{all, imp}
use Rattle.pure_logic.specs.Content.{Content, IsContent, IsBelow, IsProposition}
use Rattle.pure_logic.specs.PureContent.{pure_content}
use Rattle.pure_logic.specs.Proves.{Proves}
use Rattle.pure_logic.proofs.ConnectiveLaws.{certified_of}
use Rattle.pure_logic.proofs.PropositionLaws.{premise-proposition}
use Rattle.pure_logic.proofs.ProvesLaws.{assumed, weaker, implication_is_proved, conclusion_is_proved, quantification_is_proved, instance_of_body_is_proved, proved_is_proposition}
use Rattle.pure_equation_laws.proofs.ClosingLaws.{closing, closing-abstraction, closing-application, closing-subst}
use Rattle.pure_goal_laws.specs.Prefix.{Item, Parameter, Hypothesis, behind}

-- the fixed variables with these names and types
abbrev variables : List (ℕ × Typ) → List Term
variables [] = []
variables (x ∷ xs) = Free x.0 x.1 ∷ variables xs

-- Under n binders of the term: fixed variables in place of its further loose bound variables, the innermost first.
abbrev pub put : ℕ → List (ℕ × Typ) → Term → Term
put n xs t = closing n (variables xs) t

pub put-const : (n : ℕ) (xs : List (ℕ × Typ)) (c : ℕ) (T : Typ) → put n xs (Const c T) ≡ Const c T
put-const n [] c T = refl
put-const n (x ∷ xs) c T = put-const n xs c T

pub put-free : (n : ℕ) (xs : List (ℕ × Typ)) (y : ℕ) (T : Typ) → put n xs (Free y T) ≡ Free y T
put-free n [] y T = refl
put-free n (x ∷ xs) y T = put-free n xs y T

pub put-bound : (n : ℕ) (xs : List (ℕ × Typ)) (p : ℕ) → p < n → put n xs (Bound p) ≡ Bound p
put-bound n [] p h = refl
put-bound n (x ∷ xs) p h = ap (put n xs) (place-below n (Free x.0 x.1) p (omega arith)) ∙ put-bound n xs p h

pub put-app : (n : ℕ) (xs : List (ℕ × Typ)) (f a : Term) → put n xs (App f a) ≡ App (put n xs f) (put n xs a)
put-app n xs f a = closing-application n (variables xs) f a

pub put-abs : (n : ℕ) (xs : List (ℕ × Typ)) (T : Typ) (b : Term) → put n xs (Abs T b) ≡ Abs T (put (n + 1) xs b)
put-abs n xs T b = closing-abstraction n (variables xs) T b

pub put-imp : (n : ℕ) (xs : List (ℕ × Typ)) (A B : Term) → put n xs (imp A B) ≡ imp (put n xs A) (put n xs B)
put-imp n [] A B = refl
put-imp n (x ∷ xs) A B = put-imp n xs (subst_under n (Free x.0 x.1) A) (subst_under n (Free x.0 x.1) B)

pub put-all : (n : ℕ) (xs : List (ℕ × Typ)) (T : Typ) (B : Term) → put n xs (all T B) ≡ all T (put (n + 1) xs B)
put-all n [] T B = refl
put-all n (x ∷ xs) T B = put-all n xs T (subst_under (n + 1) (Free x.0 x.1) B)

-- A further variable may be put before the others or after them.
pub put-further : (y : ℕ) (T : Typ) (xs : List (ℕ × Typ)) (B : Term) → subst_bound (put (0 + 1) xs B) (Free y T) ≡ put 0 ((y, T) ∷ xs) B
put-further y T xs B = sym (closing-subst (variables xs) B (Free y T) ∙ ap (subst_bound (put (0 + 1) xs B)) (put-free 0 xs y T))

module _ (Q : Content) where
  -- What is claimed of hypotheses and variables holds behind the prefix: of those that are given, and of a variable for each parameter and the hypotheses of the prefix beside them. The prefix is of certified types and propositions.
  abbrev pub Opens : (List Term → List (ℕ × Typ) → Type 0) → List Item → List Term → List (ℕ × Typ) → Type 0
  Opens G [] hyps xs = G hyps xs
  Opens G (Parameter T ∷ ps) hyps xs = IsCertifiedTyp Q.declarations T × ((n : ℕ) → Opens G ps hyps ((n, T) ∷ xs))
  Opens G (Hypothesis A ∷ ps) hyps xs = IsProposition Q (put 0 xs A) × Opens G ps (put 0 xs A ∷ hyps) xs

  pub opens-more : (G K : List Term → List (ℕ × Typ) → Type 0) → ((hyps : List Term) (xs : List (ℕ × Typ)) → G hyps xs → K hyps xs) → (ps : List Item) (hyps : List Term) (xs : List (ℕ × Typ))
      → Opens G ps hyps xs → Opens K ps hyps xs
  opens-more G K more [] hyps xs h = more hyps xs h
  opens-more G K more (Parameter T ∷ ps) hyps xs h = (h.0, λ n. opens-more G K more ps hyps ((n, T) ∷ xs) (h.1 n))
  opens-more G K more (Hypothesis A ∷ ps) hyps xs h = (h.0, opens-more G K more ps (put 0 xs A ∷ hyps) xs h.1)

  pub opens-both : (G K : List Term → List (ℕ × Typ) → Type 0) (ps : List Item) (hyps : List Term) (xs : List (ℕ × Typ)) → Opens G ps hyps xs → Opens K ps hyps xs
      → Opens (λ H ys. G H ys × K H ys) ps hyps xs
  opens-both G K [] hyps xs h k = (h, k)
  opens-both G K (Parameter T ∷ ps) hyps xs h k = (h.0, λ n. opens-both G K ps hyps ((n, T) ∷ xs) (h.1 n) (k.1 n))
  opens-both G K (Hypothesis A ∷ ps) hyps xs h k = (h.0, opens-both G K ps (put 0 xs A ∷ hyps) xs h.1 k.1)

  -- What is claimed of variables alone doesn't depend on the hypotheses.
  pub opens-hyps : (G : List (ℕ × Typ) → Type 0) (ps : List Item) (hyps others : List Term) (xs : List (ℕ × Typ)) → Opens (λ H ys. G ys) ps hyps xs → Opens (λ H ys. G ys) ps others xs
  opens-hyps G [] hyps others xs h = h
  opens-hyps G (Parameter T ∷ ps) hyps others xs h = (h.0, λ n. opens-hyps G ps hyps others ((n, T) ∷ xs) (h.1 n))
  opens-hyps G (Hypothesis A ∷ ps) hyps others xs h = (h.0, opens-hyps G ps (put 0 xs A ∷ hyps) (put 0 xs A ∷ others) xs h.1)

  -- What is proved of each opening is proved behind the prefix.
  pub closed : (rests : List Label) (C : Term) (ps : List Item) (hyps : List Term) (xs : List (ℕ × Typ)) → Opens (λ H ys. Proves Q H rests (put 0 ys C)) ps hyps xs → Proves Q hyps rests (put 0 xs (behind ps C))
  closed rests C [] hyps xs h = h
  closed rests C (Parameter T ∷ ps) hyps xs h =
      rw (put-all 0 xs T (behind ps C))
      (quantification_is_proved Q hyps rests T (put (0 + 1) xs (behind ps C)) h.0 (λ n. rw (put-further n T xs (behind ps C)) (closed rests C ps hyps ((n, T) ∷ xs) (h.1 n))))
  closed rests C (Hypothesis A ∷ ps) hyps xs h =
      rw (put-imp 0 xs A (behind ps C)) (implication_is_proved Q hyps rests (put 0 xs A) (put 0 xs (behind ps C)) h.0 (closed rests C ps (put 0 xs A ∷ hyps) xs h.1))

module _ (Q : Content) (q : IsContent Q) (above : IsBelow pure_content Q) where
  -- What is proved behind a prefix is proved of each opening.
  pub opened : (rests : List Label) (C : Term) (ps : List Item) (hyps : List Term) (xs : List (ℕ × Typ)) → Proves Q hyps rests (put 0 xs (behind ps C)) → Opens Q (λ H ys. Proves Q H rests (put 0 ys C)) ps hyps xs
  opened rests C [] hyps xs p = p
  opened rests C (Parameter T ∷ ps) hyps xs p =
      let whole : Proves Q hyps rests (all T (put (0 + 1) xs (behind ps C))) = rw (put-all 0 xs T (behind ps C)) at p in
      let typ = (proved_is_proposition Q q above hyps rests (all T (put (0 + 1) xs (behind ps C))) whole).certified.parts.1.0 in
      (typ, λ n. opened rests C ps hyps ((n, T) ∷ xs) (rw (put-further n T xs (behind ps C)) at (instance_of_body_is_proved Q hyps rests T (put (0 + 1) xs (behind ps C)) (Free n T) (certified_of Q (Free n T) T typ refl) whole)))
  opened rests C (Hypothesis A ∷ ps) hyps xs p =
      let whole : Proves Q hyps rests (imp (put 0 xs A) (put 0 xs (behind ps C))) = rw (put-imp 0 xs A (behind ps C)) at p in
      let premise = premise-proposition Q above (put 0 xs A) (put 0 xs (behind ps C)) (proved_is_proposition Q q above hyps rests (imp (put 0 xs A) (put 0 xs (behind ps C))) whole) in
      let further = weaker Q hyps (put 0 xs A ∷ hyps) rests rests (imp (put 0 xs A) (put 0 xs (behind ps C))) (λ B m. inr m) (λ l m. m) whole in (
        premise,
        opened rests C ps (put 0 xs A ∷ hyps) xs
            (conclusion_is_proved Q (put 0 xs A ∷ hyps) rests (put 0 xs A) (put 0 xs (behind ps C)) further (assumed Q (put 0 xs A ∷ hyps) rests (put 0 xs A) premise (inl refl))),
      )

  -- The conclusion of a proposition is one, in each opening of its prefix.
  pub opened-proposition : (C : Term) (ps : List Item) (hyps : List Term) → IsProposition Q (behind ps C) → Opens Q (λ H ys. IsProposition Q (put 0 ys C)) ps hyps []
  opened-proposition C ps hyps h =
      opens-hyps Q (λ ys. IsProposition Q (put 0 ys C)) ps (behind ps C ∷ []) hyps []
      (opens-more Q (λ H ys. Proves Q H [] (put 0 ys C)) (λ H ys. IsProposition Q (put 0 ys C)) (λ H ys p. proved_is_proposition Q q above H [] (put 0 ys C) p) ps (behind ps C ∷ []) []
      (opened [] C ps (behind ps C ∷ []) [] (assumed Q (behind ps C ∷ []) [] (behind ps C) h (inl refl))))
