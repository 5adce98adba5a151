-- An attempt whose pairs are unified leads from a derivable goal to a derivable one.
use Rattle.std.proofs.Common.{◌≡◌, List, [], ◌∷◌, ◌++◌, map, refl, ap, sym, subst}
use Rattle.std.proofs.lemmas.List.{map-append}
use Rattle.pure_text.specs.Lists.{IsIn, Each, EachTwo}
use Rattle.pure_text.proofs.ListLaws.{each-append, each_imply}
use Rattle.pure_definitions.specs.Names.{Label}
use Rattle.pure_definitions.specs.Types.Typ.{Typ, prop}
use Rattle.pure_definitions.specs.Terms.Term.{Term, Const, Free, Var, Bound, Abs, App}
use Rattle.pure_definitions.specs.Terms.Subst.{TypBind, TermBind, typ_image, term_image, typ_instance, term_instance, retyped_variable}
use Rattle.pure_logic.specs.Connectives.{protect, chain}
use Rattle.pure_logic.specs.Content.{Content, IsContent, IsProposition}
use Rattle.pure_logic.specs.Concludes.{AreRespecting}
use Rattle.pure_logic.specs.Derivable.{Pair}
use Rattle.pure_logic.specs.Laws.Maps.{instantiated}
use Rattle.pure_logic.specs.Laws.Substitution.{pair_instance}
use Rattle.pure_equation_laws.specs.Equated.{AreEquated, IsPairEquated}
use Rattle.pure_equation_laws.specs.Laws.Proved.{IsCertifiedPair}
use Rattle.pure_equation_laws.proofs.KeptLaws.{equated_of_instance, equated_modulo_others}
use Rattle.pure_unify_definitions.specs.Search.{Unifier}
use Rattle.pure_unify_answers.specs.Maps as answers
use Rattle.pure_unify_answers.specs.Maps.{unifier_typs, unifier_terms, Solves}
use Rattle.pure_goal_laws.specs.GoalStep.{IsGoalStep}
use Rattle.pure_goal_steps.specs.State.{State, theorem_of, IsLeftPair}
use Rattle.pure_goal_steps.specs.Follows.{Attempt, unified_pairs, with_unifier}

-- The two ways to put a unifier into a term.
same-instance : (typs : List TypBind) (terms : List TermBind) (t : Term) → instantiated typs terms t ≡ term_instance (typ_image typs) (λ v. term_image terms (retyped_variable (typ_image typs) v)) t
same-instance typs terms (Const c T) = refl
same-instance typs terms (Free x T) = refl
same-instance typs terms (Var x i T) = refl
same-instance typs terms (Bound p) = refl
same-instance typs terms (Abs T b) = λ i. Abs (typ_instance (typ_image typs) T) (same-instance typs terms b i)
same-instance typs terms (App f a) = λ i. App (same-instance typs terms f i) (same-instance typs terms a i)

map-same : (f g : Term → Term) → ((t : Term) → f t ≡ g t) → (xs : List Term) → map f xs ≡ map g xs
map-same f g e [] = refl
map-same f g e (x ∷ xs) = λ i. e x i ∷ map-same f g e xs i

left-pairs : (Q : Content) (ps : List Pair) → Each (answers.IsLeftPair Q) ps → Each IsLeftPair ps
left-pairs Q ps h = each_imply (answers.IsLeftPair Q) IsLeftPair ps
    (λ p l. record { flexible = l.flexible; left_long = l.left_long; right_long = l.right_long; typ = l.certified.0; left_typed = l.certified.1.typed; right_typed = l.certified.2.typed }) h

pub left_pairs : (Q : Content) (ps : List Pair) (u : Unifier) → Solves Q ps u → Each IsLeftPair u.flexflex
left_pairs Q ps u h = left-pairs Q u.flexflex h.flexflex

certified-pairs : (Q : Content) (ps : List Pair) → Each (answers.IsLeftPair Q) ps → Each (IsCertifiedPair Q) ps
certified-pairs Q ps h = each_imply (answers.IsLeftPair Q) (IsCertifiedPair Q) ps (λ p l. l.certified) h

each-map-split : (P : Pair → Type 0) (f : Pair → Pair) (xs ys : List Pair) → Each P (map f (xs ++ ys)) → Each P (map f xs) × Each P (map f ys)
each-map-split P f [] ys h = (tt, h)
each-map-split P f (x ∷ xs) ys h = let rest = each-map-split P f xs ys h.1 in ((h.0, rest.0), rest.1)

module _ (Q : Content) (q : IsContent Q) where
  module _ (typs : Typ → Typ) (terms : Term → Term) (r : AreRespecting Q typs terms) (pairs : List Pair) where
    itself : (A : Term) → IsProposition Q A → AreEquated Q.declarations pairs [] prop (term_instance typs terms A) (term_instance typs terms A)
    itself A h =
        equated_modulo_others Q.declarations [] pairs tt [] prop (term_instance typs terms A) (term_instance typs terms A)
        (equated_of_instance Q q typs terms r [] [] prop A A (AreEquated.same (record { parts = h.certified.parts; typed = h.typed })))

    all-itself : (As : List Term) → Each (IsProposition Q) As → EachTwo (λ B S. AreEquated Q.declarations pairs [] prop B S) (map (term_instance typs terms) As) (map (term_instance typs terms) As)
    all-itself [] h = tt
    all-itself (A ∷ As) h = (itself A h.0, all-itself As h.1)

  module _ (s : State) (first : Term) (others : List Term) (a : Attempt) (u : Unifier) (rests all : List Label) where
    -- The step from the goal to the state with the unifier put in, not reduced.
    pub attempt_step : s.subgoals ≡ first ∷ others → Solves Q (unified_pairs s a) u → Each (IsProposition Q) a.premises → Each (IsProposition Q) others → ((l : Label) → IsIn l rests → IsIn l all)
        → IsGoalStep Q (theorem_of s rests) (theorem_of (with_unifier s others a u) all) first others (protect s.statement) (map (term_instance (unifier_typs u) (unifier_terms u)) a.premises) (unifier_typs u) (unifier_terms u)
    attempt_step stand solves premises rest kept =
        let f : Term → Term = term_instance (unifier_typs u) (unifier_terms u) in
        let same : map (instantiated u.typs u.terms) (a.premises ++ others) ≡ map f (a.premises ++ others) = map-same (instantiated u.typs u.terms) f (same-instance u.typs u.terms) (a.premises ++ others) in
        let halves : map f (a.premises ++ others) ≡ map f a.premises ++ map f others = map-append f a.premises others in
        let equated : EachTwo (λ B S. AreEquated Q.declarations u.flexflex [] prop B S) (map f (a.premises ++ others)) (map f (a.premises ++ others)) =
        all-itself (unifier_typs u) (unifier_terms u) solves.respecting u.flexflex (a.premises ++ others) (each-append (IsProposition Q) a.premises others premises rest) in
        record {
          goal_hyps = refl;
          goal_prop = ap (λ (As : List Term). chain As (protect s.statement)) stand;
          respecting = solves.respecting;
          pairs = (each-map-split (IsPairEquated Q.declarations u.flexflex) (pair_instance (unifier_typs u) (unifier_terms u)) a.matched s.pairs solves.equated).1;
          new_pairs = certified-pairs Q u.flexflex solves.flexflex;
          subgoals = map (instantiated u.typs u.terms) (a.premises ++ others);
          are_subgoals = subst (λ (As : List Term). EachTwo (λ B S. AreEquated Q.declarations u.flexflex [] prop B S) (map f a.premises ++ map f others) As) (sym same)
              (subst (λ (As : List Term). EachTwo (λ B S. AreEquated Q.declarations u.flexflex [] prop B S) As (map f (a.premises ++ others))) halves equated);
          new_hyps = refl;
          new_prop = ap (λ (C : Term). chain (map (instantiated u.typs u.terms) (a.premises ++ others)) (protect C)) (same-instance u.typs u.terms s.statement);
          rests = kept;
        }

    -- What is matched.
    pub matched_pairs : Solves Q (unified_pairs s a) u → Each (IsPairEquated Q.declarations u.flexflex) (map (pair_instance (unifier_typs u) (unifier_terms u)) a.matched)
    matched_pairs solves = (each-map-split (IsPairEquated Q.declarations u.flexflex) (pair_instance (unifier_typs u) (unifier_terms u)) a.matched s.pairs solves.equated).0
