-- Inferences on theorems.
use Rattle.std.proofs.Common.{◌≡◌, ◌⊎◌, List, [], ◌∷◌, ◌++◌, Bool, true, false, inl, inr, refl, sym}
use Rattle.pure_text.specs.Lists.{IsIn, EachTwo}
use Rattle.pure_text.proofs.ListLaws.{in-append_left, in-append_right, each_at, each_imply, each-append, in_split, two-append}
use Rattle.pure_definitions.specs.Names.{Label}
use Rattle.pure_definitions.specs.Types.Typ.{Typ}
use Rattle.pure_definitions.specs.Terms.Term.{Term, term_eq}
use Rattle.pure_definitions.specs.Terms.Bounds.{subst_bound, abstract_over, Occurs}
use Rattle.pure_definitions.specs.Terms.Conditions.{IsVariable}
use Rattle.pure_definitions.specs.Models.Equality.{term_eq-same}
use Rattle.pure_logic.specs.Connectives.{all_of, all, imp, eq}
use Rattle.pure_logic.specs.Content.{Content, IsContent, IsBelow, IsCertifiedOf, IsProposition}
use Rattle.pure_logic.specs.PureContent.{pure_content}
use Rattle.pure_logic.specs.Tree.{AllIntro, without, hyps_of}
use Rattle.pure_logic.specs.Concludes.{IsFresh}
use Rattle.pure_logic.specs.Derivable.{Pair, Theorem, IsDerivable}
use Rattle.pure_logic.specs.Proves.{Proves, IsEquation}
use Rattle.pure_logic.specs.Laws.Inferences.{IsAmong, IsFreshInPairs}
use Rattle.pure_logic.proofs.DischargeLaws.{stays}
use Rattle.pure_logic.proofs.ProvesLaws.{weaker, implication_is_proved, conclusion_is_proved, instance_of_body_is_proved, derivable-proved, proved-derivable}

pub inferred_from_one : (Q : Content) → IsContent Q → IsBelow pure_content Q → (th : Theorem) (hyps : List Term) (B : Term)
    → ((further : List Term) → Proves Q (further ++ th.hyps) th.rests th.prop → Proves Q (further ++ hyps) th.rests B) → IsDerivable Q th → IsDerivable Q (record th { hyps = hyps; prop = B })
inferred_from_one Q q above th hyps B step h =
    let p = derivable-proved Q q above th h in
    proved-derivable Q q above (record th { hyps = hyps; prop = B }) (record {
      equations = p.equations;
      are_equations = p.are_equations;
      propositions = p.propositions;
      proves = step p.equations p.proves;
    })

-- Equations and hypotheses stand among the equations of both and the hypotheses of both.
among_left : (xs ys hyps all : List Term) → ((A : Term) → IsIn A hyps → IsIn A all) → (A : Term) → IsIn A (xs ++ hyps) → IsIn A ((xs ++ ys) ++ all)
among_left xs ys hyps all h A m = elim (in_split A xs hyps m) [ inl n ↦ in-append_left A (xs ++ ys) all (in-append_left A xs ys n) | inr n ↦ in-append_right A (xs ++ ys) all (h A n) ]

among_right : (xs ys hyps all : List Term) → ((A : Term) → IsIn A hyps → IsIn A all) → (A : Term) → IsIn A (ys ++ hyps) → IsIn A ((xs ++ ys) ++ all)
among_right xs ys hyps all h A m = elim (in_split A ys hyps m) [ inl n ↦ in-append_left A (xs ++ ys) all (in-append_right A xs ys n) | inr n ↦ in-append_right A (xs ++ ys) all (h A n) ]

pub inferred_from_two : (Q : Content) → IsContent Q → IsBelow pure_content Q → (th other : Theorem) (hyps : List Term) (rests : List Label) (B : Term) → IsAmong th hyps rests → IsAmong other hyps rests
    → ((H : List Term) → Proves Q H rests th.prop → Proves Q H rests other.prop → Proves Q H rests B)
    → IsDerivable Q th → IsDerivable Q other → IsDerivable Q (record { hyps = hyps; pairs = th.pairs ++ other.pairs; prop = B; rests = rests })
inferred_from_two Q q above th other hyps rests B among also step h k =
    let left = derivable-proved Q q above th h in
    let right = derivable-proved Q q above other k in
    let all = (left.equations ++ right.equations) ++ hyps in
    let first = weaker Q (left.equations ++ th.hyps) all th.rests rests th.prop (among_left left.equations right.equations th.hyps hyps among.hyps) among.rests left.proves in
    let second = weaker Q (right.equations ++ other.hyps) all other.rests rests other.prop (among_right left.equations right.equations other.hyps hyps also.hyps) also.rests right.proves in
    proved-derivable Q q above (record { hyps = hyps; pairs = th.pairs ++ other.pairs; prop = B; rests = rests }) (record {
      equations = left.equations ++ right.equations;
      are_equations = two-append IsEquation th.pairs other.pairs left.equations right.equations left.are_equations right.are_equations;
      propositions = each-append (IsProposition Q) left.equations right.equations left.propositions right.propositions;
      proves = step all first second;
    })

pub implies_elim_is_derivable : (Q : Content) → IsContent Q → IsBelow pure_content Q → (A B : Term) (implication premise : Theorem)
    → IsDerivable Q (record implication { prop = imp A B }) → IsDerivable Q (record premise { prop = A })
    → IsDerivable Q (record { hyps = implication.hyps ++ premise.hyps; pairs = implication.pairs ++ premise.pairs; prop = B; rests = implication.rests ++ premise.rests })
implies_elim_is_derivable Q q above A B implication premise h k =
    inferred_from_two Q q above (record implication { prop = imp A B }) (record premise { prop = A }) (implication.hyps ++ premise.hyps) (implication.rests ++ premise.rests) B
    (record { hyps = λ C m. in-append_left C implication.hyps premise.hyps m; rests = λ l m. in-append_left l implication.rests premise.rests m })
    (record { hyps = λ C m. in-append_right C implication.hyps premise.hyps m; rests = λ l m. in-append_right l implication.rests premise.rests m })
    (λ H p r. conclusion_is_proved Q H (implication.rests ++ premise.rests) A B p r) h k

pub implies_intro_is_derivable : (Q : Content) → IsContent Q → IsBelow pure_content Q → (A B : Term) (th : Theorem) → IsProposition Q A → IsDerivable Q (record th { prop = B })
    → IsDerivable Q (record th { hyps = without A th.hyps; prop = imp A B })
implies_intro_is_derivable Q q above A B th proposition h =
    inferred_from_one Q q above (record th { prop = B }) (without A th.hyps) (imp A B)
    (λ further p. implication_is_proved Q (further ++ without A th.hyps) th.rests A B proposition
    (weaker Q (further ++ th.hyps) (A ∷ (further ++ without A th.hyps)) th.rests th.rests B (λ C m. among further C (in_split C further th.hyps m)) (λ l m. m) p)) h
  where
    kept : (further : List Term) (C : Term) (b : Bool) → term_eq A C ≡ b → IsIn C th.hyps → IsIn C (A ∷ (further ++ without A th.hyps))
    kept further C true e m = inl (sym (term_eq-same A C e))
    kept further C false e m = inr (in-append_right C further (without A th.hyps) (stays A C th.hyps e m))

    among : (further : List Term) (C : Term) → IsIn C further ⊎ IsIn C th.hyps → IsIn C (A ∷ (further ++ without A th.hyps))
    among further C (inl m) = inr (in-append_left C further (without A th.hyps) m)
    among further C (inr m) = kept further C (term_eq A C) refl m

pub all_elim_is_derivable : (Q : Content) → IsContent Q → IsBelow pure_content Q → (T : Typ) (B t : Term) (th : Theorem) → IsCertifiedOf Q t T → IsDerivable Q (record th { prop = all T B }) → IsDerivable Q (record th { prop = subst_bound B t })
all_elim_is_derivable Q q above T B t th c h =
    inferred_from_one Q q above (record th { prop = all T B }) th.hyps (subst_bound B t) (λ further p. instance_of_body_is_proved Q (further ++ th.hyps) th.rests T B t c p) h

-- A variable that is in neither side of an equation isn't in the equation.
fresh-equation : (x : Term) (T : Typ) (t u : Term) → IsVariable x → (¬ Occurs x t) → (¬ Occurs x u) → ¬ Occurs x (eq T t u)
fresh-equation x T t u is left right (inl e) = rw e at is
fresh-equation x T t u is left right (inr (inl (inl e))) = rw e at is
fresh-equation x T t u is left right (inr (inl (inr (inl e)))) = rw e at is
fresh-equation x T t u is left right (inr (inl (inr (inr o)))) = left o
fresh-equation x T t u is left right (inr (inr o)) = right o

fresh-equations : (x : Term) (pairs : List Pair) (equations : List Term) → IsVariable x → IsFreshInPairs x pairs → EachTwo IsEquation pairs equations → IsFresh x equations
fresh-equations x [] [] is fresh h = tt
fresh-equations x (p ∷ ps) (e ∷ es) is fresh h =
    (λ o. fresh-equation x h.0.0 p.left p.right is fresh.0.0 fresh.0.1 (rw h.0.2 at o), fresh-equations x ps es is fresh.1 h.1)
fresh-equations x [] (e ∷ es) is fresh h = absurd h
fresh-equations x (p ∷ ps) [] is fresh h = absurd h

pub all_intro_is_derivable : (Q : Content) → IsContent Q → IsBelow pure_content Q → (x : Term) (T : Typ) (B : Term) (th : Theorem) → IsVariable x → IsCertifiedOf Q x T → IsFresh x th.hyps → IsFreshInPairs x th.pairs
    → IsDerivable Q (record th { prop = B }) → IsDerivable Q (record th { prop = all_of T (abstract_over B x) })
all_intro_is_derivable Q q above x T B th is c fresh fresh_pairs h =
    let p = derivable-proved Q q above (record th { prop = B }) h in
    let apart = each-append (λ A. ¬ Occurs x A) p.equations th.hyps (fresh-equations x th.pairs p.equations is fresh_pairs p.are_equations) fresh in
    proved-derivable Q q above (record th { prop = all_of T (abstract_over B x) }) (record {
      equations = p.equations;
      are_equations = p.are_equations;
      propositions = p.propositions;
      proves = record {
        tree = AllIntro x p.proves.tree;
        concludes = (T, B, p.proves.concludes, is, c, each_imply (λ A. IsIn A (p.equations ++ th.hyps)) (λ A. ¬ Occurs x A) (hyps_of p.proves.tree) (λ A m. each_at (λ C. ¬ Occurs x C) (p.equations ++ th.hyps) apart A m) p.proves.from, refl);
        from = p.proves.from;
        rest_on = p.proves.rest_on;
      };
    })
