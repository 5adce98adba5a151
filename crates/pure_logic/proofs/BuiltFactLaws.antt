-- The built facts are derivable.
use Rattle.std.proofs.Common.{◌≡◌, ℕ, [], ◌∷◌, inl, refl, arith}
use Rattle.pure_text.specs.Lists.{Each}
use Rattle.pure_text.proofs.ListLaws.{each_imply}
use Rattle.pure_definitions.specs.Types.Typ.{Typ, TVar, arrow, prop}
use Rattle.pure_definitions.specs.Terms.Term.{Term, Var, Bound, Abs, App}
use Rattle.pure_definitions.specs.Declarations.Certified.{IsCertifiedTyp}
use Rattle.pure_logic.specs.Connectives.{all, imp}
use Rattle.pure_logic.specs.Content.{Content, IsBelow, IsCertifiedOf, IsProposition, IsSchematic, IsStatement}
use Rattle.pure_logic.specs.PureContent.{any_typ, pure_content, pure_declarations, proposition_variable}
use Rattle.pure_logic.specs.Tree.{Tree, Assume, AllElim, ImpliesIntro, Refl, Subst, Ext, Iff, hyps_of, rests_of}
use Rattle.pure_logic.specs.Concludes.{Concludes}
use Rattle.pure_logic.specs.Derivable.{IsDerivableAlone}
use Rattle.pure_logic.specs.BuiltFacts.{other_typ, reflexivity, substitutivity, function_extensionality, propositional_extensionality, modus_ponens, specialisation, built_facts}
use Rattle.pure_logic.proofs.ConnectiveLaws.{pure-below_itself, certified_of, arrow-certified, prop-certified}
use Rattle.pure_logic.proofs.ContentLaws.{pure_is_content}
use Rattle.pure_logic.proofs.PropositionLaws.{imp-proposition, all-proposition, derivable_alone_is_proposition}
use Rattle.pure_logic.proofs.ChainLaws.{variable_is_proposition, chain_is_derivable}
use Rattle.pure_logic.proofs.DerivableLaws.{derivable_alone_exactly}
use Rattle.pure_logic.proofs.WeakeningLaws.{weakening_of_derivable}

no_class : (x : ℕ) → IsCertifiedTyp pure_declarations (TVar x 0 [])
no_class x = (λ k below. absurd (omega arith), tt)

variable-certified : (x : ℕ) (T : Typ) → IsCertifiedTyp pure_declarations T → IsCertifiedOf pure_content (Var x 0 T) T
variable-certified x T h = certified_of pure_content (Var x 0 T) T h refl

predicate : IsCertifiedTyp pure_declarations (arrow any_typ prop)
predicate = arrow-certified pure_content pure-below_itself any_typ prop (no_class 0) (prop-certified pure_content pure-below_itself)

functions : IsCertifiedTyp pure_declarations (arrow any_typ other_typ)
functions = arrow-certified pure_content pure-below_itself any_typ other_typ (no_class 0) (no_class 1)

-- A tree without hypotheses and promises shows its conclusion derivable alone.
shown : (d : Tree) (A : Term) → Concludes pure_content d A → hyps_of d ≡ [] → rests_of d ≡ [] → IsDerivableAlone pure_content A
shown d A h none resting = (derivable_alone_exactly pure_content A).1 (d, h, none, resting)

-- `!!x. ?P x`
abbrev quantified : Term
quantified = all any_typ (App (Var 0 0 (arrow any_typ prop)) (Bound 0))

specialised : IsDerivableAlone pure_content specialisation
specialised =
    let P = Var 0 0 (arrow any_typ prop) in
    let x = Var 1 0 any_typ in
    shown (ImpliesIntro quantified (AllElim x (Assume quantified))) specialisation
    (App P x, (any_typ, App P (Bound 0), (proposition, refl), variable-certified 1 any_typ (no_class 0), refl), proposition, refl) refl refl
  where
    proposition : IsProposition pure_content quantified
    proposition = all-proposition pure_content pure-below_itself any_typ (App (Var 0 0 (arrow any_typ prop)) (Bound 0)) (no_class 0) (predicate, tt) (any_typ, refl, refl)

implication : IsProposition pure_content (imp (proposition_variable 0) (proposition_variable 1))
implication = imp-proposition pure_content pure-below_itself (proposition_variable 0) (proposition_variable 1) (variable_is_proposition 0) (variable_is_proposition 1)

abstraction : IsCertifiedOf pure_content (Abs any_typ (App (Var 2 0 (arrow any_typ prop)) (Bound 0))) (arrow any_typ prop)
abstraction = certified_of pure_content (Abs any_typ (App (Var 2 0 (arrow any_typ prop)) (Bound 0))) (arrow any_typ prop) (no_class 0, (predicate, tt)) (prop, (any_typ, refl, refl), refl)

pub built_facts_are_derivable : Each (IsDerivableAlone pure_content) built_facts
built_facts_are_derivable =
    let x = Var 0 0 any_typ in
    let y = Var 1 0 any_typ in
    let P = Var 2 0 (arrow any_typ prop) in
    let f = Var 0 0 (arrow any_typ other_typ) in
    let g = Var 1 0 (arrow any_typ other_typ) in
    let A = proposition_variable 0 in
    let B = proposition_variable 1 in
    let x-of = variable-certified 0 any_typ (no_class 0) in
    let y-of = variable-certified 1 any_typ (no_class 0) in
    let f-of = variable-certified 0 (arrow any_typ other_typ) functions in
    let g-of = variable-certified 1 (arrow any_typ other_typ) functions in
    let reflexive = shown (Refl x) reflexivity (any_typ, x-of, refl) refl refl in
    let substitutive = shown (Subst (Abs any_typ (App P (Bound 0))) x y) substitutivity (any_typ, App P (Bound 0), refl, abstraction, x-of, y-of, refl) refl refl in
    let extensional = shown (Ext f g) function_extensionality (any_typ, other_typ, f-of, g-of, refl) refl refl in
    let equivalent = shown (Iff A B) propositional_extensionality (variable_is_proposition 0, variable_is_proposition 1, refl) refl refl in
    let ponens = chain_is_derivable pure_content (imp A B ∷ []) (imp A B) (implication, tt) (inl refl) in
    (reflexive, (substitutive, (extensional, (equivalent, (ponens, (specialised, tt))))))

pub built_facts_are_derivable_above : (Q : Content) → IsBelow pure_content Q → Each (IsDerivableAlone Q) built_facts
built_facts_are_derivable_above Q above =
    each_imply (IsDerivableAlone pure_content) (IsDerivableAlone Q) built_facts
    (λ A h. weakening_of_derivable pure_content Q pure_is_content above (record { hyps = []; pairs = []; prop = A; rests = [] }) h) built_facts_are_derivable

statement : (A : Term) → IsDerivableAlone pure_content A → IsSchematic A → IsStatement pure_content A
statement A h schematic = record { proposition = derivable_alone_is_proposition pure_content pure_is_content pure-below_itself A h; schematic = schematic }

pub built_facts_are_statements : Each (IsStatement pure_content) built_facts
built_facts_are_statements =
    let one : Unit {0} × (Unit {0} × Unit {0}) = (tt, (tt, tt)) in
    let two : Unit {0} × ((Unit {0} × (Unit {0} × Unit {0})) × Unit {0}) = (tt, (one, tt)) in
    let both : IsSchematic (imp (proposition_variable 0) (proposition_variable 1)) = ((two, tt), tt) in
    let pointwise : IsSchematic (imp (App (Var 2 0 (arrow any_typ prop)) (Bound 0)) (App (Var 2 0 (arrow any_typ prop)) (Bound 0))) = ((two, (one, tt)), (one, tt)) in
    let h = built_facts_are_derivable in (
      statement reflexivity h.0 both,
      (
        statement substitutivity h.1.0 ((two, both), pointwise),
        (
          statement function_extensionality h.1.1.0 ((two, ((one, (tt, tt)), (tt, pointwise))), (((one, ((one, (tt, tt)), tt)), one), one)),
          (
            statement propositional_extensionality h.1.1.1.0 ((two, both), ((two, both), both)),
            (statement modus_ponens h.1.1.1.1.0 ((two, both), both), (statement specialisation h.1.1.1.1.1.0 ((two, ((one, (tt, tt)), (tt, (one, tt)))), (one, tt)), tt)),
          ),
        ),
      ),
    )
