-- Proofs of `A ==> A`, step by step.
use Rattle.std.proofs.Common.{◌≡◌, ◌⊎◌, ℕ, List, [], ◌∷◌, inl, inr, refl, arith}
use Rattle.std.specs.Prelude.{Ok, Err}
use Rattle.pure_definitions.specs.Names.{Label, imp_name}
use Rattle.pure_definitions.specs.Types.Typ.{Typ, TVar, Con, Typs, none, also, arrow, prop}
use Rattle.pure_definitions.specs.Types.Occurs.{OccursInTyp}
use Rattle.pure_definitions.specs.Types.Order.{Algebra}
use Rattle.pure_definitions.specs.Terms.Term.{Term, Const, Free, Var, App, IsWithin}
use Rattle.pure_definitions.specs.Terms.Bounds.{Occurs}
use Rattle.pure_definitions.specs.Terms.Typing.{HasType}
use Rattle.pure_definitions.specs.Declarations.Decl.{algebra_of}
use Rattle.pure_definitions.specs.Reduction.Eta.{EtaReduces, IsLongForm}
use Rattle.pure_term_laws.specs.LawsOccurs.{HasNoSchematic}
use Rattle.pure_grammar.specs.Theories.TheoryText.{Step, Assumption, Close, Done}
use Rattle.pure_logic.specs.Connectives.{imp_typ, imp, protect}
use Rattle.pure_logic.specs.Content.{IsProposition}
use Rattle.pure_logic.specs.PureContent.{pure_content}
use Rattle.pure_logic.proofs.ConnectiveLaws.{pure-below_itself, certified_of, prop-certified, imp-parts}
use Rattle.pure_lookup.specs.LookUps.{IsFoundFact}
use Rattle.pure_theorem.proofs.SetLaws.{no_labels}
use Rattle.pure_unify_definitions.specs.Fronts.{pair}
use Rattle.pure_unify_definitions.specs.Node.{root}
use Rattle.pure_unify_definitions.specs.LongSides as sides
use Rattle.pure_unify_definitions.specs.LongSides.{Long, ComesTo, is_long, both_long}
use Rattle.pure_unify_definitions.specs.Treatment.{IsTreatment}
use Rattle.pure_unify_definitions.specs.Simplification.{Applies, Simplifies, visited}
use Rattle.pure_unify_definitions.specs.Search.{Unified, IsUnifyAnswer, success, unifier_of}
use Rattle.pure_resolve.proofs.UnifyAnswers.PureLaws.{pure_is_unify_content}
use Rattle.pure_resolve.specs.Pairs.Smash.{Smashes}
use Rattle.pure_goal_laws.specs.Prefix.{Hypothesis}
use Rattle.pure_resolve.specs.GoalSteps.State.{State, theorem_of}
use Rattle.pure_resolve.specs.GoalSteps.Follows.{Come, Becomes, FollowsByFirst}
use Rattle.pure_resolve.specs.GoalSteps.Steps.{BeginsAs, AssumptionStep, EndsAs}
use Rattle.pure_resolve.specs.GoalSteps.declared.fault.StepFault.TheVariants as fault
use Rattle.pure_method.specs.Facts.{IsNamedBy, AreNamedBy}
use Rattle.pure_method.specs.Proof.{Closes, EndsBy, IsProofBy}
use Rattle.pure_method.specs.Examples.{premise, trivial_statement, AssumptionExample, ClosedExample, SecondStepExample, FirstStepExample, LeftExample, DerivableExample}
use Rattle.pure_method.proofs.SoundLaws.{proved-derivable}

-- A term that is its own long form, within the limits.
comes : (t : Term) → IsLongForm t t → IsWithin t → ComesTo t (Long t)
comes t f w = is_long (record { before = []; last = t; sequence = refl; undecided = tt; in_time = omega arith; decided = (w, f.normal, refl) }) f w

premise-long : ComesTo premise (Long premise)
premise-long = comes premise
    (record { typ = prop; typed = refl; long_typed = refl; reduces = EtaReduces.done; normal = tt; saturated = (prop, refl, refl); parts = tt })
    (record { size = omega arith; depth = omega arith })

typed : HasType [] trivial_statement prop
typed = (prop, (prop, refl, refl), refl)

statement-within : IsWithin trivial_statement
statement-within = record { size = omega arith; depth = omega arith }

statement-long : ComesTo trivial_statement (Long trivial_statement)
statement-long = comes trivial_statement
    (record {
      typ = prop;
      typed = typed;
      long_typed = typed;
      reduces = EtaReduces.done;
      normal = (λ h. h, (λ h. h, tt, tt), tt);
      saturated = (prop, typed, refl);
      parts = ((tt, (prop, refl, refl), tt), (prop, refl, refl), tt);
    })
    statement-within

-- the first goal, and the goal without subgoals
abbrev pub first_goal : State
first_goal = record { statement = trivial_statement; subgoals = trivial_statement ∷ []; pairs = [] }

abbrev last_goal : State
last_goal = record { statement = trivial_statement; subgoals = []; pairs = [] }

pub begins : BeginsAs trivial_statement (Ok first_goal)
begins = Becomes.small {Ss = trivial_statement ∷ []} (Come.all_long statement-long Come.no_more) (imp trivial_statement (protect trivial_statement), refl, record { size = omega arith; depth = omega arith })

mark-within : IsWithin (protect trivial_statement)
mark-within = record { size = omega arith; depth = omega arith }

module _ (A : Algebra) where
  -- The premise is unified with the conclusion: the pair goes.
  unifies : (maxidx : ℕ) → IsUnifyAnswer A maxidx (pair premise premise ∷ []) (Unified (unifier_of (root [])))
  unifies maxidx = success {m = root []} (omega arith)
      (visited {qs = pair premise premise ∷ []} (both_long premise-long premise-long sides.no_more)
      (Simplifies.step (Applies.drops {front = []} {rest = []} {p = pair premise premise} (record { stands = refl; before = tt; treated = IsTreatment.equal refl })) (Simplifies.simple tt)))
      tt (record { typs = tt; terms = tt })

  assumed : AssumptionStep A first_goal (Ok last_goal)
  assumed = AssumptionStep.tried {ps = Hypothesis premise ∷ []} {C = premise} {others = []}
      (record { subgoal = trivial_statement; stand = refl; read = record { stands = refl; ends = record { no_quantification = λ T B e. cc; no_implication = λ X Y e. cc } } })
      (FollowsByFirst.decided {answer = Unified (unifier_of (root []))} (unifies _) (λ e. cc) (Becomes.small {Ss = []} Come.no_more (protect trivial_statement, refl, mark-within)))

  nothing_left : AssumptionStep A last_goal (Err fault.NoSubgoal)
  nothing_left = AssumptionStep.no_subgoal refl

  closes : Closes A first_goal last_goal
  closes = Closes.goes_on assumed (Closes.stops nothing_left)

ends : EndsAs last_goal (Ok (record { hyps = []; pairs = []; prop = trivial_statement; rests = [] }))
ends = EndsAs.proved {smashed = theorem_of last_goal []} {C = trivial_statement} refl (Smashes.no_pair refl) (record { hyps = tt; pairs = tt; prop = mark-within }) refl

none_named : (script : List Step) → ((l : Label) → ¬ IsNamedBy (IsFoundFact [] pure_content) script l) → AreNamedBy (IsFoundFact [] pure_content) script []
none_named script unnamed = record { ascend = no_labels; exactly = λ l. (λ m. absurd m, λ n. absurd (unnamed l n)) }

names_nothing : {A B : Type 0} → ¬ A → ¬ B → ¬ (A ⊎ B)
names_nothing h k (inl a) = h a
names_nothing h k (inr b) = k b

pub assumption_example : AssumptionExample
assumption_example = IsProofBy.proved begins (EndsBy.goes_on {step = Assumption} (assumed (algebra_of pure_content.declarations)) (EndsBy.finished ends)) (none_named (Assumption ∷ Done ∷ []) (λ l. names_nothing (λ h. h) (names_nothing (λ h. h) (λ h. h))))

pub closed_example : ClosedExample
closed_example = IsProofBy.proved begins (EndsBy.closed (closes (algebra_of pure_content.declarations)) (EndsBy.finished ends)) (none_named (Close ∷ Done ∷ []) (λ l. names_nothing (λ h. h) (names_nothing (λ h. h) (λ h. h))))

pub second_step_example : SecondStepExample
second_step_example = IsProofBy.failed begins (EndsBy.goes_on {step = Assumption} (assumed (algebra_of pure_content.declarations)) (EndsBy.refused {step = Assumption} (nothing_left (algebra_of pure_content.declarations))))

pub first_step_example : FirstStepExample
first_step_example = IsProofBy.failed begins (EndsBy.closed (closes (algebra_of pure_content.declarations)) (EndsBy.refused {step = Assumption} (nothing_left (algebra_of pure_content.declarations))))

pub left_example : LeftExample
left_example = IsProofBy.failed begins (EndsBy.unfinished (EndsAs.subgoals_left refl))

-- The premises of the law.
proposition : IsProposition pure_content trivial_statement
proposition = certified_of pure_content trivial_statement prop
    (imp-parts pure_content pure-below_itself premise premise (prop-certified pure_content pure-below_itself) (prop-certified pure_content pure-below_itself)) typed

other_typ : (x i k : ℕ) (s : List ℕ) (ts : Typs) → TVar x i s ≡ Con k ts → ⊥
other_typ x i k s ts e = cc

no_prop : (x i : ℕ) (s : List ℕ) → ¬ OccursInTyp (TVar x i s) prop
no_prop x i s (inl e) = other_typ x i 1 s none e
no_prop x i s (inr o) = o

no_arrow : (x i : ℕ) (s : List ℕ) (T U : Typ) → (¬ OccursInTyp (TVar x i s) T) → (¬ OccursInTyp (TVar x i s) U) → ¬ OccursInTyp (TVar x i s) (arrow T U)
no_arrow x i s T U h k (inl e) = other_typ x i 0 s (also T (also U none)) e
no_arrow x i s T U h k (inr (inl o)) = h o
no_arrow x i s T U h k (inr (inr (inl o))) = k o
no_arrow x i s T U h k (inr (inr (inr o))) = o

other_term : (x i y : ℕ) (T U : Typ) → Var x i T ≡ Free y U → ⊥
other_term x i y T U e = cc

other_constant : (x i c : ℕ) (T U : Typ) → Var x i T ≡ Const c U → ⊥
other_constant x i c T U e = cc

other_application : (x i : ℕ) (T : Typ) (f a : Term) → Var x i T ≡ App f a → ⊥
other_application x i T f a e = cc

without_schematic : HasNoSchematic trivial_statement
without_schematic = record {
  typs = λ x i s. names_nothing (names_nothing (no_arrow x i s prop (arrow prop prop) (no_prop x i s) (no_arrow x i s prop prop (no_prop x i s) (no_prop x i s))) (no_prop x i s)) (no_prop x i s);
  terms = λ x i T o. by x i T o;
}
  where
    by : (x i : ℕ) (T : Typ) → Occurs (Var x i T) trivial_statement → ⊥
    by x i T (inl e) = other_application x i T (App (Const imp_name imp_typ) premise) premise e
    by x i T (inr (inl (inl e))) = other_application x i T (Const imp_name imp_typ) premise e
    by x i T (inr (inl (inr (inl e)))) = other_constant x i imp_name T imp_typ e
    by x i T (inr (inl (inr (inr e)))) = other_term x i 0 T prop e
    by x i T (inr (inr e)) = other_term x i 0 T prop e

pub derivable_example : DerivableExample
derivable_example = (pure_is_unify_content, proposition, without_schematic, proved-derivable [] pure_content pure_is_unify_content trivial_statement without_schematic [] (Assumption ∷ Done ∷ []) assumption_example proposition)
