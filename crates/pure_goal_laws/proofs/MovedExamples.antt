-- A worked example: a step by a fact that rests on a promise, which moves another subgoal and a pair.
use Rattle.std.proofs.Common.{List, [], ◌∷◌, inl, inr, refl}
use Rattle.pure_text.specs.Lists.{IsIn}
use Rattle.pure_definitions.specs.Types.Typ.{prop}
use Rattle.pure_definitions.specs.Terms.Term.{Term, Var, App}
use Rattle.pure_definitions.specs.Declarations.Decl.{PromiseDecl}
use Rattle.pure_term_laws.specs.LawsMaps.{sent}
use Rattle.pure_logic.specs.Connectives.{imp, eq, protect}
use Rattle.pure_logic.specs.Content.{IsContent, IsProposition}
use Rattle.pure_logic.specs.PureContent.{pure_content, proposition_variable}
use Rattle.pure_logic.specs.Tree.{Promise}
use Rattle.pure_logic.specs.Concludes.{AreRespecting}
use Rattle.pure_logic.specs.Derivable.{Pair, IsDerivable}
use Rattle.pure_logic.specs.Proves.{Proves}
use Rattle.pure_logic.specs.Examples.Fulfilments.{by_command, trivial, promising}
use Rattle.pure_logic.proofs.AboveLaws.{certified_of-above}
use Rattle.pure_logic.proofs.EqualityLaws.{mark_means_nothing}
use Rattle.pure_logic.proofs.FulfilmentExamples.{above, fulfilled_example}
use Rattle.pure_logic.proofs.ConnectiveLaws.{certified_of}
use Rattle.pure_logic.proofs.MapLaws.{identity_respects, sent-respects}
use Rattle.pure_logic.proofs.PropositionLaws.{eq-proposition}
use Rattle.pure_logic.proofs.ProvesLaws.{derivable_is_proves, assumed, implication_is_proved, conclusion_is_proved, chain_is_proved, proved-derivable}
use Rattle.pure_equation_laws.specs.Equated.{AreEquated, same}
use Rattle.pure_equation_laws.specs.Laws.Proved.{IsCertifiedPair}
use Rattle.pure_goal_laws.specs.Prefix.{Hypothesis}
use Rattle.pure_goal_laws.specs.Lifting.{bare, supposed, lifted_behind}
use Rattle.pure_goal_laws.specs.GoalStep.{IsGoalStep, AreMatched, IsRuleFor, lifted_premises, IsEliminated}
use Rattle.pure_goal_laws.specs.Examples.Definitions.{a, b, any_b, any_f}
use Rattle.pure_goal_laws.specs.Examples.Proofs.{detachment}
use Rattle.pure_goal_laws.specs.Examples.Pairs.{claimed, goal_under_pair, promised_detachment, raised_a, raised_b, all_at_a_b, next_under_pair, MovedExample}
use Rattle.pure_goal_laws.proofs.EliminationLaws.{by_elimination}
use Rattle.pure_goal_laws.proofs.FactLaws.{rule-proved, elimination_step}
use Rattle.pure_goal_laws.proofs.StateLaws.{pair-equated}
use Rattle.pure_goal_laws.proofs.ExampleLaws.{prop_typ, imp-proposition, a-proposition, b-proposition}
use Rattle.pure_goal_laws.proofs.PairExamples.{applied-proposition}

is_content : IsContent promising
is_content = fulfilled_example.0

-- A proposition of Pure is one here.
there : (A : Term) → IsProposition pure_content A → IsProposition promising A
there A h = certified_of-above pure_content promising above A prop h

kept : (pairs : List Pair) (A : Term) → IsProposition pure_content A → AreEquated promising.declarations pairs [] prop A A
kept pairs A h = let h' = there A h in same (record { parts = h'.certified.parts; typed = h'.typed })

any_b-proposition : IsProposition pure_content any_b
any_b-proposition = certified_of pure_content any_b prop prop_typ refl

a_b-proposition : IsProposition pure_content (imp a b)
a_b-proposition = imp-proposition a b a-proposition b-proposition

goal_under_pair-derivable : IsDerivable promising goal_under_pair
goal_under_pair-derivable =
    let equation = eq prop (App any_f any_b) (App any_f a) in
    let first = imp (imp a b) any_b in
    let second = imp any_b a in
    let first_is = there first (imp-proposition (imp a b) any_b a_b-proposition any_b-proposition) in
    let second_is = there second (imp-proposition any_b a any_b-proposition a-proposition) in
    let whole = there claimed (imp-proposition (imp a b) a a_b-proposition a-proposition) in
    let hyps = first ∷ second ∷ equation ∷ [] in
    let more = imp a b ∷ hyps in
    let rests = by_command 1 ∷ [] in
    let on_the_way = conclusion_is_proved promising more rests (imp a b) any_b (assumed promising more rests first first_is (inr (inl refl))) (assumed promising more rests (imp a b) (there (imp a b) a_b-proposition) (inl refl)) in
    let at_end = conclusion_is_proved promising more rests any_b a (assumed promising more rests second second_is (inr (inr (inl refl)))) on_the_way in
    let concluded = implication_is_proved promising hyps rests (imp a b) a (there (imp a b) a_b-proposition) at_end in
    proved-derivable promising is_content above goal_under_pair (record {
      equations = equation ∷ [];
      are_equations = ((prop, (prop, refl, refl), refl), tt);
      propositions = (eq-proposition promising above prop (App any_f any_b) (App any_f a) (there (App any_f any_b) (applied-proposition any_b any_b-proposition)) (there (App any_f a) (applied-proposition a a-proposition)), tt);
      proves = chain_is_proved promising (first ∷ second ∷ []) (equation ∷ []) rests (protect claimed) (first_is, (second_is, tt)) ((mark_means_nothing promising is_content above hyps rests claimed whole).1 concluded);
    })

low-proposition : IsProposition pure_content (imp (Var 10 0 prop) (Var 11 0 prop))
low-proposition = imp-proposition (Var 10 0 prop) (Var 11 0 prop) (certified_of pure_content (Var 10 0 prop) prop prop_typ refl) (certified_of pure_content (Var 11 0 prop) prop prop_typ refl)

-- The fact is the promise at an instance.
promised_detachment-derivable : IsDerivable promising promised_detachment
promised_detachment-derivable =
    let detached = imp (Var 10 0 prop) (Var 11 0 prop) in
    let terms = sent (proposition_variable 0) detached (λ t. t) in
    let respects = sent-respects promising (λ T. T) (λ t. t) (proposition_variable 0) detached (identity_respects promising) (there detached low-proposition) in
    let declared : IsIn (PromiseDecl 52 (by_command 2) trivial) promising.declarations = inr (inr (inr (inr (inr (inr (inr (inr (inl refl)))))))) in
    let proved : Proves promising [] (by_command 2 ∷ []) detachment.prop = record { tree = Promise (by_command 2) (λ T. T) terms; concludes = (52, trivial, declared, respects, refl); from = tt; rest_on = (inl refl, tt) } in
    (derivable_is_proves promising [] (by_command 2 ∷ []) detachment.prop).1 proved

promised_detachment-used : IsRuleFor promising next_under_pair promised_detachment 2 (imp raised_a raised_b ∷ raised_a ∷ []) raised_b
promised_detachment-used = record {
  used = record { no_hyps = refl; no_pairs = refl; rests = λ l m. elim m [ inl e ↦ inl e | inr n ↦ absurd n ] };
  form = detachment.prop;
  is_form = kept [] detachment.prop (imp-proposition (imp (Var 10 0 prop) (Var 11 0 prop)) (imp (Var 10 0 prop) (Var 11 0 prop)) low-proposition low-proposition);
  stripped = supposed (imp raised_a raised_b) (imp raised_a raised_b) (raised_a ∷ []) raised_b (supposed raised_a raised_b [] raised_b (bare raised_b));
}

all_at_a_b-respects : AreRespecting promising (λ T. T) all_at_a_b
all_at_a_b-respects =
    let goal_variable = sent-respects promising (λ T. T) (λ t. t) any_b b (identity_respects promising) (there b b-proposition) in
    let second = sent-respects promising (λ T. T) (sent any_b b (λ t. t)) raised_b b goal_variable (there b b-proposition) in
    sent-respects promising (λ T. T) (sent raised_b b (sent any_b b (λ t. t))) raised_a a second (there a a-proposition)

moved_step : IsGoalStep promising goal_under_pair next_under_pair (imp (imp a b) any_b) (imp any_b a ∷ []) (protect claimed) (lifted_premises (λ T. T) all_at_a_b [] (raised_a ∷ [])) (λ T. T) all_at_a_b
moved_step =
    let p : Pair = record { left = App any_f b; right = App any_f a } in
    let certified : IsCertifiedPair promising p = (prop, there (App any_f b) (applied-proposition b b-proposition), there (App any_f a) (applied-proposition a a-proposition)) in
    record {
      goal_hyps = refl;
      goal_prop = refl;
      respecting = all_at_a_b-respects;
      pairs = (pair-equated promising is_content above next_under_pair.pairs p (inl refl) certified, tt);
      new_pairs = (certified, tt);
      subgoals = a ∷ imp b a ∷ [];
      are_subgoals = (kept next_under_pair.pairs a a-proposition, (kept next_under_pair.pairs (imp b a) (imp-proposition b a b-proposition a-proposition), tt));
      new_hyps = refl;
      new_prop = refl;
      rests = λ l m. inr m;
    }

pub moved_example : MovedExample
moved_example =
    let H = imp a b in
    let P = imp raised_a raised_b in
    let As = raised_a ∷ [] in
    let eliminated : IsEliminated promising next_under_pair (λ T. T) all_at_a_b [] H [] P = (prop, kept next_under_pair.pairs H a_b-proposition) in
    let matched : AreMatched promising next_under_pair (λ T. T) all_at_a_b (Hypothesis H ∷ []) (lifted_behind (Hypothesis H ∷ []) raised_b) any_b = (prop, kept next_under_pair.pairs b b-proposition) in
    let subgoal = there (imp H any_b) (imp-proposition H any_b a_b-proposition any_b-proposition) in
    let used = rule-proved promising is_content above next_under_pair promised_detachment 2 (P ∷ As) raised_b promised_detachment-used promised_detachment-derivable in
    record {
      start = goal_under_pair-derivable;
      fact = promised_detachment-derivable;
      is_rule = promised_detachment-used;
      eliminated = eliminated;
      matched = matched;
      premises = refl;
      justified = by_elimination promising is_content above next_under_pair (λ T. T) all_at_a_b all_at_a_b-respects [] H [] any_b subgoal P As raised_b used eliminated matched;
      elimination = moved_step;
      next = elimination_step promising is_content above goal_under_pair next_under_pair (imp any_b a ∷ []) (protect claimed) (λ T. T) all_at_a_b [] H [] any_b promised_detachment 2 P As raised_b moved_step promised_detachment-used eliminated matched goal_under_pair-derivable promised_detachment-derivable;
    }
