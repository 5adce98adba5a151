-- Attempts are those of the definitions.
use Rattle.std.proofs.Common.{◌≡◌, List, [], ◌∷◌, ◌++◌, map, Result, IfOk, refl, ap, sym, ◌∙◌}
use Rattle.pure_definitions.specs.Types.Typ.{Typ}
use Rattle.pure_definitions.specs.Terms.Term.{Term}
use Rattle.pure_logic.specs.Connectives.{imp}
use Rattle.pure_logic.specs.Derivable.{Pair}
use Rattle.pure_goal_laws.specs.Prefix.{Item, Hypothesis, behind, parameters}
use Rattle.pure_goal_laws.specs.Lifting.{lifted_under, lifted_behind}
use Rattle.pure_goal_laws.proofs.PrefixLaws.{behind-append, parameters-without}
use Rattle.pure_goal_laws.specs.GoalStep.{closed_pair}
use Rattle.pure_goal_steps.specs.Reading.{Place, around, without, standing}
use Rattle.pure_goal_steps.specs.Steps.{premises_behind, elimination_attempt, destruction_attempt}
use Rattle.pure_goal_rules.specs.Attempts.{premise_at}
use Rattle.pure_goal_rules.proofs.RuleLaws.{ok_map}

-- Lifted over a prefix or over it without a hypothesis: the parameters are the same.
pub lifted-without : (ps before after : List Item) (H : Term) → ps ≡ before ++ Hypothesis H ∷ after → (A : Term) → lifted_behind ps A ≡ lifted_behind (before ++ after) A
lifted-without ps before after H e A = ap (λ (Ts : List Typ). lifted_under Ts 0 A) (ap parameters e ∙ parameters-without before after H)

pub premises-without : (ps before after : List Item) (H : Term) → ps ≡ before ++ Hypothesis H ∷ after → (As : List Term) → map (premise_at ps before after) As ≡ premises_behind (before ++ after) As
premises-without ps before after H e [] = refl
premises-without ps before after H e (A ∷ As) =
    let first : premise_at ps before after A ≡ behind (before ++ after) (lifted_behind (before ++ after) A) =
    ap (λ (X : Term). behind before (behind after X)) (lifted-without ps before after H e A) ∙ sym (behind-append before after (lifted_behind (before ++ after) A)) in
    λ i. first i ∷ premises-without ps before after H e As i

pub destructed-is : (ps before after : List Item) (H B C : Term) → ps ≡ before ++ Hypothesis H ∷ after
    → behind before (behind after (imp (lifted_behind ps B) C)) ≡ behind ((before ++ after) ++ Hypothesis (lifted_behind (before ++ after) B) ∷ []) C
destructed-is ps before after H B C e =
    ap (λ (X : Term). behind before (behind after (imp X C))) (lifted-without ps before after H e B)
    ∙ (sym (behind-append before after (imp (lifted_behind (before ++ after) B) C)) ∙ sym (behind-append (before ++ after) (Hypothesis (lifted_behind (before ++ after) B) ∷ []) C))

pub destructed_along : {E : Type 0} (ps before after : List Item) (H B C : Term) → ps ≡ before ++ Hypothesis H ∷ after → (own lifted last inside : Term) → own ≡ C → lifted ≡ lifted_behind ps B → last ≡ imp lifted own → inside ≡ behind after last
    → (r : Result Term E) → IfOk r (λ u. u ≡ behind before inside) → IfOk r (λ u. u ≡ behind ((before ++ after) ++ Hypothesis (lifted_behind (before ++ after) B) ∷ []) C)
destructed_along ps before after H B C e own lifted last inside o l m i r h =
    let is : behind before inside ≡ behind ((before ++ after) ++ Hypothesis (lifted_behind (before ++ after) B) ∷ []) C =
    ap (behind before) (i ∙ ap (behind after) (m ∙ (λ j. imp (l j) (o j)))) ∙ destructed-is ps before after H B C e in
    ok_map (λ (u : Term). u ≡ behind before inside) (λ (u : Term). u ≡ behind ((before ++ after) ++ Hypothesis (lifted_behind (before ++ after) B) ∷ []) C) (λ u f. f ∙ is) r h

-- The pairs and the new subgoals, from their parts.
pub elimination_are : (ps : List Item) (p : Place) → ps ≡ around p → (C P : Term) (As : List Term) (B own : Term) (pair other : Pair) (pairs all : List Pair) → own ≡ C → pair ≡ closed_pair ps (lifted_behind ps B) own → pairs ≡ pair ∷ []
    → other ≡ closed_pair ps (lifted_behind ps P) (standing p) → all ≡ pairs ++ other ∷ [] → all ≡ (elimination_attempt C P As B p).matched
elimination_are ps p stands C P As B own pair other pairs all o e l f m =
    let matched : all ≡ closed_pair ps (lifted_behind ps B) C ∷ closed_pair ps (lifted_behind ps P) (standing p) ∷ [] =
    m ∙ ((λ i. l i ++ f i ∷ []) ∙ ap (λ (q : Pair). q ∷ closed_pair ps (lifted_behind ps P) (standing p) ∷ []) (e ∙ ap (closed_pair ps (lifted_behind ps B)) o)) in
    matched ∙ ap (λ (qs : List Item). closed_pair qs (lifted_behind qs B) C ∷ closed_pair qs (lifted_behind qs P) (standing p) ∷ []) stands

pub premises_left : (ps : List Item) (p : Place) → ps ≡ around p → (As premises : List Term) → premises ≡ map (premise_at ps p.before p.after) As → premises ≡ premises_behind (without p) As
premises_left ps p stands As premises d = d ∙ premises-without ps p.before p.after p.hypothesis stands As

pub destruction_leaves : (ps : List Item) (p : Place) → ps ≡ around p → (C P : Term) (As : List Term) (B : Term) (premises all : List Term) (last : Term)
    → premises ≡ map (premise_at ps p.before p.after) As → last ≡ behind (without p ++ Hypothesis (lifted_behind (without p) B) ∷ []) C → all ≡ premises ++ last ∷ [] → all ≡ (destruction_attempt C P As B p).premises
destruction_leaves ps p stands C P As B premises all last d f m = m ∙ (λ i. premises_left ps p stands As premises d i ++ f i ∷ [])
