-- Each step has one outcome at most.
use Rattle.std.proofs.Common.{◌≡◌, ◌⊎◌, ℕ, ◌+◌, ◌<◌, List, [], ◌∷◌, ◌++◌, map, length, length-append, inl, inr, refl, ap, sym, subst, ◌∙◌, arith}
use Rattle.pure_definitions.specs.Types.Typ.{prop}
use Rattle.pure_definitions.specs.Types.Order.{Algebra}
use Rattle.pure_definitions.specs.Terms.Term.{Term}
use Rattle.pure_logic.specs.Connectives.{eq}
use Rattle.pure_logic.specs.Derivable.{Theorem}
use Rattle.pure_order_tables.specs.Classes.{IsAntisymmetric}
use Rattle.pure_unify_laws.proofs.OneStep.{placed-once}
use Rattle.pure_goal_laws.specs.Prefix.{Item}
use Rattle.pure_goal_steps.specs.State.{State, greatest_index}
use Rattle.pure_goal_steps.specs.Reading.{places, IsRead, rule_maxidx}
use Rattle.pure_goal_steps.specs.Follows.{Outcome, Becomes, Attempt, FollowsBy, FollowsByFirst}
use Rattle.pure_goal_steps.specs.Steps.{IsFirst, indexed, rule_attempt, elimination_attempt, destruction_attempt, assumption_attempt, RuleStep, EliminationStep, DestructionStep, AssumptionStep, PreferStep, DeferStep, ConversionStep}
use Rattle.pure_goal_steps.proofs.ReadLaws.{read_once, one_rule}
use Rattle.pure_goal_steps.proofs.FollowsLaws.{becomes-once, followed-once, first-once}

pub no-first : (A : Term) (As Bs : List Term) → Bs ≡ [] → Bs ≡ A ∷ As → ⊥
no-first A As Bs e f = absurd (cc)

record AreOne (ps qs : List Item) (C D : Term) (others rest : List Term) : Type 0 where
  prefixes : ps ≡ qs
  conclusions : C ≡ D
  same : others ≡ rest

first_same : (s : State) (ps qs : List Item) (C D : Term) (others rest : List Term) → IsFirst s ps C others → IsFirst s qs D rest → AreOne ps qs C D others rest
first_same s ps qs C D others rest f g =
    let stands : f.subgoal ∷ others ≡ g.subgoal ∷ rest = sym f.stand ∙ g.stand in
    let subgoals : f.subgoal ≡ g.subgoal = cc in
    let read = read_once f.subgoal ps qs C D f.read (subst (λ (A : Term). IsRead A qs D) (sym subgoals) g.read) in
    record { prefixes = read.0; conclusions = read.1; same = cc }

moved : (A : Algebra) (maxidx : ℕ) (s : State) (others rest : List Term) (a b : Attempt) (outcome : Outcome) → others ≡ rest → a ≡ b → FollowsBy A maxidx s rest b outcome → FollowsBy A maxidx s others a outcome
moved A maxidx s others rest a b outcome e d f =
    let there : FollowsBy A maxidx s others b outcome = subst (λ (os : List Term). FollowsBy A maxidx s os b outcome) (sym e) f in
    subst (λ (c : Attempt). FollowsBy A maxidx s others c outcome) (sym d) there

moved-first : (A : Algebra) (maxidx : ℕ) (s : State) (others rest : List Term) (firsts seconds : List Attempt) (outcome : Outcome) → others ≡ rest → firsts ≡ seconds → FollowsByFirst A maxidx s rest seconds outcome → FollowsByFirst A maxidx s others firsts outcome
moved-first A maxidx s others rest firsts seconds outcome e d f =
    let there : FollowsByFirst A maxidx s others seconds outcome = subst (λ (os : List Term). FollowsByFirst A maxidx s os seconds outcome) (sym e) f in
    subst (λ (cs : List Attempt). FollowsByFirst A maxidx s others cs outcome) (sym d) there

moved-made : (made new : State) (outcome : Outcome) → made ≡ new → Becomes new outcome → Becomes made outcome
moved-made made new outcome e f = subst (λ (m : State). Becomes m outcome) (sym e) f

premises-same : (P Q : Term) (As Bs : List Term) → P ∷ As ≡ Q ∷ Bs → (P ≡ Q) × (As ≡ Bs)
premises-same P Q As Bs e = (cc, cc)

pub some-not-none : (P : Term) (As Bs : List Term) → Bs ≡ P ∷ As → Bs ≡ [] → ⊥
some-not-none P As Bs e f = absurd (cc)

pub rule_once : (A : Algebra) → IsAntisymmetric A → (s : State) (fact : Theorem) (one other : Outcome) → RuleStep A s fact one → RuleStep A s fact other → one ≡ other
rule_once A anti s fact one other (RuleStep.no_subgoal e) (RuleStep.no_subgoal d) = refl
rule_once A anti s fact one other (RuleStep.no_subgoal e) (RuleStep.tried {others = rest} g q k) = absurd (no-first g.subgoal rest s.subgoals e g.stand)
rule_once A anti s fact one other (RuleStep.tried {others = others} f r h) (RuleStep.no_subgoal d) = absurd (no-first f.subgoal others s.subgoals d f.stand)
rule_once A anti s fact one other (RuleStep.tried {ps = ps} {C = C} {others = others} {As = As} {B = B} f r h) (RuleStep.tried {ps = qs} {C = D} {others = rest} {As = Bs} {B = E} g q k) =
    let same = first_same s ps qs C D others rest f g in
    let rules = one_rule (indexed s) fact As Bs B E r q in
    let attempts : rule_attempt ps C As B ≡ rule_attempt qs D Bs E = λ i. rule_attempt (same.prefixes i) (same.conclusions i) (rules.0 i) (rules.1 i) in
    let m : ℕ = rule_maxidx (indexed s) fact in
    followed-once A anti m s others (rule_attempt ps C As B) one other h (moved A m s others rest (rule_attempt ps C As B) (rule_attempt qs D Bs E) other same.same attempts k)

pub elimination_once : (A : Algebra) → IsAntisymmetric A → (s : State) (fact : Theorem) (one other : Outcome) → EliminationStep A s fact one → EliminationStep A s fact other → one ≡ other
elimination_once A anti s fact one other (EliminationStep.no_subgoal e) (EliminationStep.no_subgoal d) = refl
elimination_once A anti s fact one other (EliminationStep.no_subgoal e) (EliminationStep.no_premise {others = rest} g q) = absurd (no-first g.subgoal rest s.subgoals e g.stand)
elimination_once A anti s fact one other (EliminationStep.no_subgoal e) (EliminationStep.tried {others = rest} g q k) = absurd (no-first g.subgoal rest s.subgoals e g.stand)
elimination_once A anti s fact one other (EliminationStep.no_premise {others = others} f r) (EliminationStep.no_subgoal d) = absurd (no-first f.subgoal others s.subgoals d f.stand)
elimination_once A anti s fact one other (EliminationStep.no_premise f r) (EliminationStep.no_premise g q) = refl
elimination_once A anti s fact one other (EliminationStep.no_premise {B = B} f r) (EliminationStep.tried {P = Q} {As = Bs} {B = E} g q k) = absurd (some-not-none Q Bs (Q ∷ Bs) refl (sym (one_rule (indexed s) fact [] (Q ∷ Bs) B E r q).0))
elimination_once A anti s fact one other (EliminationStep.tried {others = others} f r h) (EliminationStep.no_subgoal d) = absurd (no-first f.subgoal others s.subgoals d f.stand)
elimination_once A anti s fact one other (EliminationStep.tried {P = P} {As = As} {B = B} f r h) (EliminationStep.no_premise {B = E} g q) = absurd (some-not-none P As (P ∷ As) refl (one_rule (indexed s) fact (P ∷ As) [] B E r q).0)
elimination_once A anti s fact one other (EliminationStep.tried {ps = ps} {C = C} {others = others} {P = P} {As = As} {B = B} f r h) (EliminationStep.tried {ps = qs} {C = D} {others = rest} {P = Q} {As = Bs} {B = E} g q k) =
    let same = first_same s ps qs C D others rest f g in
    let rules = one_rule (indexed s) fact (P ∷ As) (Q ∷ Bs) B E r q in
    let premises = premises-same P Q As Bs rules.0 in
    let firsts : List Attempt = map (elimination_attempt C P As B) (places [] ps) in
    let seconds : List Attempt = map (elimination_attempt D Q Bs E) (places [] qs) in
    let attempts : firsts ≡ seconds = λ i. map (elimination_attempt (same.conclusions i) (premises.0 i) (premises.1 i) (rules.1 i)) (places [] (same.prefixes i)) in
    let m : ℕ = rule_maxidx (indexed s) fact in
    first-once A anti m s others firsts one other h (moved-first A m s others rest firsts seconds other same.same attempts k)

pub destruction_once : (A : Algebra) → IsAntisymmetric A → (s : State) (fact : Theorem) (one other : Outcome) → DestructionStep A s fact one → DestructionStep A s fact other → one ≡ other
destruction_once A anti s fact one other (DestructionStep.no_subgoal e) (DestructionStep.no_subgoal d) = refl
destruction_once A anti s fact one other (DestructionStep.no_subgoal e) (DestructionStep.no_premise {others = rest} g q) = absurd (no-first g.subgoal rest s.subgoals e g.stand)
destruction_once A anti s fact one other (DestructionStep.no_subgoal e) (DestructionStep.tried {others = rest} g q k) = absurd (no-first g.subgoal rest s.subgoals e g.stand)
destruction_once A anti s fact one other (DestructionStep.no_premise {others = others} f r) (DestructionStep.no_subgoal d) = absurd (no-first f.subgoal others s.subgoals d f.stand)
destruction_once A anti s fact one other (DestructionStep.no_premise f r) (DestructionStep.no_premise g q) = refl
destruction_once A anti s fact one other (DestructionStep.no_premise {B = B} f r) (DestructionStep.tried {P = Q} {As = Bs} {B = E} g q k) = absurd (some-not-none Q Bs (Q ∷ Bs) refl (sym (one_rule (indexed s) fact [] (Q ∷ Bs) B E r q).0))
destruction_once A anti s fact one other (DestructionStep.tried {others = others} f r h) (DestructionStep.no_subgoal d) = absurd (no-first f.subgoal others s.subgoals d f.stand)
destruction_once A anti s fact one other (DestructionStep.tried {P = P} {As = As} {B = B} f r h) (DestructionStep.no_premise {B = E} g q) = absurd (some-not-none P As (P ∷ As) refl (one_rule (indexed s) fact (P ∷ As) [] B E r q).0)
destruction_once A anti s fact one other (DestructionStep.tried {ps = ps} {C = C} {others = others} {P = P} {As = As} {B = B} f r h) (DestructionStep.tried {ps = qs} {C = D} {others = rest} {P = Q} {As = Bs} {B = E} g q k) =
    let same = first_same s ps qs C D others rest f g in
    let rules = one_rule (indexed s) fact (P ∷ As) (Q ∷ Bs) B E r q in
    let premises = premises-same P Q As Bs rules.0 in
    let firsts : List Attempt = map (destruction_attempt C P As B) (places [] ps) in
    let seconds : List Attempt = map (destruction_attempt D Q Bs E) (places [] qs) in
    let attempts : firsts ≡ seconds = λ i. map (destruction_attempt (same.conclusions i) (premises.0 i) (premises.1 i) (rules.1 i)) (places [] (same.prefixes i)) in
    let m : ℕ = rule_maxidx (indexed s) fact in
    first-once A anti m s others firsts one other h (moved-first A m s others rest firsts seconds other same.same attempts k)

pub assumption_once : (A : Algebra) → IsAntisymmetric A → (s : State) (one other : Outcome) → AssumptionStep A s one → AssumptionStep A s other → one ≡ other
assumption_once A anti s one other (AssumptionStep.no_subgoal e) (AssumptionStep.no_subgoal d) = refl
assumption_once A anti s one other (AssumptionStep.no_subgoal e) (AssumptionStep.tried {others = rest} g k) = absurd (no-first g.subgoal rest s.subgoals e g.stand)
assumption_once A anti s one other (AssumptionStep.tried {others = others} f h) (AssumptionStep.no_subgoal d) = absurd (no-first f.subgoal others s.subgoals d f.stand)
assumption_once A anti s one other (AssumptionStep.tried {ps = ps} {C = C} {others = others} f h) (AssumptionStep.tried {ps = qs} {C = D} {others = rest} g k) =
    let same = first_same s ps qs C D others rest f g in
    let firsts : List Attempt = map (assumption_attempt C) (places [] ps) in
    let seconds : List Attempt = map (assumption_attempt D) (places [] qs) in
    let attempts : firsts ≡ seconds = λ i. map (assumption_attempt (same.conclusions i)) (places [] (same.prefixes i)) in
    let m : ℕ = greatest_index (indexed s) in
    first-once A anti m s others firsts one other h (moved-first A m s others rest firsts seconds other same.same attempts k)

not-counted : (n : ℕ) (before after Bs : List Term) (A : Term) → Bs ≡ before ++ A ∷ after → n ≡ length before + 1 → (n ≡ 0) ⊎ (length Bs < n) → ⊥
not-counted n before after Bs A e d (inl z) = absurd (omega arith)
not-counted n before after Bs A e d (inr l) =
    let long : length Bs ≡ length before + length (A ∷ after) = ap length e ∙ length-append before (A ∷ after) in
    absurd (omega arith)

pub prefer_once : (s : State) (n : ℕ) (one other : Outcome) → PreferStep s n one → PreferStep s n other → one ≡ other
prefer_once s n one other (PreferStep.no_subgoal e) (PreferStep.no_subgoal d) = refl
prefer_once s n one other (PreferStep.no_subgoal e) (PreferStep.preferred before A after f c h) = absurd (not-counted n before after s.subgoals A f c e)
prefer_once s n one other (PreferStep.preferred before A after f c h) (PreferStep.no_subgoal d) = absurd (not-counted n before after s.subgoals A f c d)
prefer_once s n one other (PreferStep.preferred xs A us f c h) (PreferStep.preferred ys B ws g d k) =
    let counts : length xs ≡ length ys = omega arith in
    let same = placed-once xs ys A B us ws (sym f ∙ g) counts in
    let made : State = record s { subgoals = A ∷ (xs ++ us) } in
    becomes-once made one other h (moved-made made (record s { subgoals = B ∷ (ys ++ ws) }) other (λ i. record s { subgoals = same.1.0 i ∷ (same.0 i ++ same.1.1 i) }) k)

heads-same : (A B : Term) (As Bs Cs : List Term) → Cs ≡ A ∷ As → Cs ≡ B ∷ Bs → (A ≡ B) × (As ≡ Bs)
heads-same A B As Bs Cs e d = premises-same A B As Bs (sym e ∙ d)

pub defer_once : (s : State) (one other : Outcome) → DeferStep s one → DeferStep s other → one ≡ other
defer_once s one other (DeferStep.no_subgoal e) (DeferStep.no_subgoal d) = refl
defer_once s one other (DeferStep.no_subgoal e) (DeferStep.deferred A others f h) = absurd (no-first A others s.subgoals e f)
defer_once s one other (DeferStep.deferred A others f h) (DeferStep.no_subgoal d) = absurd (no-first A others s.subgoals d f)
defer_once s one other (DeferStep.deferred A others f h) (DeferStep.deferred B rest g k) =
    let same = heads-same A B others rest s.subgoals f g in
    let made : State = record s { subgoals = others ++ A ∷ [] } in
    becomes-once made one other h (moved-made made (record s { subgoals = rest ++ B ∷ [] }) other (λ i. record s { subgoals = same.1 i ++ same.0 i ∷ [] }) k)

sides-same : (A B C D : Term) → eq prop A B ≡ eq prop C D → (A ≡ C) × (B ≡ D)
sides-same A B C D e = (cc, cc)

pub conversion_once : (s : State) (equation : Theorem) (one other : Outcome) → ConversionStep s equation one → ConversionStep s equation other → one ≡ other
conversion_once s equation one other f g =
    let stand = heads-same f.left g.left f.others g.others s.subgoals f.stand g.stand in
    let sides = sides-same f.left f.right g.left g.right (sym f.equates ∙ g.equates) in
    let made : State = record s { subgoals = f.right ∷ f.others } in
    becomes-once made one other f.becomes (moved-made made (record s { subgoals = g.right ∷ g.others }) other (λ i. record s { subgoals = sides.1 i ∷ stand.1 i }) g.becomes)
