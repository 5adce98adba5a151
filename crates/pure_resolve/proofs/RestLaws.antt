-- A unifier that leaves the rest of a goal as it is.
use Rattle.std.proofs.Common.{◌≡◌, ◌≢◌, ℕ, ◌+◌, List, [], ◌∷◌, ◌++◌, map, length, Option, Some, None, IfSome, Result, Ok, Err, IfOk, refl, ap, sym, subst, ◌∙◌, arith, append_assoc}
use Rattle.std.proofs.lemmas.List.{map-append}
use Rattle.std.specs.Option.{SomeIff}
use Rattle.pure_text.specs.Lists.{Each}
use Rattle.pure_text.proofs.ListLaws.{each-left, each-right}
use Rattle.pure_definitions.specs.Names.{Label}
use Rattle.pure_definitions.specs.Terms.Term.{Term}
use Rattle.pure_definitions.specs.Terms.Subst.{TypBind, TermBind}
use Rattle.pure_definitions.specs.Reduction.Eta.{IsLongForm}
use Rattle.pure_logic.specs.Connectives.{imp, protect, chain}
use Rattle.pure_logic.specs.Derivable.{Pair, Theorem}
use Rattle.pure_logic.specs.Laws.Maps.{instantiated}
use Rattle.pure_theorem.specs.Shapes.{IsNoImplication}
use Rattle.pure_goal_laws.proofs.EliminationLaws.{chain-append}
use Rattle.pure_unify.specs.declared.unifier.Unifier.{Unifier}
use Rattle.pure_unify.specs.Unified.{seen, IsLeftOver}
use Rattle.pure_goal_steps.specs.State.{State, IsTheoremOf, IsLeftPair}
use Rattle.pure_goal_steps.specs.Follows.{AllLong, Come, Becomes, Attempt, with_unifier}
use Rattle.pure_goal_steps.specs.declared.fault.StepFault.{StepFault}
use Rattle.pure_goal_steps.proofs.SoundLaws.{all-long}
use Rattle.pure_resolve.specs.Goals.{IsConcluded, IsOutcome}
use Rattle.pure_resolve.specs.Settled.{IsComeAnswer, HasFirst, StaysBehind, HasLongFront, IsBefore}
use Rattle.pure_resolve.specs.declared.state.Goal.{Goal}
use Rattle.pure_resolve.proofs.ChainLaws.{IsPremise, imp-premise, marks-same}
use Rattle.pure_resolve.proofs.AnswerLaws.{made_outcome}
use Rattle.pure_resolve.proofs.StepLaws.{concluded-at}
use Rattle.pure_resolve.proofs.SettleLaws.{stopped_before}
use Rattle.pure_resolve.proofs.FollowLaws.{left-pairs, same-state, behind_first, come_stopped}

-- Where a goal's proposition stays as it is, so does each of its parts.
parts-stay : (typs : List TypBind) (terms : List TermBind) (As : List Term) (C : Term) → instantiated typs terms (chain As (protect C)) ≡ chain As (protect C) → (map (instantiated typs terms) As ≡ As) × (instantiated typs terms C ≡ C)
parts-stay typs terms [] C e = (refl, marks-same (instantiated typs terms C) C e)
parts-stay typs terms (A ∷ As) C e =
    let parts = imp-premise (instantiated typs terms A) (instantiated typs terms (chain As (protect C))) A (chain As (protect C)) e in
    let rest = parts-stay typs terms As C parts.1 in
    (λ i. sym parts.0 i ∷ rest.0 i, rest.1)

-- Where the count of subgoals in front is none, all are behind.
all-behind : (typs : List TypBind) (terms : List TermBind) (As : List Term) (C : Term) → instantiated typs terms (chain As (protect C)) ≡ chain As (protect C) → StaysBehind typs terms 0 As C
all-behind typs terms As C e = record { front = []; others = As; stand = refl; counted = refl; stays = e }

pub all_behind : (typs : List TypBind) (terms : List TermBind) (n : ℕ) (t : Term) (As : List Term) (C : Term) → n ≡ 0 → t ≡ chain As (protect C) → instantiated typs terms t ≡ t → StaysBehind typs terms n As C
all_behind typs terms n t As C none e stays =
    subst (λ (m : ℕ). StaysBehind typs terms m As C) (sym none) (all-behind typs terms As C (ap (instantiated typs terms) (sym e) ∙ (stays ∙ e)))

none-front : (front others As : List Term) → 0 ≡ length front → As ≡ front ++ others → As ≡ others
none-front [] others As e stand = stand
none-front (A ∷ front) others As e stand = absurd (omega (arith, e))

-- One subgoal more, which stays, or is put in front.
pub stays_more : (typs : List TypBind) (terms : List TermBind) (n : ℕ) (t A B : Term) (As : List Term) (C : Term) (p : IsPremise A B As C) → n ≡ 0 → StaysBehind typs terms n p.rest C → instantiated typs terms A ≡ A → StaysBehind typs terms 0 As C
stays_more typs terms n t A B As C p none behind stays =
    let same = none-front behind.front behind.others p.rest (sym none ∙ behind.counted) behind.stand in
    let rest : instantiated typs terms (chain p.rest (protect C)) ≡ chain p.rest (protect C) = subst (λ (Bs : List Term). instantiated typs terms (chain Bs (protect C)) ≡ chain Bs (protect C)) (sym same) behind.stays in
    subst (λ (Bs : List Term). StaysBehind typs terms 0 Bs C) (sym p.is) (all-behind typs terms (A ∷ p.rest) C (λ i. imp (stays i) (rest i)))

front-more : (typs : List TypBind) (terms : List TermBind) (n m : ℕ) (A B : Term) (As : List Term) (C : Term) (p : IsPremise A B As C) → m ≡ n + 1 → StaysBehind typs terms n p.rest C → StaysBehind typs terms m As C
front-more typs terms n m A B As C p more behind = record {
  front = A ∷ behind.front;
  others = behind.others;
  stand = p.is ∙ ap (λ (Bs : List Term). A ∷ Bs) behind.stand;
  counted = omega (arith, more, behind.counted);
  stays = behind.stays;
}

pub front_counted : (P : Type 0) (typs : List TypBind) (terms : List TermBind) (counted : Option ℕ) (n : ℕ) (A B : Term) (As : List Term) (C : Term) (p : IsPremise A B As C) → SomeIff counted P (n + 1) → StaysBehind typs terms n p.rest C
    → IfSome counted (λ m. StaysBehind typs terms m As C)
front_counted P typs terms (Some m) n A B As C p more behind = front-more typs terms n m A B As C p more.1 behind
front_counted P typs terms None n A B As C p more behind = tt

-- The first subgoals are taken from the rest of a goal.
pub front_stops : (rest : Term) (front others : List Term) (C : Term) (count : ℕ) → IsNoImplication rest → rest ≡ chain (front ++ others) (protect C) → count ≡ length front → count ≢ 0 → ⊥
front_stops rest [] others C count none e n some = some n
front_stops rest (A ∷ front) others C count none e n some = none A (chain (front ++ others) (protect C)) e

-- The first of them, and those behind it.
pub record IsFirstOf (A B : Term) (front others : List Term) (C : Term) : Type 0 where
  pub rest : List Term
  pub is : front ≡ A ∷ rest
  pub chained : B ≡ chain (rest ++ others) (protect C)

pub first_of : (t A B : Term) (front others : List Term) (C : Term) (count : ℕ) → t ≡ imp A B → t ≡ chain (front ++ others) (protect C) → count ≡ length front → count ≢ 0 → IsFirstOf A B front others C
first_of t A B [] others C count e stand n some = absurd (some n)
first_of t A B (D ∷ front) others C count e stand n some =
    let parts = imp-premise A B D (chain (front ++ others) (protect C)) (sym e ∙ stand) in
    record { rest = front; is = ap (λ (E : Term). E ∷ front) parts.0; chained = parts.1 }

pub front_taken : {X E : Type 0} (P : X → Type 0) (news items mid : List Term) (A B copy : Term) (front others : List Term) (C : Term) (f : IsFirstOf A B front others C) (r : Result X E) → mid ≡ items ++ copy ∷ [] → copy ≡ A
    → IfOk r (λ u. (news ≡ mid ++ f.rest) × P u) → IfOk r (λ u. (news ≡ items ++ front) × P u)
front_taken P news items mid A B copy front others C f (Ok u) e d h =
    (h.0 ∙ (ap (λ (xs : List Term). xs ++ f.rest) e ∙ (append_assoc items (copy ∷ []) f.rest ∙ ap (λ (xs : List Term). items ++ xs) (ap (λ (D : Term). D ∷ f.rest) d ∙ sym f.is))), h.1)
front_taken P news items mid A B copy front others C f (Err fault) e d h = tt

-- The front of the rest of a goal, of which each subgoal is in long form.
pub long_front : (goal : Theorem) (h : HasFirst goal) (typs : List TypBind) (terms : List TermBind) (count : ℕ) (A rest : Term) → goal.prop ≡ imp A rest → StaysBehind typs terms count h.others h.state.statement → HasLongFront rest count
long_front goal h typs terms count A rest e kept = record {
  front = kept.front;
  others = kept.others;
  statement = h.state.statement;
  stand = behind_first goal h A rest e ∙ ap (λ (Bs : List Term). chain Bs (protect h.state.statement)) kept.stand;
  counted = kept.counted;
  long = each-left (λ A. IsLongForm A A) kept.front kept.others (subst (λ (Bs : List Term). Each (λ A. IsLongForm A A) Bs) kept.stand h.long);
}

pub before_others : (goal : Theorem) (h : HasFirst goal) (u : Unifier) (premises : List Term) (count : ℕ) (A rest : Term) → goal.prop ≡ imp A rest → StaysBehind u.typs u.terms count h.others h.state.statement
    → (s : State) (first : Term) (others : List Term) (a : Attempt) → IsTheoremOf s goal → s.subgoals ≡ first ∷ others → a.premises ≡ premises → IsBefore u premises rest count (with_unifier s others a (seen u))
before_others goal h u premises count A rest e kept s first others a is stand p =
    let f = instantiated u.typs u.terms in
    let same = same-state goal h s first others is stand in
    let there : rest ≡ chain (kept.front ++ kept.others) (protect h.state.statement) = behind_first goal h A rest e ∙ ap (λ (Bs : List Term). chain Bs (protect h.state.statement)) kept.stand in
    let parts = parts-stay u.typs u.terms kept.others h.state.statement kept.stays in
    let all : a.premises ++ others ≡ (premises ++ kept.front) ++ kept.others = (λ i. p i ++ (sym same.others_same ∙ kept.stand) i) ∙ sym (append_assoc premises kept.front kept.others) in
    record {
      front = kept.front;
      others = kept.others;
      subgoals = ap (map f) all ∙ (map-append f (premises ++ kept.front) kept.others ∙ ap (λ (Bs : List Term). map f (premises ++ kept.front) ++ Bs) parts.0);
      long = each-right (λ A. IsLongForm A A) kept.front kept.others (subst (λ (Bs : List Term). Each (λ A. IsLongForm A A) Bs) kept.stand h.long);
      stand = there ∙ ap (λ (C : Term). chain (kept.front ++ kept.others) (protect C)) (sym parts.1 ∙ ap f same.statement);
      counted = kept.counted;
      pairs = refl;
    }

pub before_outcome : (u : Unifier) → Each IsLeftOver u.flexflex.items → (premises all : List Term) (rest tail : Term) (count : ℕ) (Ss : List Term) (made : State) (b : IsBefore u premises rest count made) → all ≡ premises ++ b.front → tail ≡ chain b.others (protect made.statement)
    → Come (map (instantiated u.typs u.terms) all) (AllLong Ss) → (rests : List Label) (result : Result Goal StepFault) → IsConcluded u.flexflex.items (chain Ss tail) rests result → IsOutcome (Becomes made) (λ all. all ≡ rests) result
before_outcome u left premises all rest tail count Ss made b e t comes rests result c =
    let front = map (instantiated u.typs u.terms) in
    made_outcome made (front all) Ss b.others (b.subgoals ∙ (λ i. front (sym e i) ++ b.others)) comes (all-long (front all) Ss comes) b.long (subst (λ (ps : List Pair). Each IsLeftPair ps) (sym b.pairs) (left-pairs u.flexflex.items left)) rests result
    (concluded-at u.flexflex.items made.pairs (chain Ss tail) (chain (Ss ++ b.others) (protect made.statement)) rests rests result (sym b.pairs) (ap (chain Ss) t ∙ sym (chain-append Ss b.others (protect made.statement))) refl c)

pub before_stopped : (u : Unifier) (premises all : List Term) (rest : Term) (count : ℕ) (fault : StepFault) (made : State) (b : IsBefore u premises rest count made) → all ≡ premises ++ b.front → IsComeAnswer (map (instantiated u.typs u.terms) all) (Err fault) → (R : List Label → Type 0)
    → IsOutcome (Becomes made) R (Err fault)
before_stopped u premises all rest count fault made b e c R =
    let front = map (instantiated u.typs u.terms) in
    come_stopped made fault (subst (λ (As : List Term). IsComeAnswer As (Err fault)) ((λ i. front (e i) ++ b.others) ∙ sym b.subgoals) (stopped_before (front all) b.others fault c)) R
