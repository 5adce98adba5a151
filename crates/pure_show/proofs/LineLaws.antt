-- Lines of names, subgoals and pairs.
use Rattle.std.proofs.Common.{◌≡◌, ℕ, zero, suc, ◌+◌, ◌<◌, ◌≤◌, List, [], ◌∷◌, ◌++◌, length, drop, get_or, add-one, drop-cons, refl, sym, ap, ◌∙◌, append_assoc, append-nil, arith}
use Rattle.std.specs.Prelude.{Some, slice_get, Result, Ok, Err, OnOk}
use Rattle.pure_definitions.specs.Terms.Term.{Term}
use Rattle.pure_logic.specs.Connectives.{chain, imp, protect}
use Rattle.pure_logic.specs.Derivable.{Pair, Theorem}
use Rattle.pure_resolve.specs.GoalSteps.State.{State, IsTheoremOf}
use Rattle.pure_resolve.proofs.ChainLaws.{first-premise}
use Rattle.pure_text.proofs.MergeLaws.{drop_at}
use Rattle.pure_show.specs.Lines.{names_text, subgoal_lines, pair_lines, state_lines}

-- one name more
pub name-more : (names : List (List ℕ)) (place : ℕ) (name : List ℕ) → slice_get names place ≡ Some name → (old new whole : List ℕ) → new ≡ old ++ 32 ∷ name → old ++ names_text (drop place names) ≡ whole → new ++ names_text (drop (place + 1) names) ≡ whole
name-more names place name at old new whole more so_far =
    let cut : drop place names ≡ name ∷ drop (place + 1) names = drop_at names place name at in
    ap (λ t. t ++ names_text (drop (place + 1) names)) more ∙ (append_assoc old (32 ∷ name) (names_text (drop (place + 1) names)) ∙ (ap (λ ns. old ++ names_text ns) (sym cut) ∙ so_far))

none-behind : (names : List (List ℕ)) (place : ℕ) → length names ≤ place → drop place names ≡ []
none-behind [] zero h = refl
none-behind [] (suc place) h = refl
none-behind (x ∷ xs) zero h = absurd (omega arith)
none-behind (x ∷ xs) (suc place) h = none-behind xs place (omega arith)

pub names-end : (names : List (List ℕ)) (place : ℕ) → length names ≤ place → (old whole : List ℕ) → old ++ names_text (drop place names) ≡ whole → old ≡ whole
names-end names place past old whole so_far = sym (append-nil old) ∙ (ap (λ ns. old ++ names_text ns) (sym (none-behind names place past)) ∙ so_far)

-- one subgoal more
subgoals-more : (texts : List (List ℕ)) (number : ℕ) (A : Term) (As : List Term) → subgoal_lines texts number (A ∷ []) ++ subgoal_lines texts (number + 1) As ≡ subgoal_lines texts number (A ∷ As)
subgoals-more texts number A As = simp append_assoc

pub subgoal-more : (texts : List (List ℕ)) (number next : ℕ) (A : Term) (As Bs : List Term) → next ≡ number + 1 → As ≡ A ∷ Bs → (old middle new : List ℕ) → middle ≡ old ++ subgoal_lines texts number (A ∷ []) → new ≡ middle ++ subgoal_lines texts next Bs
    → new ≡ old ++ subgoal_lines texts number As
subgoal-more texts number next A As Bs n e old middle new first rest =
    rest ∙ (ap (λ t. t ++ subgoal_lines texts next Bs) first ∙ (append_assoc old (subgoal_lines texts number (A ∷ [])) (subgoal_lines texts next Bs)
    ∙ (ap (λ k. old ++ (subgoal_lines texts number (A ∷ []) ++ subgoal_lines texts k Bs)) n ∙ (ap (λ t. old ++ t) (subgoals-more texts number A Bs) ∙ ap (λ xs. old ++ subgoal_lines texts number xs) (sym e)))))

-- one pair more
pairs-more : (texts : List (List ℕ)) (p : Pair) (ps : List Pair) → pair_lines texts (p ∷ []) ++ pair_lines texts ps ≡ pair_lines texts (p ∷ ps)
pairs-more texts p ps = simp append_assoc

pub pair-more : (texts : List (List ℕ)) (pairs : List Pair) (i : ℕ) (p : Pair) → i < length pairs → p ≡ get_or pairs i p → (old new whole : List ℕ) → new ≡ old ++ pair_lines texts (p ∷ []) → old ++ pair_lines texts (drop i pairs) ≡ whole
    → new ++ pair_lines texts (drop (i + 1) pairs) ≡ whole
pair-more texts pairs i p within is old new whole more so_far =
    let cut : drop i pairs ≡ get_or pairs i p ∷ drop (i + 1) pairs = rw add-one (drop-cons pairs i p within) in
    let here : drop i pairs ≡ p ∷ drop (i + 1) pairs = cut ∙ ap (λ q. q ∷ drop (i + 1) pairs) (sym is) in
    ap (λ t. t ++ pair_lines texts (drop (i + 1) pairs)) more ∙ (append_assoc old (pair_lines texts (p ∷ [])) (pair_lines texts (drop (i + 1) pairs))
    ∙ (ap (λ t. old ++ t) (pairs-more texts p (drop (i + 1) pairs)) ∙ (ap (λ ps. old ++ pair_lines texts ps) (sym here) ∙ so_far)))

-- the lines of a goal's state
pub state-lines : (texts : List (List ℕ)) (th : Theorem) (empty first last : List ℕ) → empty ≡ [] → ((As : List Term) (C : Term) → th.prop ≡ chain As (protect C) → first ≡ empty ++ subgoal_lines texts 1 As) → last ≡ first ++ pair_lines texts th.pairs
    → (s : State) → IsTheoremOf s th → last ≡ state_lines texts s
state-lines texts th empty first last none subgoals pairs s is =
    pairs ∙ (λ i. (subgoals s.subgoals s.statement is.prop ∙ ap (λ e. e ++ subgoal_lines texts 1 s.subgoals) none) i ++ pair_lines texts (is.same_pairs i))

-- no subgoal
pub subgoals-none : (texts : List (List ℕ)) (number : ℕ) (old : List ℕ) (As : List Term) → As ≡ [] → old ≡ old ++ subgoal_lines texts number As
subgoals-none texts number old As e = sym (append-nil old) ∙ ap (λ xs. old ++ subgoal_lines texts number xs) (sym e)

-- the subgoals behind the first one, as a call writes them
pub subgoals-behind : {X E : Type 0} (texts : List (List ℕ)) (number next : ℕ) (t A B : Term) → t ≡ imp A B → next ≡ number + 1 → (old middle new : List ℕ) → middle ≡ old ++ subgoal_lines texts number (A ∷ []) → (r : Result X E)
    → OnOk r ((As : List Term) → (C : Term) → B ≡ chain As (protect C) → new ≡ middle ++ subgoal_lines texts next As) → OnOk r ((As : List Term) → (C : Term) → t ≡ chain As (protect C) → new ≡ old ++ subgoal_lines texts number As)
subgoals-behind texts number next t A B is n old middle new first (Ok x) h = λ As C e.
    let p = first-premise t A B As C is e in
    subgoal-more texts number next A As p.rest n p.is old middle new first (h p.rest C p.chained)
subgoals-behind texts number next t A B is n old middle new first (Err fault) h = tt
