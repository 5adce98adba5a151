-- The last step of a goal: smashing goes on whatever a theorem rests on, keeps the mark and has one outcome.
use Rattle.std.proofs.Common.{◌≡◌, ◌≢◌, ℕ, true, false, List, [], ◌∷◌, map, length, Result, Ok, Err, refl, ap, sym, subst, ◌∙◌, arith}
use Rattle.pure_text.specs.Lists.{Each}
use Rattle.pure_text.proofs.ListLaws.{each_imply}
use Rattle.pure_definitions.specs.Names.{Label, protect_name}
use Rattle.pure_definitions.specs.Types.Typ.{Typ}
use Rattle.pure_definitions.specs.Terms.Term.{Term, Const, Free, Var, Bound, Abs, App, term_eq, IsWithin}
use Rattle.pure_definitions.specs.Terms.Conditions.{variable_typ}
use Rattle.pure_definitions.specs.Terms.Limits.{cut_off}
use Rattle.pure_definitions.specs.Models.Comparison.{term_cmp}
use Rattle.pure_logic.specs.Connectives.{protect, protect_typ, chain}
use Rattle.pure_logic.specs.Content.{Content, IsContent, IsBelow}
use Rattle.pure_logic.specs.PureContent.{pure_content}
use Rattle.pure_logic.specs.Derivable.{Pair, Theorem, IsDerivable}
use Rattle.pure_theorem.specs.Facts.{IsTheoryContent}
use Rattle.pure_theorem.specs.Sets.{IsSetOf}
use Rattle.pure_theorem.specs.Within.{IsPairWithin, AreWithin}
use Rattle.pure_unify_definitions.specs.Fronts.{head, domains, is_schematic}
use Rattle.pure_unify_definitions.specs.Children.{IsFlexFlex}
use Rattle.pure_goal_steps.specs.Pairs.Smash.{with_constant, with_constants, fresh_variable, theorem_index_above, IsWithConstants, Smashes, no_pair, trivial, constants}
use Rattle.pure_goal_steps.proofs.Pairs.SmashLaws.{smashes-derivable, flexible-pairs}
use Rattle.pure_goal_laws.proofs.StateLaws.{end_is_derivable}
use Rattle.pure_goal_steps.specs.State.{State, theorem_of, IsTheoremOf, IsLeftPair}
use Rattle.pure_goal_steps.specs.Steps.{EndsAs}
use Rattle.pure_goal_steps.specs.Derivability.{IsSound}
use Rattle.pure_goal_steps.specs.declared.fault.StepFault.{StepFault}
use Rattle.pure_goal_steps.specs.declared.fault.StepFault.TheVariants as fault
use Rattle.pure_goal_steps.proofs.OneOutcomeLaws.{some-not-none}
use Rattle.pure_resolve.specs.Goals.{IsGoalTheorem}
use Rattle.pure_resolve.specs.Ending.{IsMarked, IsUnmarked, IsEnd}
use Rattle.pure_resolve.proofs.AnswerLaws.{theorem-same}
use Rattle.pure_resolve.proofs.SettleLaws.{none-is}

-- The mark stays, since no constant is a schematic variable.
no-constant : (v : Term) (d : ℕ) (U : Typ) → is_schematic v ≡ true → term_eq v (Const d U) ≡ false
no-constant (Var x i T) d U is = refl
no-constant (Const e V) d U is = absurd (let no : false ≡ true = is in cc)
no-constant (Free z V) d U is = absurd (let no : false ≡ true = is in cc)
no-constant (Bound n) d U is = absurd (let no : false ≡ true = is in cc)
no-constant (Abs V b) d U is = absurd (let no : false ≡ true = is in cc)
no-constant (App f a) d U is = absurd (let no : false ≡ true = is in cc)

mark-stays : (v : Term) (Ts : List Typ) (c C : Term) → is_schematic v ≡ true → with_constant v Ts c (protect C) ≡ protect (with_constant v Ts c C)
mark-stays v Ts c C is = rw (no-constant v protect_name protect_typ is) refl

marks-stay : (p : Pair) (c C : Term) → IsFlexFlex p → with_constants p c (protect C) ≡ protect (with_constants p c C)
marks-stay p c C h =
    let first : Term → Term = with_constant (head p.left) (domains (variable_typ (head p.left))) c in
    let second : Term → Term = with_constant (head p.right) (domains (variable_typ (head p.right))) c in
    ap second (mark-stays (head p.left) (domains (variable_typ (head p.left))) c C h.left) ∙ mark-stays (head p.right) (domains (variable_typ (head p.right))) c (first C) h.right

each-front : (p : Pair) (ps qs : List Pair) → qs ≡ p ∷ ps → Each IsFlexFlex qs → IsFlexFlex p × Each IsFlexFlex ps
each-front p ps qs e h = subst (λ (rs : List Pair). Each IsFlexFlex rs) e h

-- A theorem with a mark and flexible pairs is smashed to one with a mark.
pub smashed-marked : (th smashed : Theorem) → Smashes th smashed → Each IsFlexFlex th.pairs → IsMarked th → IsMarked smashed
smashed-marked th smashed (no_pair e) flexible m = m
smashed-marked th smashed (trivial {p = p} {ps = ps} e equal rest) flexible m = smashed-marked (record th { pairs = ps }) smashed rest (each-front p ps th.pairs e flexible).1 m
smashed-marked th smashed (constants {next = next} {p = p} {ps = ps} e differ is rest) flexible (C, m) =
    let each = each-front p ps th.pairs e flexible in
    let moved = subst (λ (qs : List Pair). Each IsFlexFlex qs) (sym is.are_pairs) (flexible-pairs p (theorem_index_above th) ps each.1) in
    smashed-marked next smashed rest moved (with_constants p (fresh_variable th p) C, is.prop ∙ (ap (with_constants p (fresh_variable th p)) m ∙ marks-stay p (fresh_variable th p) C each.0))

-- Smashing doesn't ask on what a theorem rests.
pub smashes-resting : (th smashed : Theorem) (rests : List Label) → Smashes th smashed → Smashes (record th { rests = rests }) (record smashed { rests = rests })
smashes-resting th smashed rests (no_pair e) = no_pair e
smashes-resting th smashed rests (trivial {p = p} {ps = ps} e equal rest) = trivial e equal (smashes-resting (record th { pairs = ps }) smashed rests rest)
smashes-resting th smashed rests (constants {next = next} {p = p} {ps = ps} e differ is rest) =
    constants {next = record next { rests = rests }} e differ (record { hyps = is.hyps; are_pairs = is.are_pairs; prop = is.prop; rests = refl }) (smashes-resting next smashed rests rest)

pub smashes-rests : (th smashed : Theorem) → Smashes th smashed → smashed.rests ≡ th.rests
smashes-rests th smashed (no_pair e) = refl
smashes-rests th smashed (trivial {ps = ps} e equal rest) = smashes-rests (record th { pairs = ps }) smashed rest
smashes-rests th smashed (constants {next = next} e differ is rest) = smashes-rests next smashed rest ∙ is.rests

-- Of a theorem without hypotheses one theorem is smashed.
no-such : (p : Pair) (ps qs : List Pair) → qs ≡ [] → qs ≡ p ∷ ps → ⊥
no-such p ps qs e d = absurd (cc)

pairs-same : (p q : Pair) (ps qs rs : List Pair) → rs ≡ p ∷ ps → rs ≡ q ∷ qs → (p ≡ q) × (ps ≡ qs)
pairs-same p q ps qs rs e d = (cc, cc)

with-none : (p : Pair) (c : Term) (ps : List Pair) (th next : Theorem) → th.hyps ≡ [] → IsWithConstants p c ps th next → next.hyps ≡ []
with-none p c ps th next e is = none-is next.hyps (subst (λ (hs : List Term). IsSetOf term_cmp (map (with_constants p c) hs) next.hyps) e is.hyps)

with-once : (p : Pair) (c : Term) (ps : List Pair) (th one other : Theorem) → th.hyps ≡ [] → IsWithConstants p c ps th one → IsWithConstants p c ps th other → one ≡ other
with-once p c ps th one other e f g =
    let hyps : one.hyps ≡ other.hyps = with-none p c ps th one e f ∙ sym (with-none p c ps th other e g) in
    let pairs : one.pairs ≡ other.pairs = f.are_pairs ∙ sym g.are_pairs in
    let prop : one.prop ≡ other.prop = f.prop ∙ sym g.prop in
    let rests : one.rests ≡ other.rests = f.rests ∙ sym g.rests in
    λ i. record { hyps = hyps i; pairs = pairs i; prop = prop i; rests = rests i }

pub smashes-once : (th one other : Theorem) → th.hyps ≡ [] → Smashes th one → Smashes th other → one ≡ other
smashes-once th one other n (no_pair e) (no_pair d) = refl
smashes-once th one other n (no_pair e) (trivial {p = q} {ps = qs} d equal g) = absurd (no-such q qs th.pairs e d)
smashes-once th one other n (no_pair e) (constants {p = q} {ps = qs} d differ is g) = absurd (no-such q qs th.pairs e d)
smashes-once th one other n (trivial {p = p} {ps = ps} e equal f) (no_pair d) = absurd (no-such p ps th.pairs d e)
smashes-once th one other n (trivial {p = p} {ps = ps} e equal f) (trivial {p = q} {ps = qs} d same g) =
    let parts = pairs-same p q ps qs th.pairs e d in
    smashes-once (record th { pairs = ps }) one other n f (subst (λ (rs : List Pair). Smashes (record th { pairs = rs }) other) (sym parts.1) g)
smashes-once th one other n (trivial {p = p} {ps = ps} e equal f) (constants {p = q} {ps = qs} d differ is g) =
    let parts = pairs-same p q ps qs th.pairs e d in
    absurd (differ (subst (λ (r : Pair). r.left ≡ r.right) parts.0 equal))
smashes-once th one other n (constants {p = p} {ps = ps} e differ is f) (no_pair d) = absurd (no-such p ps th.pairs d e)
smashes-once th one other n (constants {p = p} {ps = ps} e differ is f) (trivial {p = q} {ps = qs} d equal g) =
    let parts = pairs-same p q ps qs th.pairs e d in
    absurd (differ (subst (λ (r : Pair). r.left ≡ r.right) (sym parts.0) equal))
smashes-once th one other n (constants {next = next} {p = p} {ps = ps} e differ is f) (constants {next = second} {p = q} {ps = qs} d other_differ other_is g) =
    let parts = pairs-same p q ps qs th.pairs e d in
    let moved : IsWithConstants p (fresh_variable th p) ps th second =
    subst (λ (k : Pair × List Pair). IsWithConstants k.0 (fresh_variable th k.0) k.1 th second) (λ i. (sym parts.0 i, sym parts.1 i)) other_is in
    let same : next ≡ second = with-once p (fresh_variable th p) ps th next second n is moved in
    smashes-once next one other (with-none p (fresh_variable th p) ps th next n is) f (subst (λ (t : Theorem). Smashes t other) (sym same) g)

-- The last step has one outcome.
marks-same : (C D : Term) → protect C ≡ protect D → C ≡ D
marks-same C D e = cc

-- what a state ends as, classified
data Ended (s : State) (outcome : Result Theorem StepFault) : Type 0 where
  left : (A : Term) (others : List Term) → s.subgoals ≡ A ∷ others → outcome ≡ Err fault.SubgoalsLeft → Ended s outcome
  wide : (smashed : Theorem) → s.subgoals ≡ [] → Smashes (theorem_of s []) smashed → ¬ AreWithin smashed → outcome ≡ Err fault.Big → Ended s outcome
  over : (smashed : Theorem) (C : Term) → s.subgoals ≡ [] → Smashes (theorem_of s []) smashed → AreWithin smashed → smashed.prop ≡ protect C → outcome ≡ Ok (record smashed { prop = C }) → Ended s outcome

ended : {s : State} {outcome : Result Theorem StepFault} → EndsAs s outcome → Ended s outcome
ended (EndsAs.subgoals_left {A = A} {others = others} e) = left A others e refl
ended (EndsAs.large {smashed = smashed} e f w) = wide smashed e f w refl
ended (EndsAs.proved {smashed = smashed} {C = C} e f w m) = over smashed C e f w m refl

ended-once : (s : State) (one other : Result Theorem StepFault) → Ended s one → Ended s other → one ≡ other
ended-once s one other (left A others e d) (left B rest f g) = d ∙ sym g
ended-once s one other (left A others e d) (wide smashed f h w g) = absurd (some-not-none A others s.subgoals e f)
ended-once s one other (left A others e d) (over smashed C f h w m g) = absurd (some-not-none A others s.subgoals e f)
ended-once s one other (wide smashed e h w d) (left B rest f g) = absurd (some-not-none B rest s.subgoals f e)
ended-once s one other (wide smashed e h w d) (wide second f k v g) = d ∙ sym g
ended-once s one other (wide smashed e h w d) (over second C f k v m g) = absurd (w (subst AreWithin (smashes-once (theorem_of s []) second smashed refl k h) v))
ended-once s one other (over smashed C e h w m d) (left B rest f g) = absurd (some-not-none B rest s.subgoals f e)
ended-once s one other (over smashed C e h w m d) (wide second f k v g) = absurd (v (subst AreWithin (smashes-once (theorem_of s []) smashed second refl h k) w))
ended-once s one other (over smashed C e h w m d) (over second D f k v n g) =
    let same : smashed ≡ second = smashes-once (theorem_of s []) smashed second refl h k in
    let statements : C ≡ D = marks-same C D (sym m ∙ (ap (λ (t : Theorem). t.prop) same ∙ n)) in
    d ∙ ((λ i. Ok (record (same i) { prop = statements i })) ∙ sym g)

pub ends_once : (s : State) (one other : Result Theorem StepFault) → EndsAs s one → EndsAs s other → one ≡ other
ends_once s one other f g = ended-once s one other (ended f) (ended g)

all-flexible : (ps : List Pair) → Each IsLeftPair ps → Each IsFlexFlex ps
all-flexible ps h = each_imply IsLeftPair IsFlexFlex ps (λ p l. l.flexible) h

pub goal-flexible : (th : Theorem) → IsGoalTheorem th → Each IsFlexFlex th.pairs
goal-flexible th g = subst (λ (ps : List Pair). Each IsFlexFlex ps) (sym g.is.same_pairs) (all-flexible g.state.pairs g.goal.left_pairs)

pub end_is_sound : (Q : Content) → IsContent Q → IsBelow pure_content Q → (s : State) (th : Theorem) (rests : List Label) → IsSound Q rests s → EndsAs s (Ok th) → IsDerivable Q (record th { rests = rests })
end_is_sound Q q above s th rests h (EndsAs.proved {smashed = smashed} {C = C} e f w m) =
    let smash = smashes-derivable Q q above (theorem_of s rests) (record smashed { rests = rests }) (smashes-resting (theorem_of s []) smashed rests f) (all-flexible s.pairs h.goal.left_pairs) h.derivable in
    end_is_derivable Q q above (record smashed { rests = rests }) C m smash

-- What the call answers.
goal-marked : (th : Theorem) (g : IsGoalTheorem th) → g.state.subgoals ≡ [] → IsMarked th
goal-marked th g none = (g.state.statement, g.is.prop ∙ ap (λ (As : List Term). chain As (protect g.state.statement)) none)

pub end_marked : (th : Theorem) (g : IsGoalTheorem th) → g.state.subgoals ≡ [] → (smashed : Theorem) → Smashes th smashed → IsMarked smashed
end_marked th g none smashed f = smashed-marked th smashed f (goal-flexible th g) (goal-marked th g none)

at-state : (th : Theorem) (g : IsGoalTheorem th) (smashed : Theorem) → Smashes th smashed → Smashes (theorem_of g.state []) (record smashed { rests = [] })
at-state th g smashed f =
    smashes-resting (theorem_of g.state th.rests) smashed [] (subst (λ (t : Theorem). Smashes t smashed) (sym (theorem-same g.state th g.is)) f)

within-resting : (th : Theorem) (rests : List Label) → AreWithin th → AreWithin (record th { rests = rests })
within-resting th rests w = record { hyps = w.hyps; pairs = w.pairs; prop = w.prop }

pub end_answer : (th : Theorem) (g : IsGoalTheorem th) → g.state.subgoals ≡ [] → (smashed : Theorem) → Smashes th smashed × AreWithin smashed → (new : Theorem) → IsUnmarked smashed new → IsEnd th (Ok new)
end_answer th g none smashed (f, w) new u =
    let proved : EndsAs g.state (Ok (record smashed { prop = u.statement; rests = [] })) = EndsAs.proved {smashed = record smashed { rests = [] }} none (at-state th g smashed f) (within-resting smashed [] w) u.marked in
    let same : record smashed { prop = u.statement; rests = [] } ≡ record new { rests = [] } = ap (λ (t : Theorem). record t { rests = [] }) (sym u.is) in
    (g.state, g.is, subst (λ (t : Theorem). EndsAs g.state (Ok t)) same proved, ap (λ (t : Theorem). t.rests) u.is ∙ smashes-rests th smashed f)

pub end_large : (th : Theorem) (g : IsGoalTheorem th) → g.state.subgoals ≡ [] → (smashed : Theorem) → Smashes th smashed → (¬ AreWithin smashed) → IsEnd th (Err fault.Big)
end_large th g none smashed f w = (g.state, g.is, EndsAs.large none (at-state th g smashed f) (λ v. w (record { hyps = v.hyps; pairs = v.pairs; prop = v.prop })))

pub end_at_once : (th : Theorem) (g : IsGoalTheorem th) → g.state.subgoals ≡ [] → th.pairs ≡ [] → IsWithin th.prop → (new : Theorem) × IsEnd th (Ok new)
end_at_once th g none e w =
    let m = goal-marked th g none in
    let within : AreWithin th = record { hyps = subst (λ (hs : List Term). Each IsWithin hs) (sym g.is.hyps) tt; pairs = subst (λ (ps : List Pair). Each IsPairWithin ps) (sym e) tt; prop = w } in
    (record th { prop = m.0 }, end_answer th g none th (no_pair e, within) (record th { prop = m.0 }) (record { statement = m.0; marked = m.1; is = refl }))

pub end_large_at_once : (th : Theorem) (g : IsGoalTheorem th) → g.state.subgoals ≡ [] → th.pairs ≡ [] → (¬ IsWithin th.prop) → IsEnd th (Err fault.Big)
end_large_at_once th g none e w = end_large th g none th (no_pair e) (λ v. w v.prop)

none-left : (As : List Term) → cut_off (length As) ≡ 0 → As ≡ []
none-left [] e = refl
none-left (A ∷ As) e = absurd (omega arith)

some-left : (As : List Term) → cut_off (length As) ≢ 0 → (A : Term) × (Bs : List Term) × (As ≡ A ∷ Bs)
some-left [] e = absurd (e refl)
some-left (A ∷ As) e = (A, As, refl)

pub no_subgoals : (th : Theorem) (g : IsGoalTheorem th) (count : ℕ) → ((s : State) → IsTheoremOf s th → count ≡ cut_off (length s.subgoals)) → count ≡ 0 → g.state.subgoals ≡ []
no_subgoals th g count h e = none-left g.state.subgoals (sym (h g.state g.is) ∙ e)

pub end_left : (th : Theorem) (g : IsGoalTheorem th) (count : ℕ) → ((s : State) → IsTheoremOf s th → count ≡ cut_off (length s.subgoals)) → count ≢ 0 → IsEnd th (Err fault.SubgoalsLeft)
end_left th g count h n =
    let first = some-left g.state.subgoals (λ e. n (h g.state g.is ∙ e)) in
    (g.state, g.is, EndsAs.subgoals_left first.2)

pub unmarked_derivable : (Q : Content) → IsTheoryContent Q → (smashed new : Theorem) → IsUnmarked smashed new → IsDerivable Q smashed → IsDerivable Q new
unmarked_derivable Q q smashed new u d = subst (IsDerivable Q) (sym u.is) (end_is_derivable Q q.content q.above_pure smashed u.statement u.marked d)
