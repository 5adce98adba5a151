-- One value comes of a proof.
use Rattle.std.proofs.Common.{◌≡◌, ◌⊎◌, ℕ, ◌+◌, List, [], ◌∷◌, inl, inr, refl, ap, sym, subst, ◌∙◌}
use Rattle.std.specs.Prelude.{Result, Ok, Err}
use Rattle.pure_definitions.specs.Names.{Label}
use Rattle.pure_definitions.specs.Types.Order.{Algebra}
use Rattle.pure_definitions.specs.Terms.Term.{Term}
use Rattle.pure_definitions.specs.Declarations.Decl.{algebra_of}
use Rattle.pure_grammar.specs.Theories.TheoryText.{Step, Rule, Erule, Drule, Assumption, Unfold, Prefer, Defer, Close, Done}
use Rattle.pure_order_tables.specs.Classes.{IsAntisymmetric}
use Rattle.pure_logic.specs.Content.{Content}
use Rattle.pure_logic.specs.Derivable.{Theorem}
use Rattle.pure_lookup.specs.LookUps.{IsFoundFact, IsFoundLocal}
use Rattle.pure_unfold.proofs.UnfoldLaws.{unfolds-once, unfolds-something}
use Rattle.pure_promise_fates.proofs.LabelSets.{set_once}
use Rattle.pure_resolve.specs.GoalSteps.State.{State}
use Rattle.pure_resolve.specs.GoalSteps.Follows.{Outcome}
use Rattle.pure_resolve.specs.GoalSteps.Steps.{BeginsAs, RuleStep, EliminationStep, DestructionStep, ConversionStep}
use Rattle.pure_resolve.specs.GoalSteps.declared.fault.StepFault.{StepFault}
use Rattle.pure_resolve.proofs.GoalSteps.FollowsLaws.{becomes-once}
use Rattle.pure_resolve.proofs.EndLaws.{ends_once as ends_as-once}
use Rattle.pure_resolve.proofs.GoalSteps.OneOutcomeLaws.{rule_once, elimination_once, destruction_once, assumption_once, prefer_once, defer_once, conversion_once}
use Rattle.pure_method.specs.Facts.{LookUp, AreNamedBy}
use Rattle.pure_method.specs.Unfolding.{IsSmallEquation, TakesFact, ComesByFacts, UnfoldStep, chained_equation}
use Rattle.pure_method.specs.Proof.{ByFactsOf, WithOne, GivesBy, Closes, ProofFault, ProofOutcome, Ending, Proved, Failed, EndsBy, IsProofBy}
use Rattle.pure_method.specs.Laws.{ProofOnce, ProofInOnce}
use Rattle.pure_method.proofs.FactLaws.{IsOnce, everywhere-once, in_lemma-once, all_found-once, all_found-known}

pub ok-same : {A E : Type 0} (x y : A) → ◌≡◌ {A = Result A E} (Ok x) (Ok y) → x ≡ y
ok-same x y e = cc

pub not-both : {A E : Type 0} (x : A) (f : E) → ◌≡◌ {A = Result A E} (Ok x) (Err f) → ⊥
not-both x f e = cc

err-same : {A E : Type 0} (f g : E) → ◌≡◌ {A = Result A E} (Err f) (Err g) → f ≡ g
err-same f g e = cc

no-subgoal : (A : Term) (As Bs : List Term) → Bs ≡ [] → Bs ≡ A ∷ As → ⊥
no-subgoal A As Bs e d = absurd (cc)

-- What facts come to.
module _ (A : Algebra) (first : Term) where
  takes-once : (now : Term) (fact : Theorem) (one other : Result Term StepFault) → TakesFact A first now fact one → TakesFact A first now fact other → one ≡ other
  takes-once now fact one other (TakesFact.no_definition h) (TakesFact.no_definition k) = refl
  takes-once now fact one other (TakesFact.no_definition h) (TakesFact.nothing k) = absurd (h k.name k.typ k.body k.definition)
  takes-once now fact one other (TakesFact.no_definition h) (TakesFact.large k w) = absurd (h k.name k.typ k.body k.definition)
  takes-once now fact one other (TakesFact.no_definition h) (TakesFact.unfolded k w v) = absurd (h k.name k.typ k.body k.definition)
  takes-once now fact one other (TakesFact.nothing h) (TakesFact.no_definition k) = absurd (k h.name h.typ h.body h.definition)
  takes-once now fact one other (TakesFact.nothing h) (TakesFact.nothing k) = refl
  takes-once now fact one other (TakesFact.nothing h) (TakesFact.large {u = u} k w) = absurd (unfolds-something A fact.prop now u k h)
  takes-once now fact one other (TakesFact.nothing h) (TakesFact.unfolded {u = u} k w v) = absurd (unfolds-something A fact.prop now u k h)
  takes-once now fact one other (TakesFact.large h w) (TakesFact.no_definition k) = absurd (k h.name h.typ h.body h.definition)
  takes-once now fact one other (TakesFact.large {u = u} h w) (TakesFact.nothing k) = absurd (unfolds-something A fact.prop now u h k)
  takes-once now fact one other (TakesFact.large h w) (TakesFact.large k v) = refl
  takes-once now fact one other (TakesFact.large {u = u} h w) (TakesFact.unfolded {u = v} k x y) = absurd (small u v (unfolds-once A fact.prop now u v h k) w x y)
    where
      small : (u v : Term) → u ≡ v → (¬ IsSmallEquation now u) ⊎ (¬ IsSmallEquation first u) → IsSmallEquation now v → IsSmallEquation first v → ⊥
      small u v e (inl big) x y = big (subst (λ (t : Term). IsSmallEquation now t) (sym e) x)
      small u v e (inr big) x y = big (subst (λ (t : Term). IsSmallEquation first t) (sym e) y)
  takes-once now fact one other (TakesFact.unfolded h w v) (TakesFact.no_definition k) = absurd (k h.name h.typ h.body h.definition)
  takes-once now fact one other (TakesFact.unfolded {u = u} h w v) (TakesFact.nothing k) = absurd (unfolds-something A fact.prop now u h k)
  takes-once now fact one other (TakesFact.unfolded {u = u} h w x) (TakesFact.large {u = v} k (inl big)) = absurd (big (subst (λ (t : Term). IsSmallEquation now t) (unfolds-once A fact.prop now u v h k) w))
  takes-once now fact one other (TakesFact.unfolded {u = u} h w x) (TakesFact.large {u = v} k (inr big)) = absurd (big (subst (λ (t : Term). IsSmallEquation first t) (unfolds-once A fact.prop now u v h k) x))
  takes-once now fact one other (TakesFact.unfolded {u = u} h w x) (TakesFact.unfolded {u = v} k y z) = ap Ok (unfolds-once A fact.prop now u v h k)

  comes-once : (now : Term) (facts : List Theorem) (one other : Result Term StepFault) → ComesByFacts A first now facts one → ComesByFacts A first now facts other → one ≡ other
  comes-once now [] one other ComesByFacts.no_more ComesByFacts.no_more = refl
  comes-once now (fact ∷ facts) one other (ComesByFacts.fails {f = f} h) (ComesByFacts.fails {f = g} k) =
      ap Err (err-same f g (takes-once now fact (Err f) (Err g) h k))
  comes-once now (fact ∷ facts) one other (ComesByFacts.fails {f = f} h) (ComesByFacts.goes_on {u = u} k rest) = absurd (not-both u f (takes-once now fact (Ok u) (Err f) k h))
  comes-once now (fact ∷ facts) one other (ComesByFacts.goes_on {u = u} h rest) (ComesByFacts.fails {f = f} k) = absurd (not-both u f (takes-once now fact (Ok u) (Err f) h k))
  comes-once now (fact ∷ facts) one other (ComesByFacts.goes_on {u = u} h rest) (ComesByFacts.goes_on {u = v} k more) =
      let same : v ≡ u = ok-same v u (takes-once now fact (Ok v) (Ok u) k h) in
      comes-once u facts one other rest (subst (λ (t : Term). ComesByFacts A first t facts other) same more)

firsts-same : (A B : Term) (As Bs Cs : List Term) → Cs ≡ A ∷ As → Cs ≡ B ∷ Bs → B ≡ A
firsts-same A B As Bs Cs e d = let same : A ∷ As ≡ B ∷ Bs = sym e ∙ d in cc

unfold-once : (A : Algebra) (s : State) (facts : List Theorem) (one other : Outcome) → UnfoldStep A s facts one → UnfoldStep A s facts other → one ≡ other
unfold-once A s facts one other (UnfoldStep.no_subgoal e) (UnfoldStep.no_subgoal d) = refl
unfold-once A s facts one other (UnfoldStep.no_subgoal e) (UnfoldStep.refused {first = first} {others = others} d c) = absurd (no-subgoal first others s.subgoals e d)
unfold-once A s facts one other (UnfoldStep.no_subgoal e) (UnfoldStep.converted {first = first} {others = others} d c k) = absurd (no-subgoal first others s.subgoals e d)
unfold-once A s facts one other (UnfoldStep.refused {first = first} {others = others} d c) (UnfoldStep.no_subgoal e) = absurd (no-subgoal first others s.subgoals e d)
unfold-once A s facts one other (UnfoldStep.refused {first = first} {others = As} {f = f} d c) (UnfoldStep.refused {first = second} {others = Bs} {f = g} e h) =
    let same : second ≡ first = firsts-same first second As Bs s.subgoals d e in
    ap Err (err-same f g (comes-once A first first facts (Err f) (Err g) c (subst (λ (t : Term). ComesByFacts A t t facts (Err g)) same h)))
unfold-once A s facts one other (UnfoldStep.refused {first = first} {others = As} {f = f} d c) (UnfoldStep.converted {first = second} {last = last} {others = Bs} e h k) =
    let same : second ≡ first = firsts-same first second As Bs s.subgoals d e in
    absurd (not-both last f (comes-once A first first facts (Ok last) (Err f) (subst (λ (t : Term). ComesByFacts A t t facts (Ok last)) same h) c))
unfold-once A s facts one other (UnfoldStep.converted {first = first} {others = others} d c k) (UnfoldStep.no_subgoal e) = absurd (no-subgoal first others s.subgoals e d)
unfold-once A s facts one other (UnfoldStep.converted {first = first} {last = last} {others = As} e h k) (UnfoldStep.refused {first = second} {others = Bs} {f = f} d c) =
    let same : second ≡ first = firsts-same first second As Bs s.subgoals e d in
    absurd (not-both last f (comes-once A first first facts (Ok last) (Err f) h (subst (λ (t : Term). ComesByFacts A t t facts (Err f)) same c)))
unfold-once A s facts one other (UnfoldStep.converted {first = first} {last = last} {others = As} e h k) (UnfoldStep.converted {first = second} {last = end} {others = Bs} d c l) =
    let same : second ≡ first = firsts-same first second As Bs s.subgoals e d in
    let ends : end ≡ last = ok-same end last (comes-once A first first facts (Ok end) (Ok last) (subst (λ (t : Term). ComesByFacts A t t facts (Ok end)) same c) h) in
    conversion_once s (chained_equation first last facts) one other k
    (subst (λ (t : Term). ConversionStep s (chained_equation first t facts) other) ends (subst (λ (t : Term). ConversionStep s (chained_equation t end facts) other) same l))

-- A step, the closing of subgoals, and all steps.
module _ (L : LookUp) (Q : Content) (once_found : IsOnce L) (anti : IsAntisymmetric (algebra_of Q.declarations)) where
  by_facts-once : (With : List Theorem → Outcome → Type 0) → ((facts : List Theorem) (one other : Outcome) → With facts one → With facts other → one ≡ other) → (written : List (List ℕ)) (one other : Outcome)
      → ByFactsOf L With written one → ByFactsOf L With written other → one ≡ other
  by_facts-once With once written one other (ByFactsOf.unknown h) (ByFactsOf.unknown k) = refl
  by_facts-once With once written one other (ByFactsOf.unknown h) (ByFactsOf.known {facts = facts} f k) = absurd (all_found-known L once_found written facts f h)
  by_facts-once With once written one other (ByFactsOf.known {facts = facts} f k) (ByFactsOf.unknown h) = absurd (all_found-known L once_found written facts f h)
  by_facts-once With once written one other (ByFactsOf.known {facts = facts} f h) (ByFactsOf.known {facts = more} g k) =
      once facts one other h (subst (λ (ths : List Theorem). With ths other) (all_found-once L once_found written more facts g f) k)

  with_one-once : (With : Theorem → Outcome → Type 0) → ((fact : Theorem) (one other : Outcome) → With fact one → With fact other → one ≡ other) → (facts : List Theorem) (one other : Outcome) → WithOne With facts one → WithOne With facts other → one ≡ other
  with_one-once With once facts one other h k =
      let same : h.0 ∷ [] ≡ k.0 ∷ [] = sym h.1 ∙ k.1 in
      let fact : k.0 ≡ h.0 = cc in
      once h.0 one other h.2 (subst (λ (th : Theorem). With th other) fact k.2)

  pub gives-once : (step : Step) (s : State) (one other : Outcome) → GivesBy L Q step s one → GivesBy L Q step s other → one ≡ other
  gives-once (Rule fact) s = by_facts-once (WithOne (RuleStep (algebra_of Q.declarations) s)) (with_one-once (RuleStep (algebra_of Q.declarations) s) (rule_once (algebra_of Q.declarations) anti s)) (fact ∷ [])
  gives-once (Erule fact) s = by_facts-once (WithOne (EliminationStep (algebra_of Q.declarations) s)) (with_one-once (EliminationStep (algebra_of Q.declarations) s) (elimination_once (algebra_of Q.declarations) anti s)) (fact ∷ [])
  gives-once (Drule fact) s = by_facts-once (WithOne (DestructionStep (algebra_of Q.declarations) s)) (with_one-once (DestructionStep (algebra_of Q.declarations) s) (destruction_once (algebra_of Q.declarations) anti s)) (fact ∷ [])
  gives-once (Unfold facts) s = by_facts-once (UnfoldStep (algebra_of Q.declarations) s) (unfold-once (algebra_of Q.declarations) s) facts
  gives-once Assumption s = assumption_once (algebra_of Q.declarations) anti s
  gives-once (Prefer n) s = prefer_once s n
  gives-once Defer s = defer_once s
  gives-once Close s = λ one other h k. absurd h
  gives-once Done s = λ one other h k. absurd h

  pub closes-once : (s one other : State) → Closes (algebra_of Q.declarations) s one → Closes (algebra_of Q.declarations) s other → one ≡ other
  closes-once s one other (Closes.stops h) (Closes.stops k) = refl
  closes-once s one other (Closes.stops {f = f} h) (Closes.goes_on {next = next} k rest) = absurd (not-both next f (assumption_once (algebra_of Q.declarations) anti s (Ok next) (Err f) k h))
  closes-once s one other (Closes.goes_on {next = next} k rest) (Closes.stops {f = f} h) = absurd (not-both next f (assumption_once (algebra_of Q.declarations) anti s (Ok next) (Err f) k h))
  closes-once s one other (Closes.goes_on {next = next} h rest) (Closes.goes_on {next = then} k more) =
      let same : then ≡ next = ok-same then next (assumption_once (algebra_of Q.declarations) anti s (Ok then) (Ok next) k h) in
      closes-once next one other rest (subst (λ (x : State). Closes (algebra_of Q.declarations) x other) same more)

  -- the fault of the step of this number
  abbrev at : ℕ → StepFault → Ending
  at number f = Failed (record { step = number; fault = f })

  pub ends-once : (number : ℕ) (s : State) (steps : List Step) (one other : Ending) → EndsBy L Q number s steps one → EndsBy L Q number s steps other → one ≡ other
  ends-once number s steps one other (EndsBy.finished h) (EndsBy.finished k) = refl
  ends-once number s steps one other (EndsBy.finished {th = th} h) (EndsBy.unfinished {f = f} k) = absurd (not-both th f (ends_as-once s (Ok th) (Err f) h k))
  ends-once number s steps one other (EndsBy.finished h) (EndsBy.refused k) = absurd k
  ends-once number s steps one other (EndsBy.finished h) (EndsBy.goes_on k rest) = absurd k
  ends-once number s steps one other (EndsBy.unfinished {f = f} k) (EndsBy.finished {th = th} h) = absurd (not-both th f (ends_as-once s (Ok th) (Err f) h k))
  ends-once number s steps one other (EndsBy.unfinished {f = f} h) (EndsBy.unfinished {f = g} k) = ap (at number) (err-same f g (ends_as-once s (Err f) (Err g) h k))
  ends-once number s steps one other (EndsBy.unfinished h) (EndsBy.refused k) = absurd k
  ends-once number s steps one other (EndsBy.unfinished h) (EndsBy.goes_on k rest) = absurd k
  ends-once number s steps one other (EndsBy.closed {next = next} {steps = left} h rest) (EndsBy.closed {next = then} k more) =
      let same = closes-once s then next k h in
      ends-once number next left one other rest (subst (λ (x : State). EndsBy L Q number x left other) same more)
  ends-once number s steps one other (EndsBy.closed h rest) (EndsBy.refused k) = absurd k
  ends-once number s steps one other (EndsBy.closed h rest) (EndsBy.goes_on k more) = absurd k
  ends-once number s steps one other (EndsBy.refused h) (EndsBy.finished k) = absurd h
  ends-once number s steps one other (EndsBy.refused h) (EndsBy.unfinished k) = absurd h
  ends-once number s steps one other (EndsBy.refused h) (EndsBy.closed k more) = absurd h
  ends-once number s steps one other (EndsBy.refused {step = step} {f = f} h) (EndsBy.refused {f = g} k) = ap (at number) (err-same f g (gives-once step s (Err f) (Err g) h k))
  ends-once number s steps one other (EndsBy.refused {step = step} {f = f} h) (EndsBy.goes_on {next = next} k more) = absurd (not-both next f (gives-once step s (Ok next) (Err f) k h))
  ends-once number s steps one other (EndsBy.goes_on h rest) (EndsBy.finished k) = absurd h
  ends-once number s steps one other (EndsBy.goes_on h rest) (EndsBy.unfinished k) = absurd h
  ends-once number s steps one other (EndsBy.goes_on h rest) (EndsBy.closed k more) = absurd h
  ends-once number s steps one other (EndsBy.goes_on {next = next} {step = step} h rest) (EndsBy.refused {f = f} k) = absurd (not-both next f (gives-once step s (Ok next) (Err f) h k))
  ends-once number s steps one other (EndsBy.goes_on {next = next} {step = step} {steps = left} h rest) (EndsBy.goes_on {next = then} k more) =
      let same : then ≡ next = ok-same then next (gives-once step s (Ok then) (Ok next) k h) in
      ends-once (number + 1) next left one other rest (subst (λ (x : State). EndsBy L Q (number + 1) x left other) same more)

  pub begins-same : (statement : Term) (s other : State) → BeginsAs statement (Ok s) → BeginsAs statement (Ok other) → other ≡ s
  begins-same statement s other h k = ok-same other s (becomes-once _ (Ok other) (Ok s) k h)

  pub begins-both : (statement : Term) (s : State) (f : StepFault) → BeginsAs statement (Ok s) → BeginsAs statement (Err f) → ⊥
  begins-both statement s f h k = not-both s f (becomes-once _ (Ok s) (Err f) h k)

  faults-same : (f g : ProofFault) → Failed f ≡ Failed g → f ≡ g
  faults-same f g e = cc

  never-both : (f : ProofFault) → Failed f ≡ Proved → ⊥
  never-both f e = cc

  labels-once : (script : List Step) (ls ms : List Label) → AreNamedBy L script ls → AreNamedBy L script ms → ls ≡ ms
  labels-once script ls ms h k = set_once ls ms h.ascend k.ascend (λ l. (λ m. (k.exactly l).1 ((h.exactly l).0 m), λ m. (h.exactly l).1 ((k.exactly l).0 m)))

  pub proof_by-once : (statement : Term) (script : List Step) (one other : ProofOutcome) → IsProofBy L Q statement script one → IsProofBy L Q statement script other → one ≡ other
  proof_by-once statement script one other (IsProofBy.not_begun h) (IsProofBy.not_begun k) = refl
  proof_by-once statement script one other (IsProofBy.not_begun {f = f} h) (IsProofBy.failed {s = s} b e) = absurd (begins-both statement s f b h)
  proof_by-once statement script one other (IsProofBy.not_begun {f = f} h) (IsProofBy.proved {s = s} b e n) = absurd (begins-both statement s f b h)
  proof_by-once statement script one other (IsProofBy.failed {s = s} b e) (IsProofBy.not_begun {f = f} h) = absurd (begins-both statement s f b h)
  proof_by-once statement script one other (IsProofBy.failed {s = s} {f = f} b e) (IsProofBy.failed {s = t} {f = g} c d) =
      let same = begins-same statement s t b c in
      ap Err (faults-same f g (ends-once 1 s script (Failed f) (Failed g) e (subst (λ (x : State). EndsBy L Q 1 x script (Failed g)) same d)))
  proof_by-once statement script one other (IsProofBy.failed {s = s} {f = f} b e) (IsProofBy.proved {s = t} c d n) =
      let same = begins-same statement s t b c in
      absurd (never-both f (ends-once 1 s script (Failed f) Proved e (subst (λ (x : State). EndsBy L Q 1 x script Proved) same d)))
  proof_by-once statement script one other (IsProofBy.proved {s = s} b e n) (IsProofBy.not_begun {f = f} h) = absurd (begins-both statement s f b h)
  proof_by-once statement script one other (IsProofBy.proved {s = s} b e n) (IsProofBy.failed {s = t} {f = f} c d) =
      let same = begins-same statement s t b c in
      absurd (never-both f (ends-once 1 s script (Failed f) Proved (subst (λ (x : State). EndsBy L Q 1 x script (Failed f)) same d) e))
  proof_by-once statement script one other (IsProofBy.proved {labels = ls} b e n) (IsProofBy.proved {labels = ms} c d m) = ap Ok (labels-once script ls ms n m)

-- One value comes of it where facts are looked up over the content alone, and in a lemma.
pub proof-once : ProofOnce
proof-once texts Q session q anti = proof_by-once (IsFoundFact texts Q) Q (everywhere-once texts Q session q) anti

pub proof_in-once : ProofInOnce
proof_in-once texts Q session q anti lemma = proof_by-once (IsFoundLocal texts Q lemma) Q (in_lemma-once texts Q session q lemma) anti
