-- The equation of a subgoal with what it comes to by facts, from what conversions answer.
use Rattle.std.proofs.Common.{◌≡◌, ◌⊎◌, ℕ, ◌+◌, ◌<◌, ◌≤◌, List, [], ◌∷◌, ◌++◌, length, get_or, take, drop, drop-cons, take_all, add-one, inl, inr, refl, ap, sym, subst, ◌∙◌}
use Rattle.std.specs.Prelude.{Result, Ok, Err, IfOk}
use Rattle.std.proofs.lemmas.List.{drop_all}
use Rattle.pure_text.specs.Lists.{IsIn}
use Rattle.pure_text.proofs.ListLaws.{each_of, none_in, in_split, in-append_left, in-append_right}
use Rattle.pure_text.proofs.LoopLaws.{longer_by}
use Rattle.pure_definitions.specs.Names.{Label}
use Rattle.pure_definitions.specs.Types.Typ.{Typ, prop}
use Rattle.pure_definitions.specs.Terms.Term.{Term, IsWithin}
use Rattle.pure_definitions.specs.Terms.Typing.{HasType}
use Rattle.pure_definitions.specs.Models.Comparison.{term_cmp}
use Rattle.pure_definitions.specs.Declarations.Decl.{algebra_of}
use Rattle.pure_term_laws.proofs.TypingLaws.{typed-once}
use Rattle.pure_logic.specs.Connectives.{eq, chain}
use Rattle.pure_logic.specs.Content.{Content, IsProposition}
use Rattle.pure_logic.specs.Derivable.{Theorem, IsDerivable}
use Rattle.pure_logic.proofs.ProvesLaws.{derivable_is_proves}
use Rattle.pure_logic.proofs.EqualityLaws.{right-of, reflexive_equality}
use Rattle.pure_theorem.specs.Facts.{IsTheoryContent}
use Rattle.pure_theorem.specs.Answer.{IsAnswer, IsJoined, NoRefusal}
use Rattle.pure_theorem.specs.declared.fault.RuleFault.{RuleFault}
use Rattle.pure_theorem.proofs.AnswerLaws.{answer-along, answer-holds}
use Rattle.pure_theorem.specs.Sets.{label_cmp, IsSetOf}
use Rattle.pure_theorem.specs.Shapes.{IsNoImplication}
use Rattle.pure_theorem.specs.Within.{AreWithin}
use Rattle.pure_theorem.proofs.SetLaws.{no_labels}
use Rattle.pure_unfold.specs.Unfold.{Unfolds}
use Rattle.pure_equal.specs.Equivalence.{GivesTransitive, RefusesTransitive}
use Rattle.pure_equal.proofs.DerivedLaws.{transitive-derived}
use Rattle.pure_conv.specs.Answer.{IsConvAnswer, AsInference, conv_answer}
use Rattle.pure_conv.proofs.AnswerLaws.{answer_as, given_as}
use Rattle.pure_conv.specs.UnfoldAnswer.{GivesUnfolded, RefusesUnfolded}
use Rattle.pure_conv.specs.declared.fault.ConvFault.{ConvFault}
use Rattle.pure_conv.specs.declared.fault.ConvFault.TheVariants as conv
use Rattle.pure_goal_laws.proofs.StateLaws.{subgoals_are_propositions}
use Rattle.pure_resolve.specs.GoalSteps.State.{State, IsTheoremOf}
use Rattle.pure_resolve.specs.GoalSteps.Follows.{Outcome}
use Rattle.pure_resolve.specs.GoalSteps.Steps.{ConversionStep}
use Rattle.pure_resolve.specs.GoalSteps.declared.fault.StepFault.{StepFault}
use Rattle.pure_resolve.specs.GoalSteps.declared.fault.StepFault.TheVariants.{UnknownFact, NoSubgoal, NoPremise, NotDefinition, NothingToUnfold, NoUnifier, SearchBound, Steps, Big, NoHypothesis, SubgoalsLeft, Memory}
use Rattle.pure_resolve.specs.Goals.{IsOutcome, IsEquationFor, IsStep}
use Rattle.pure_resolve.specs.Uses.{MayStep, IsFirstSubgoal}
use Rattle.pure_resolve.specs.declared.state.Goal.{Goal}
use Rattle.pure_resolve.proofs.ChainLaws.{first-premise, no-premise}
use Rattle.pure_method.specs.Facts.{theorem}
use Rattle.pure_method.specs.Unfolding.{IsSmallEquation, TakesFact, ComesByFacts, UnfoldStep, all_rests}
use Rattle.pure_method.specs.Taking.{IsReadyFact, IsChained, IsLinked, IsJoin, IsTaken, AreTaken, step_answer}
use Rattle.pure_resolve.proofs.AnswerLaws.{outcome_map}

right-same : (S T : Typ) (t u v w : Term) → eq S t u ≡ eq T v w → u ≡ w
right-same S T t u v w e = cc

left-same : (S T : Typ) (t u v w : Term) → eq S t u ≡ eq T v w → t ≡ v
left-same S T t u v w e = cc

typ-same : (S T : Typ) (t u v w : Term) → eq S t u ≡ eq T v w → S ≡ T
typ-same S T t u v w e = cc

prop-of : (Q : Content) (first last : Term) (th : Theorem) → IsChained Q first last th → th.prop ≡ eq prop first last
prop-of Q first last th c = ap (λ (t : Theorem). t.prop) c.is

pub come-to : (Q : Content) (first now : Term) (th : Theorem) (A : Term) (S : Typ) (l r : Term) → A ≡ th.prop → A ≡ eq S l r → IsChained Q first now th → r ≡ now
come-to Q first now th A S l r e f c = right-same S prop l r first now (sym f ∙ (e ∙ prop-of Q first now th c))

pub now-proposition : (Q : Content) → IsTheoryContent Q → (first now : Term) (th : Theorem) → IsChained Q first now th → IsProposition Q now
now-proposition Q q first now th c =
    let derivable : IsDerivable Q (theorem (eq prop first now) th.rests) = subst (IsDerivable Q) c.is c.derivable in
    right-of Q q.content q.above_pure [] th.rests prop first now ((derivable_is_proves Q [] th.rests (eq prop first now)).0 derivable)

bare-within : (th : Theorem) (A : Term) (rests : List Label) → th ≡ theorem A rests → IsWithin A → AreWithin th
bare-within th A rests e w = subst AreWithin (sym e) (record { hyps = tt; pairs = tt; prop = w })

-- What unfolding answers.
pub linked : (Q : Content) (fact : Theorem) → IsReadyFact Q fact → (now : Term) → HasType [] now prop → (result : Result Theorem ConvFault)
    → IsConvAnswer (GivesUnfolded (algebra_of Q.declarations) fact now) (RefusesUnfolded (algebra_of Q.declarations) fact now) result → IfOk result (IsDerivable Q) → IsLinked Q now fact (step_answer result)
linked Q fact r now typed result h d = by result h d
  where
    shaped : (th : Theorem) (g : GivesUnfolded (algebra_of Q.declarations) fact now th) → th ≡ theorem (eq prop now g.unfolded) fact.rests
    shaped th g =
        let same : g.typ ≡ prop = typed-once [] now g.typ prop g.typed typed in
        g.is ∙ λ i. record { hyps = r.no_hyps i; pairs = r.no_pairs i; prop = eq (same i) now g.unfolded; rests = fact.rests }

    by : (result : Result Theorem ConvFault) → IsConvAnswer (GivesUnfolded (algebra_of Q.declarations) fact now) (RefusesUnfolded (algebra_of Q.declarations) fact now) result → IfOk result (IsDerivable Q) → IsLinked Q now fact (step_answer result)
    by (Ok th) (g, within) d =
        let is = shaped th g in
        let rests : th.rests ≡ fact.rests = ap (λ (t : Theorem). t.rests) is in
        (g.unfolded, g.unfolds, subst IsWithin (ap (λ (t : Theorem). t.prop) is) within.prop, record { is = is ∙ ap (theorem (eq prop now g.unfolded)) (sym rests); derivable = d }, rests)
    by (Err conv.Big) (th, g, wide) d = (g.unfolded, g.unfolds, λ w. wide (bare-within th (eq prop now g.unfolded) fact.rests (shaped th g) w))
    by (Err conv.Memory) h d = tt
    by (Err conv.NotDefinition) h d = h
    by (Err conv.NothingToUnfold) h d = h
    by (Err conv.NotEquality) h d = tt
    by (Err conv.MiddleDiffers) h d = tt
    by (Err conv.TypeDiffers) h d = tt
    by (Err (conv.FreeInHyps which)) h d = tt
    by (Err (conv.FreeInPairs which)) h d = tt

-- What joining two equations answers.
no-more : (As : List Term) → IsSetOf term_cmp [] As → As ≡ []
no-more As h = none_in As (each_of (λ A. IsIn A []) As (λ A m. (h.members A).0 m))

join : (Q : Content) (first now last : Term) (chain link : Theorem) → IsChained Q first now chain → IsChained Q now last link → (result : Result Theorem ConvFault)
    → IsConvAnswer (GivesTransitive chain link) (AsInference (RefusesTransitive chain link)) result → IfOk result (IsDerivable Q) → IsJoin Q first last chain link (step_answer result)
join Q first now last chain link c k result h d = by result h d
  where
    shaped : (th : Theorem) → GivesTransitive chain link th → th ≡ theorem (eq prop first last) th.rests
    shaped th g =
        let left : eq prop first now ≡ eq g.typ g.first g.middle = sym (prop-of Q first now chain c) ∙ g.left_is in
        let right : eq prop now last ≡ eq g.other g.middle g.last = sym (prop-of Q now last link k) ∙ g.right_is in
        let typ : g.typ ≡ prop = sym (typ-same prop g.typ first now g.first g.middle left) in
        let one : g.first ≡ first = sym (left-same prop g.typ first now g.first g.middle left) in
        let other : g.last ≡ last = sym (right-same prop g.other now last g.middle g.last right) in
        let no_hyps : chain.hyps ++ link.hyps ≡ [] = λ i. ap (λ (t : Theorem). t.hyps) c.is i ++ ap (λ (t : Theorem). t.hyps) k.is i in
        let hyps : th.hyps ≡ [] = no-more th.hyps (subst (λ (As : List Term). IsSetOf term_cmp As th.hyps) no_hyps g.joined.hyps) in
        let no_pairs : chain.pairs ++ link.pairs ≡ [] = λ i. ap (λ (t : Theorem). t.pairs) c.is i ++ ap (λ (t : Theorem). t.pairs) k.is i in
        let pairs : th.pairs ≡ [] = g.joined.pairs ∙ no_pairs in
        let same : th.prop ≡ eq prop first last = g.joined.prop ∙ λ i. eq (typ i) (one i) (other i) in
        λ i. record { hyps = hyps i; pairs = pairs i; prop = same i; rests = th.rests }

    by : (result : Result Theorem ConvFault) → IsConvAnswer (GivesTransitive chain link) (AsInference (RefusesTransitive chain link)) result → IfOk result (IsDerivable Q) → IsJoin Q first last chain link (step_answer result)
    by (Ok th) (g, within) d =
        let is = shaped th g in
        (subst IsWithin (ap (λ (t : Theorem). t.prop) is) within.prop, record { is = is; derivable = d }, g.joined.rests)
    by (Err conv.Big) (th, g, wide) d = λ w. wide (bare-within th (eq prop first last) th.rests (shaped th g) w)
    by (Err conv.Memory) h d = tt
    by (Err conv.NotDefinition) h d = absurd h
    by (Err conv.NothingToUnfold) h d = absurd h
    by (Err conv.NotEquality) h d = tt
    by (Err conv.MiddleDiffers) h d = tt
    by (Err conv.TypeDiffers) h d = tt
    by (Err (conv.FreeInHyps which)) h d = tt
    by (Err (conv.FreeInPairs which)) h d = tt

-- The same of two equations that are known to be such: the sides that they share needn't be compared.
pub join_known : (Q : Content) → IsTheoryContent Q → (first now last : Term) (chain link : Theorem) → IsChained Q first now chain → IsChained Q now last link → (T U : Typ) (a b d e : Term) → chain.prop ≡ eq T a b → link.prop ≡ eq U d e
    → (B : Term) → B ≡ eq T a e → (r : Result Theorem RuleFault) → IsAnswer (IsJoined chain link B) NoRefusal r → IsJoin Q first last chain link (step_answer (conv_answer r))
join_known Q q first now last chain link h k T U a b d e left right B is r answer =
    let over : eq T a b ≡ eq prop first now = sym left ∙ prop-of Q first now chain h in
    let under : eq U d e ≡ eq prop now last = sym right ∙ prop-of Q now last link k in
    let typ : T ≡ prop = typ-same T prop a b first now over in
    let one : a ≡ first = left-same T prop a b first now over in
    let other : e ≡ last = right-same U prop d e now last under in
    let made : B ≡ eq prop first last = is ∙ λ i. eq (typ i) (one i) (other i) in
    let gives = answer-along (IsJoined chain link B) (GivesTransitive chain link) (RefusesTransitive chain link)
    (λ th j. record { typ = prop; other = prop; first = first; middle = now; last = last; left_is = prop-of Q first now chain h; right_is = prop-of Q now last link k; joined = subst (λ A. IsJoined chain link A th) made j }) r answer in
    let derivable = answer-holds (GivesTransitive chain link) (RefusesTransitive chain link) (IsDerivable Q) (transitive-derived Q q chain link h.derivable k.derivable) r gives in
    join Q first now last chain link h k (conv_answer r) (answer_as (GivesTransitive chain link) (RefusesTransitive chain link) r (conv_answer r) refl gives) (given_as (IsDerivable Q) r (conv_answer r) refl derivable)

-- What a fact answers, from what the two answer.
pub taken : (Q : Content) (first now u : Term) (fact chain link : Theorem) → Unfolds (algebra_of Q.declarations) fact.prop now u → IsSmallEquation now u → link.rests ≡ fact.rests → (result : Result Theorem StepFault)
    → IsJoin Q first u chain link result → IsTaken Q first now fact chain result
taken Q first now u fact chain link f w e (Ok th) (small, c, set) = (u, TakesFact.unfolded f w small, c, subst (λ (ls : List Label). IsSetOf label_cmp (chain.rests ++ ls) th.rests) e set)
taken Q first now u fact chain link f w e (Err Big) n = TakesFact.large f (inr n)
taken Q first now u fact chain link f w e (Err Memory) h = tt
taken Q first now u fact chain link f w e (Err UnknownFact) h = absurd h
taken Q first now u fact chain link f w e (Err NoSubgoal) h = absurd h
taken Q first now u fact chain link f w e (Err NoPremise) h = absurd h
taken Q first now u fact chain link f w e (Err NotDefinition) h = absurd h
taken Q first now u fact chain link f w e (Err NothingToUnfold) h = absurd h
taken Q first now u fact chain link f w e (Err NoUnifier) h = absurd h
taken Q first now u fact chain link f w e (Err SearchBound) h = absurd h
taken Q first now u fact chain link f w e (Err Steps) h = absurd h
taken Q first now u fact chain link f w e (Err NoHypothesis) h = absurd h
taken Q first now u fact chain link f w e (Err SubgoalsLeft) h = absurd h

pub not-taken : (Q : Content) (first now : Term) (fact chain : Theorem) (fault : StepFault) → IsLinked Q now fact (Err fault) → IsTaken Q first now fact chain (Err fault)
not-taken Q first now fact chain NotDefinition h = TakesFact.no_definition h
not-taken Q first now fact chain NothingToUnfold h = TakesFact.nothing h
not-taken Q first now fact chain Big (u, f, n) = TakesFact.large f (inl n)
not-taken Q first now fact chain Memory h = tt
not-taken Q first now fact chain UnknownFact h = absurd h
not-taken Q first now fact chain NoSubgoal h = absurd h
not-taken Q first now fact chain NoPremise h = absurd h
not-taken Q first now fact chain NoUnifier h = absurd h
not-taken Q first now fact chain SearchBound h = absurd h
not-taken Q first now fact chain Steps h = absurd h
not-taken Q first now fact chain NoHypothesis h = absurd h
not-taken Q first now fact chain SubgoalsLeft h = absurd h

-- A loop over the facts has come to a proposition: what it comes to from there by the facts that are left, it comes to from the first.
pub record ComesSo (Q : Content) (first : Term) (facts : List Theorem) (i : ℕ) (th : Theorem) : Type 0 where
  pub now : Term
  pub chained : IsChained Q first now th
  pub goes : (end : Result Term StepFault) → ComesByFacts (algebra_of Q.declarations) first now (drop i facts) end → ComesByFacts (algebra_of Q.declarations) first first facts end
  pub set : IsSetOf label_cmp (all_rests (take i facts)) th.rests

pub comes-at_first : (Q : Content) → IsTheoryContent Q → (first : Term) → IsProposition Q first → (facts : List Theorem) (th : Theorem) → th ≡ theorem (eq prop first first) [] → ComesSo Q first facts 0 th
comes-at_first Q q first h facts th e = subst (ComesSo Q first facts 0) (sym e) (record {
  now = first;
  chained = record { is = refl; derivable = (derivable_is_proves Q [] [] (eq prop first first)).1 (reflexive_equality Q q.content q.above_pure [] [] prop first h) };
  goes = λ end f. f;
  set = record { ascends = no_labels; members = λ l. (λ m. m, λ m. m) };
})

rests-append : (ths : List Theorem) (fact : Theorem) (l : Label) → IsIn l (all_rests (ths ++ fact ∷ [])) → IsIn l (all_rests ths ++ fact.rests)
rests-append [] fact l m = elim (in_split l fact.rests [] m) [ inl a ↦ a | inr n ↦ absurd n ]
rests-append (th ∷ ths) fact l m = elim (in_split l th.rests (all_rests (ths ++ fact ∷ [])) m) [
  | inl a ↦ in-append_left l (th.rests ++ all_rests ths) fact.rests (in-append_left l th.rests (all_rests ths) a)
  | inr b ↦ elim (in_split l (all_rests ths) fact.rests (rests-append ths fact l b)) [
    | inl c ↦ in-append_left l (th.rests ++ all_rests ths) fact.rests (in-append_right l th.rests (all_rests ths) c)
    | inr d ↦ in-append_right l (th.rests ++ all_rests ths) fact.rests d
  ]
]

rests-append_back : (ths : List Theorem) (fact : Theorem) (l : Label) → IsIn l (all_rests ths) ⊎ IsIn l fact.rests → IsIn l (all_rests (ths ++ fact ∷ []))
rests-append_back [] fact l (inl a) = absurd a
rests-append_back [] fact l (inr b) = in-append_left l fact.rests [] b
rests-append_back (th ∷ ths) fact l (inr b) = in-append_right l th.rests (all_rests (ths ++ fact ∷ [])) (rests-append_back ths fact l (inr b))
rests-append_back (th ∷ ths) fact l (inl a) = elim (in_split l th.rests (all_rests ths) a) [
  | inl c ↦ in-append_left l th.rests (all_rests (ths ++ fact ∷ [])) c
  | inr d ↦ in-append_right l th.rests (all_rests (ths ++ fact ∷ [])) (rests-append_back ths fact l (inl d))
]

set-turn : (ths : List Theorem) (fact : Theorem) (old new : List Label) → IsSetOf label_cmp (all_rests ths) old → IsSetOf label_cmp (old ++ fact.rests) new → IsSetOf label_cmp (all_rests (ths ++ fact ∷ [])) new
set-turn ths fact old new h k = record {
  ascends = k.ascends;
  members = λ l. (
    λ m. rests-append_back ths fact l (elim (in_split l old fact.rests ((k.members l).0 m)) [ inl a ↦ inl ((h.members l).0 a) | inr b ↦ inr b ]),
    λ m. (k.members l).1 (elim (in_split l (all_rests ths) fact.rests (rests-append ths fact l m)) [ inl a ↦ in-append_left l old fact.rests ((h.members l).1 a) | inr b ↦ in-append_right l old fact.rests b ]),
  );
}

left-turn : (facts : List Theorem) (i : ℕ) (fact : Theorem) → i < length facts → fact ≡ get_or facts i fact → drop i facts ≡ fact ∷ drop (i + 1) facts
left-turn facts i fact within read = rw (add-one, drop-cons facts i fact, ← read) refl

pub comes-turn : (Q : Content) (first : Term) (facts : List Theorem) (i : ℕ) (fact : Theorem) → i < length facts → fact ≡ get_or facts i fact → (chain : Theorem) (c : ComesSo Q first facts i chain) → (new : Theorem)
    → IsTaken Q first c.now fact chain (Ok new) → ComesSo Q first facts (i + 1) new
comes-turn Q first facts i fact within read chain c new (u, f, k, set) = record {
  now = u;
  chained = k;
  goes = λ end rest. c.goes end (subst (λ (ths : List Theorem). ComesByFacts (algebra_of Q.declarations) first c.now ths end) (sym (left-turn facts i fact within read)) (ComesByFacts.goes_on f rest));
  set = subst (λ (ths : List Theorem). IsSetOf label_cmp (all_rests ths) new.rests) (sym (longer_by facts i fact within read)) (set-turn (take i facts) fact chain.rests new.rests c.set set);
}

-- A fact that isn't taken.
pub comes-fault : (Q : Content) (first : Term) (facts : List Theorem) (i : ℕ) (fact : Theorem) → i < length facts → fact ≡ get_or facts i fact → (chain : Theorem) (c : ComesSo Q first facts i chain) → (fault : StepFault)
    → IsTaken Q first c.now fact chain (Err fault) → AreTaken Q first facts (Err fault)
comes-fault Q first facts i fact within read chain c fault h = by fault h
  where
    failed : (f : StepFault) → TakesFact (algebra_of Q.declarations) first c.now fact (Err f) → ComesByFacts (algebra_of Q.declarations) first first facts (Err f)
    failed f t = c.goes (Err f) (subst (λ (ths : List Theorem). ComesByFacts (algebra_of Q.declarations) first c.now ths (Err f)) (sym (left-turn facts i fact within read)) (ComesByFacts.fails t))

    by : (f : StepFault) → IsTaken Q first c.now fact chain (Err f) → AreTaken Q first facts (Err f)
    by Memory t = tt
    by UnknownFact t = failed UnknownFact t
    by NoSubgoal t = failed NoSubgoal t
    by NoPremise t = failed NoPremise t
    by NotDefinition t = failed NotDefinition t
    by NothingToUnfold t = failed NothingToUnfold t
    by NoUnifier t = failed NoUnifier t
    by SearchBound t = failed SearchBound t
    by Steps t = failed Steps t
    by Big t = failed Big t
    by NoHypothesis t = failed NoHypothesis t
    by SubgoalsLeft t = failed SubgoalsLeft t

-- No fact is left.
pub comes-end : (Q : Content) (first : Term) (facts : List Theorem) (i : ℕ) (chain : Theorem) → length facts ≤ i → ComesSo Q first facts i chain → AreTaken Q first facts (Ok chain)
comes-end Q first facts i chain full c = (
  c.now,
  c.goes (Ok c.now) (subst (λ (ths : List Theorem). ComesByFacts (algebra_of Q.declarations) first c.now ths (Ok c.now)) (sym (drop_all i facts full)) ComesByFacts.no_more),
  c.chained,
  subst (λ (ths : List Theorem). IsSetOf label_cmp (all_rests ths) chain.rests) (take_all i facts full) c.set,
)

-- The goal's first subgoal is a proposition.
pub first-proposition : (Q : Content) (goal : Theorem) → MayStep Q goal → (first : Term) → IsFirstSubgoal goal first → IsProposition Q first
first-proposition Q goal may first (B, e) =
    (subgoals_are_propositions Q may.content.content may.content.above_pure goal (first ∷ []) B e may.derivable).0

-- The equation is one for the goal.
pub equation-for : (Q : Content) (goal : Theorem) → MayStep Q goal → (first : Term) → IsFirstSubgoal goal first → (last : Term) (th : Theorem) → IsChained Q first last th → IsEquationFor goal th
equation-for Q goal may first (B, e) last th c =
    let g = may.is in
    let p = first-premise goal.prop first B g.state.subgoals g.state.statement e g.is.prop in
    record {
      state = g.state;
      is = g.is;
      left = first;
      right = last;
      others = p.rest;
      stand = p.is;
      equates = prop-of Q first last th c;
      right_typed = (prop, (now-proposition Q may.content first last th c).typed);
      no_hyps = ap (λ (t : Theorem). t.hyps) c.is;
      no_pairs = ap (λ (t : Theorem). t.pairs) c.is;
    }

set-along : (old first second new : List Label) → IsSetOf label_cmp second first → IsSetOf label_cmp (old ++ first) new → IsSetOf label_cmp (old ++ second) new
set-along old first second new h k = record {
  ascends = k.ascends;
  members = λ l. (
    λ m. elim (in_split l old first ((k.members l).0 m)) [ inl a ↦ in-append_left l old second a | inr b ↦ in-append_right l old second ((h.members l).0 b) ],
    λ m. (k.members l).1 (elim (in_split l old second m) [ inl a ↦ in-append_left l old first a | inr b ↦ in-append_right l old first ((h.members l).1 b) ]),
  );
}

module _ (Q : Content) (goal : Theorem) (may : MayStep Q goal) (first : Term) (is : IsFirstSubgoal goal first) (facts : List Theorem) where
  stands : (s : State) → IsTheoremOf s goal → (others : List Term) × (s.subgoals ≡ first ∷ others)
  stands s h = let p = first-premise goal.prop first is.0 s.subgoals s.statement is.1 h.prop in (p.rest, p.is)

  -- The facts are unfolded, and the goal is converted.
  pub unfold-converted : (equation : Theorem) → AreTaken Q first facts (Ok equation) → (result : Result Goal StepFault) → IsStep (λ s. ConversionStep s equation) goal (IsSetOf label_cmp (goal.rests ++ equation.rests)) result
      → IsStep (λ s. UnfoldStep (algebra_of Q.declarations) s facts) goal (IsSetOf label_cmp (goal.rests ++ all_rests facts)) result
  unfold-converted equation (last, comes, chained, set) result step =
      step_map_at step
    where
      along : (s : State) → IsTheoremOf s goal → (outcome : Outcome) → ConversionStep s equation outcome → UnfoldStep (algebra_of Q.declarations) s facts outcome
      along s h outcome f =
          let stand = stands s h in
          UnfoldStep.converted stand.1 comes (record { left = f.left; right = f.right; others = f.others; stand = f.stand; equates = sym (prop-of Q first last equation chained) ∙ f.equates; becomes = f.becomes })

      step_map_at : IsStep (λ s. ConversionStep s equation) goal (IsSetOf label_cmp (goal.rests ++ equation.rests)) result → IsStep (λ s. UnfoldStep (algebra_of Q.declarations) s facts) goal (IsSetOf label_cmp (goal.rests ++ all_rests facts)) result
      step_map_at (s, h, kept, outcome) = (
        s,
        h,
        kept,
        outcome_map (ConversionStep s equation) (UnfoldStep (algebra_of Q.declarations) s facts) (IsSetOf label_cmp (goal.rests ++ equation.rests)) (IsSetOf label_cmp (goal.rests ++ all_rests facts))
            (along s h) (λ rests k. set-along goal.rests equation.rests (all_rests facts) rests set k) result outcome,
      )

  -- A fact isn't taken.
  pub unfold-fault : (R : List Label → Type 0) (fault : StepFault) → AreTaken Q first facts (Err fault) → IsStep (λ s. UnfoldStep (algebra_of Q.declarations) s facts) goal R (Err fault)
  unfold-fault R fault h = (may.is.state, may.is.is, may.is.goal, by fault h)
    where
      refused : (f : StepFault) → ComesByFacts (algebra_of Q.declarations) first first facts (Err f) → UnfoldStep (algebra_of Q.declarations) may.is.state facts (Err f)
      refused f c = UnfoldStep.refused (stands may.is.state may.is.is).1 c

      by : (f : StepFault) → AreTaken Q first facts (Err f) → IsOutcome (UnfoldStep (algebra_of Q.declarations) may.is.state facts) R (Err f)
      by Memory c = tt
      by UnknownFact c = refused UnknownFact c
      by NoSubgoal c = refused NoSubgoal c
      by NoPremise c = refused NoPremise c
      by NotDefinition c = refused NotDefinition c
      by NothingToUnfold c = refused NothingToUnfold c
      by NoUnifier c = refused NoUnifier c
      by SearchBound c = refused SearchBound c
      by Steps c = refused Steps c
      by Big c = refused Big c
      by NoHypothesis c = refused NoHypothesis c
      by SubgoalsLeft c = refused SubgoalsLeft c

-- There is no subgoal.
pub unfold-none : (Q : Content) (goal : Theorem) → MayStep Q goal → (facts : List Theorem) (R : List Label → Type 0) (A : Term) → A ≡ goal.prop → IsNoImplication A → IsStep (λ s. UnfoldStep (algebra_of Q.declarations) s facts) goal R (Err NoSubgoal)
unfold-none Q goal may facts R A e n =
    let g = may.is in
    (g.state, g.is, g.goal, UnfoldStep.no_subgoal (no-premise A g.state.subgoals g.state.statement n (e ∙ g.is.prop)))
