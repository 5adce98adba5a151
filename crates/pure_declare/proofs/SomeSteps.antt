-- Each step of a command has an answer.
use Rattle.std.proofs.Common.{◌≡◌, ◌≢◌, ◌⊎◌, ◌<◌, ◌≤◌, ℕ, zero, suc, ◌+◌, List, [], ◌∷◌, length, map, refl, sym, ap, subst, inl, inr, arith}
use Rattle.std.specs.Prelude.{Option, Some, None, Result, Ok, Err, slice_get, slice_range}
use Rattle.std.proofs.lemmas.Bool.Decides.{eqb_tells, leb_tells}
use Rattle.pure_text.specs.Lists.{IsIn, Each, EachTwo, AnyOf}
use Rattle.pure_text.proofs.ListLaws.{any_some, any_of}
use Rattle.pure_definitions.specs.Types.Typ.{Typ, prop}
use Rattle.pure_definitions.specs.Types.Order.{Algebra, IsClassBelow, itself, along, IsCoregular}
use Rattle.pure_definitions.specs.Terms.Term.{Term, IsWithin, term_size, term_depth, max_size, max_depth}
use Rattle.pure_definitions.specs.Terms.Subst.{TypBind, inst_typ}
use Rattle.pure_definitions.specs.Reduction.Beta as beta
use Rattle.pure_definitions.specs.Reduction.Beta.{BetaAnswer, IsBetaAnswer}
use Rattle.pure_definitions.proofs.OrderLaws.{below-trans}
use Rattle.pure_term_laws.proofs.BetaLaws.{some_beta_answer}
use Rattle.pure_order.specs.OrderTables.Classes.{IsAntisymmetric}
use Rattle.pure_order.specs.Domains.{IsAboveAnother}
use Rattle.pure_tunify.specs.Settings.{composed}
use Rattle.pure_tunify.specs.Procedure.{Outcome, Unified, NotTyped, TooBig, Unifies, over, no_typing, big, next}
use Rattle.pure_tunify.specs.declared.pair.TypPair.{TypPair}
use Rattle.pure_tunify.specs.Unifiers.{IsOldPair}
use Rattle.pure_tunify.proofs.ReducedLaws.{AreReduced, reduced_of, reduced_rises}
use Rattle.pure_tunify.proofs.SettingLaws.{instance_pairs-identity}
use Rattle.pure_tunify.proofs.OutcomeLaws.{unifies_some}
use Rattle.pure_grammar.specs.Theories.TheoryText.{Span}
use Rattle.pure_grammar.specs.Terms.RawTree.{RawTypTree, RawTree}
use Rattle.pure_lex.proofs.Existence.{some_reading}
use Rattle.pure_lex.proofs.Steps.{range_ends}
use Rattle.pure_read.specs.Stuck.{IsTooLong, most_tokens}
use Rattle.pure_elab.specs.Vocabulary.{Vocabulary}
use Rattle.pure_elab.specs.Table.{IsSortOf}
use Rattle.pure_elab.specs.Written.{IsReducedSort, AreSorts, classes_at, term_classes, typ_classes, written_typ}
use Rattle.pure_elab.specs.Faults.{IsEarliest, earliest, term_faults, typ_faults}
use Rattle.pure_elab.specs.Drafts.{Draft, whole_draft, pair_of}
use Rattle.pure_elab.specs.Numbered.{with_fixed}
use Rattle.pure_elab.specs.Answers.{IsFixedTyp, IsDraftOf, Comes}
use Rattle.pure_elab.specs.declared.classes.WrittenClass.{WrittenClass}
use Rattle.pure_elab.specs.declared.fault.FaultAt.{FaultAt}
use Rattle.pure_elab.specs.declared.fault.NameFault.{NameFault}
use Rattle.pure_elab.specs.declared.fault.NameFault.TheVariants as name
use Rattle.pure_elab.specs.declared.fault.ElabFault.TheVariants as elab
use Rattle.pure_elab.proofs.EarliestLaws.{earliest_decides, none_found}
use Rattle.pure_elab.proofs.OldLaws.{whole_is_old}
use Rattle.pure_elab.proofs.CallLaws.{prop_is_fixed}
use Rattle.pure_statements.specs.declared.reason.Reason.{Reason}
use Rattle.pure_statements.specs.declared.reason.Reason.TheVariants.{Syntax, TooLong, TooLarge, UnknownClass, UnknownNameAt, UnknownClassAt, WrongCountAt, SchematicAt, IllTyped}
use Rattle.pure_statements.specs.Chain.{Then, Unless, Gives, Found, refuses, goes_on, holds, passes}
use Rattle.pure_statements.specs.Quoted.{AreTokensOf, IsTermOf, IsTypeOf, IsReadTerm, IsReadTyp, ended_at}
use Rattle.pure_statements.specs.Elaborated.{IsTypedTerm, IsWrittenTyp}
use Rattle.pure_statements.specs.Statement.{IsNormalised, IsLarge, max_statement, IsStatedNormal, IsStatedTerm, IsStatedTree, IsStated, IsStatedTyp, stated}
use Rattle.pure_declare.specs.Lookups.{AreWritten, HasUnknown, AreWrittenClasses, IsWrittenSort, AreWrittenSorts}
use Rattle.pure_declare.specs.Premises.{LiesIn}
use Rattle.pure_declare.proofs.SomeTexts.{term-or-fault, type-or-fault}
use Rattle.pure_declare.proofs.OnceSteps.{answer_of}

-- There is an answer.
abbrev pub Answered : {A : Type 0} → (Result A Reason → Type 0) → Type 0
Answered {A} Is = (r : Result A Reason) × Is r

pub gives-some : {A : Type 0} (a : A) → Answered (Gives a)
gives-some a = (Ok a, refl)

pub found-some : {A : Type 0} (o : Option A) (why : Reason) → Answered (Found o why)
found-some None why = (Err why, refl)
found-some (Some a) why = (Ok a, refl)

pub then-some : {A B : Type 0} (first : Result A Reason → Type 0) (after : A → Result B Reason → Type 0) → Answered first → ((a : A) → first (Ok a) → Answered (after a)) → Answered (Then first after)
then-some first after (Err p, h) n = (Err p, refuses p h refl)
then-some first after (Ok a, h) n = let more = n a h in (more.0, goes_on a h more.1)

pub unless-some : {B : Type 0} (P : Type 0) (reason : Reason) (after : Result B Reason → Type 0) → P ⊎ (P → ⊥) → ((P → ⊥) → Answered after) → Answered (Unless P reason after)
unless-some P reason after (inl p) n = (Err reason, holds p refl)
unless-some P reason after (inr nope) n = let more = n nope in (more.0, passes nope more.1)

-- A number is at most another or isn't.
pub at_most_or_not : (a b : ℕ) → (a ≤ b) ⊎ (a ≤ b → ⊥)
at_most_or_not a b = elim (leb_tells a b) [ inl w ↦ inl w.1 | inr w ↦ inr (λ h. let above = w.1 in absurd (omega arith)) ]

pub below_or_not : (a b : ℕ) → (a < b) ⊎ (a < b → ⊥)
below_or_not a b = elim (leb_tells b a) [ inl w ↦ inr (λ h. let least = w.1 in absurd (omega arith)) | inr w ↦ inl w.1 ]

-- Texts that are read.
module _ (source : List ℕ) (span : Span) (lies : LiesIn source span) where
  tokens-some : Answered (AreTokensOf source span)
  tokens-some =
      let ends = range_ends source span.from span.to lies.order lies.within in
      elim (some_reading span.to (slice_range source span.from span.to) (omega arith)) [ inl t ↦ (Ok t.0, t.1) | inr f ↦ (Err (Syntax f.0), (f.0, f.1, refl)) ]

  pub read_term-some : Answered (IsReadTerm source span)
  read_term-some = then-some (AreTokensOf source span) (λ tokens. Unless (IsTooLong tokens) TooLong (IsTermOf source span tokens)) tokens-some
      (λ tokens h. unless-some (IsTooLong tokens) TooLong (IsTermOf source span tokens) (below_or_not most_tokens (length tokens))
      (λ short. elim (term-or-fault source tokens) [ inl t ↦ (Ok t.0, t.1) | inr f ↦ (Err (Syntax (ended_at source span f.0)), (f.0, f.1, refl)) ]))

  read_typ-some : Answered (IsReadTyp source span)
  read_typ-some = then-some (AreTokensOf source span) (λ tokens. Unless (IsTooLong tokens) TooLong (IsTypeOf source span tokens)) tokens-some
      (λ tokens h. unless-some (IsTooLong tokens) TooLong (IsTypeOf source span tokens) (below_or_not most_tokens (length tokens))
      (λ short. elim (type-or-fault source tokens) [ inl t ↦ (Ok t.0, t.1) | inr f ↦ (Err (Syntax (ended_at source span f.0)), (f.0, f.1, refl)) ]))

-- Normal forms.
normal-answer : (t : Term) (a : BetaAnswer) → IsBetaAnswer t a → IsNormalised t (answer_of a)
normal-answer t (beta.NormalForm u) h = h
normal-answer t beta.TooLarge h = h
normal-answer t beta.TooManySteps h = h

pub normalised-some : (t : Term) → Answered (IsNormalised t)
normalised-some t = let a = some_beta_answer t in (answer_of a.0, normal-answer t a.0 a.1)

-- A list of classes has a reduced union.
module _ (A : Algebra) (anti : IsAntisymmetric A) where
  sort-reduced : (xs us : List ℕ) → AreReduced A xs us → IsReducedSort A xs us
  sort-reduced xs us h = record { reduced = λ c. (λ m. (h.among c m, least c m), λ k. there c k.0 k.1); ascend = reduced_rises A xs us h }
    where
      least : (c : ℕ) → IsIn c us → IsAboveAnother A xs c → ⊥
      least c m any =
          let b = any_some (λ b. (b ≢ c) × IsClassBelow A b c) xs any in
          let u = any_some (λ u. IsClassBelow A u b.0) us (h.below b.0 b.1) in
          let same : u.0 ≡ c = h.apart u.0 c u.1 m (below-trans u.2 b.2.1) in
          b.2.0 (anti b.0 c b.2.1 (subst (λ n. IsClassBelow A n b.0) same u.2))

      there : (c : ℕ) → IsIn c xs → (IsAboveAnother A xs c → ⊥) → IsIn c us
      there c m none =
          let u = any_some (λ u. IsClassBelow A u c) us (h.below c m) in
          elim (eqb_tells u.0 c) [
            | inl same ↦ subst (λ n. IsIn n us) same.1 u.1
            | inr other ↦ absurd (none (any_of (λ b. (b ≢ c) × IsClassBelow A b c) u.0 xs (h.among u.0 u.1) (other.1, u.2)))
          ]

  pub reduced-some : (xs : List ℕ) → (us : List ℕ) × IsReducedSort A xs us
  reduced-some xs = let r = reduced_of A xs in (r.0, sort-reduced xs r.0 r.1)

-- A list of classes has a sort with just these.
no-inclusions : {c d : ℕ} → IsClassBelow (record { classes = []; arities = [] }) c d → c ≡ d
no-inclusions itself = refl
no-inclusions (along i h) = absurd i.1

sort-some : (xs : List ℕ) → (us : List ℕ) × IsSortOf xs us
sort-some xs =
    let A : Algebra = record { classes = []; arities = [] } in
    let r = reduced_of A xs in (
      r.0,
      record {
        ascend = reduced_rises A xs r.0 r.1;
        members = λ c. (λ m. r.1.among c m, λ m. let u = any_some (λ u. IsClassBelow A u c) r.0 (r.1.below c m) in subst (λ n. IsIn n r.0) (no-inclusions u.2) u.1);
      },
    )

-- A constraint at which typing fails is one of the list.
unifies-place : {A : Algebra} {index at n : ℕ} {sets : List TypBind} {ps : List TypPair} {o : Outcome} → Unifies A index at n sets ps o → (k : ℕ) → o ≡ NotTyped k → (i : ℕ) × (k ≡ at + i) × (i < length ps)
unifies-place over k e = absurd (cc)
unifies-place (no_typing {at = at} b) k e = let same : at ≡ k = cc in (0, omega arith, omega arith)
unifies-place (big h beyond) k e = absurd (cc)
unifies-place (next {at = at} h within rest) k e = let r = unifies-place rest k e in let place = r.1 in let few = r.2 in (suc r.0, omega arith, omega arith)

stands : {A : Type 0} (xs : List A) (i : ℕ) → i < length xs → (x : A) × (slice_get xs i ≡ Some x)
stands [] i h = absurd (omega (arith, h))
stands (x ∷ xs) zero h = (x, refl)
stands (x ∷ xs) (suc i) h = stands xs i (omega (arith, h))

long-map : {A B : Type 0} (f : A → B) (xs : List A) → length (map f xs) ≡ length xs
long-map f [] = refl
long-map f (x ∷ xs) = ap suc (long-map f xs)

within_or_not : (t : Term) → IsWithin t ⊎ (IsWithin t → ⊥)
within_or_not t = elim (at_most_or_not (term_size t) max_size) [
  | inl size ↦ elim (at_most_or_not (term_depth t) max_depth) [ inl depth ↦ inl (record { size = size; depth = depth }) | inr deep ↦ inr (λ h. deep h.depth) ]
  | inr large ↦ inr (λ h. large h.size)
]

module _ (V : Vocabulary) (anti : IsAntisymmetric V.algebra) where
  -- the fault of a name
  name-answer : (T : Typ) (raw : RawTree) (at : ℕ) (f : NameFault) → IsEarliest (term_faults V [] raw) (record { at = at; fault = f }) → Answered (IsTypedTerm V T raw)
  name-answer T raw at name.UnknownName h = (Err (UnknownNameAt at), (elab.UnknownName at, record { found = record { at = at; fault = name.UnknownName }; earliest = h; is = refl }, refl))
  name-answer T raw at name.UnknownSort h = (Err (UnknownClassAt at), (elab.UnknownSort at, record { found = record { at = at; fault = name.UnknownSort }; earliest = h; is = refl }, refl))
  name-answer T raw at name.WrongCount h = (Err (WrongCountAt at), (elab.WrongCount at, record { found = record { at = at; fault = name.WrongCount }; earliest = h; is = refl }, refl))
  name-answer T raw at name.Schematic h = (Err (SchematicAt at), (elab.Schematic at, record { found = record { at = at; fault = name.Schematic }; earliest = h; is = refl }, refl))

  typ-name-answer : (raw : RawTypTree) (at : ℕ) (f : NameFault) → IsEarliest (typ_faults V raw) (record { at = at; fault = f }) → Answered (IsWrittenTyp V raw)
  typ-name-answer raw at name.UnknownName h = (Err (UnknownNameAt at), (elab.UnknownName at, record { found = record { at = at; fault = name.UnknownName }; earliest = h; is = refl }, refl))
  typ-name-answer raw at name.UnknownSort h = (Err (UnknownClassAt at), (elab.UnknownSort at, record { found = record { at = at; fault = name.UnknownSort }; earliest = h; is = refl }, refl))
  typ-name-answer raw at name.WrongCount h = (Err (WrongCountAt at), (elab.WrongCount at, record { found = record { at = at; fault = name.WrongCount }; earliest = h; is = refl }, refl))
  typ-name-answer raw at name.Schematic h = (Err (SchematicAt at), (elab.Schematic at, record { found = record { at = at; fault = name.Schematic }; earliest = h; is = refl }, refl))

  -- what comes of a draft
  outcome-answer : (T : Typ) (raw : RawTree) (d : Draft) → IsDraftOf V raw T d → (o : Outcome) → Comes V d o → Answered (IsTypedTerm V T raw)
  outcome-answer T raw d of (Unified sets n) comes = elim (within_or_not (inst_typ (composed sets) d.term)) [
    | inl within ↦ (Ok (with_fixed V.fresh (inst_typ (composed sets) d.term)), record { draft = d; of_text = of; typed = record { sets = sets; next = n; unifies = comes; within = within; is = refl } })
    | inr beyond ↦ (Err TooLarge, (elab.Big, record { draft = d; of_text = of; reason = inl (record { sets = sets; next = n; unifies = comes; beyond = beyond }) }, refl))
  ]
  outcome-answer T raw d of (NotTyped k) comes =
      let place = unifies-place comes k refl in
      let where_is = place.1 in
      let few = place.2 in
      let long = long-map pair_of d.constraints in
      let there = stands d.constraints k (omega arith) in
      (Err (IllTyped there.0.at), (elab.IllTyped there.0.at, record { draft = d; of_text = of; reason = record { number = k; constraint = there.0; unifies = comes; stands = there.1; place = refl } }, refl))
  outcome-answer T raw d of (TooBig k) comes = (Err TooLarge, (elab.Big, record { draft = d; of_text = of; reason = inr (k, comes) }, refl))

  -- the sorts of the type variables
  abbrev sorts_for : List WrittenClass → ℕ → List ℕ
  sorts_for written x = (reduced-some V.algebra anti (classes_at written x)).0

  are_sorts_for : (written : List WrittenClass) → AreSorts V.algebra written (sorts_for written)
  are_sorts_for written x = (reduced-some V.algebra anti (classes_at written x)).1

  draft-answer : IsCoregular V.algebra → (T : Typ) (raw : RawTree) → IsFixedTyp T → (d : Draft) → IsDraftOf V raw T d → d ≡ whole_draft V (sorts_for (term_classes V raw)) raw T → Answered (IsTypedTerm V T raw)
  draft-answer coregular T raw fixed d of is =
      let old : Each (IsOldPair 2 0) (map pair_of d.constraints) = subst (λ (e : Draft). Each (IsOldPair 2 0) (map pair_of e.constraints)) (sym is) (whole_is_old V (sorts_for (term_classes V raw)) raw T fixed) in
      let comes = unifies_some V.algebra coregular 2 (map pair_of d.constraints) 0 0 [] (subst (Each (IsOldPair 2 0)) (sym (instance_pairs-identity (map pair_of d.constraints))) old) in
      outcome-answer T raw d of comes.0 comes.1

  term-answer : IsCoregular V.algebra → (T : Typ) (raw : RawTree) → IsFixedTyp T → (o : Option FaultAt) → earliest None (term_faults V [] raw) ≡ o → Answered (IsTypedTerm V T raw)
  term-answer coregular T raw fixed (Some f) e = name-answer T raw f.at f.fault (earliest_decides (term_faults V [] raw) f e)
  term-answer coregular T raw fixed None e =
      draft-answer coregular T raw fixed (whole_draft V (sorts_for (term_classes V raw)) raw T)
      (record { sound = none_found (term_faults V [] raw) e; sorts = sorts_for (term_classes V raw); are_sorts = are_sorts_for (term_classes V raw); is = refl }) refl

  pub typed-some : IsCoregular V.algebra → (T : Typ) (raw : RawTree) → IsFixedTyp T → Answered (IsTypedTerm V T raw)
  typed-some coregular T raw fixed = term-answer coregular T raw fixed (earliest None (term_faults V [] raw)) refl

  typ-answer : (raw : RawTypTree) → (o : Option FaultAt) → earliest None (typ_faults V raw) ≡ o → Answered (IsWrittenTyp V raw)
  typ-answer raw (Some f) e = typ-name-answer raw f.at f.fault (earliest_decides (typ_faults V raw) f e)
  typ-answer raw None e =
      (Ok (written_typ V (sorts_for (typ_classes V raw)) raw), record { sound = none_found (typ_faults V raw) e; sorts = sorts_for (typ_classes V raw); are_sorts = are_sorts_for (typ_classes V raw); is = refl })

  written-some : (raw : RawTypTree) → Answered (IsWrittenTyp V raw)
  written-some raw = typ-answer raw (earliest None (typ_faults V raw)) refl

  pub stated_typ-some : (source : List ℕ) (span : Span) → LiesIn source span → Answered (IsStatedTyp V source span)
  stated_typ-some source span lies = then-some (IsReadTyp source span) (IsWrittenTyp V) (read_typ-some source span lies) (λ raw h. written-some raw)

  pub stated-some : IsCoregular V.algebra → (source : List ℕ) (span : Span) → LiesIn source span → Answered (IsStated V source span)
  stated-some coregular source span lies = then-some (IsReadTerm source span) (IsStatedTree V) (read_term-some source span lies)
      (λ raw h. then-some (IsTypedTerm V prop raw) IsStatedTerm (typed-some coregular prop raw prop_is_fixed)
      (λ t k. then-some (IsNormalised t) IsStatedNormal (normalised-some t)
      (λ u n. unless-some (IsLarge u) TooLarge (Gives (stated u)) (below_or_not max_statement (term_size u)) (λ small. gives-some (stated u)))))

-- Written classes and sorts.
module _ (V : Vocabulary) where
  -- The names are those of classes, or one of them means none.
  classes-or-unknown : (ws : List (List ℕ)) → ((cs : List ℕ) × AreWritten V ws cs) ⊎ HasUnknown V ws
  classes-or-unknown [] = inl ([], tt)
  classes-or-unknown (w ∷ ws) = by (V.class_written w) refl (classes-or-unknown ws)
    where
      by : (o : Option ℕ) → V.class_written w ≡ o → ((cs : List ℕ) × AreWritten V ws cs) ⊎ HasUnknown V ws → ((cs : List ℕ) × AreWritten V (w ∷ ws) cs) ⊎ HasUnknown V (w ∷ ws)
      by None e rest = inr (inl e)
      by (Some c) e (inl rest) = inl (c ∷ rest.0, (e, rest.1))
      by (Some c) e (inr rest) = inr (inr rest)

  pub classes-some : (ws : List (List ℕ)) → Answered (AreWrittenClasses V ws)
  classes-some ws = elim (classes-or-unknown ws) [ inl h ↦ (Ok h.0, h.1) | inr h ↦ (Err UnknownClass, (h, refl)) ]

  sorts-or-unknown : (ws : List (List (List ℕ))) → ((ss : List (List ℕ)) × EachTwo (IsWrittenSort V) ws ss) ⊎ AnyOf (HasUnknown V) ws
  sorts-or-unknown [] = inl ([], tt)
  sorts-or-unknown (w ∷ ws) = elim (classes-or-unknown w) [
    | inl h ↦ elim (sorts-or-unknown ws) [ inl rest ↦ (let s = sort-some h.0 in inl (s.0 ∷ rest.0, ((h.0, h.1, s.1), rest.1))) | inr rest ↦ inr (inr rest) ]
    | inr h ↦ inr (inl h)
  ]

  pub sorts-some : (ws : List (List (List ℕ))) → Answered (AreWrittenSorts V ws)
  sorts-some ws = elim (sorts-or-unknown ws) [ inl h ↦ (Ok h.0, h.1) | inr h ↦ (Err UnknownClass, (h, refl)) ]
