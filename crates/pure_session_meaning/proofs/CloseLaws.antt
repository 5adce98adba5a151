-- Each theory of a session closes.
use Rattle.std.proofs.Common.{◌≡◌, ◌⊎◌, ◌<◌, ◌≤◌, ◌+◌, ℕ, zero, suc, List, [], ◌∷◌, ◌++◌, length, Some, slice_get, inl, inr, refl, sym, ap, subst, arith}
use Rattle.std.specs.List.{flat_map}
use Rattle.pure_text.specs.Lists.{Each}
use Rattle.pure_typ.specs.NameTexts.{HasText}
use Rattle.pure_definitions.specs.Declarations.Decl.{Decl}
use Rattle.pure_logic.specs.Content.{Content}
use Rattle.pure_logic.specs.Beginning.{IsMerge, ancestors_of}
use Rattle.pure_graph.specs.Order.{Loaded}
use Rattle.pure_graph.specs.Session.{parent_refused_text}
use Rattle.pure_statements.specs.ReasonText.{reason_text}
use Rattle.pure_statements.specs.declared.reason.Reason.TheVariants.{NotCoregular}
use Rattle.pure_session_laws.specs.Well.{IsWellLoaded}
use Rattle.pure_session_laws.specs.Loaded.{IsLoadedSession}
use Rattle.pure_session_meaning.specs.Verdicts.{Verdict, Barred, Ran, IsTheoryAt, refused_theory, IsFirstBarred, AreLast, beginning_over, Begins, by_parent, not_coregular, Closes, barred, ran, AllClose, nothing, also}
use Rattle.pure_session_meaning.specs.Statements.{notes_of, AreStatements}
use Rattle.pure_session_meaning.proofs.StepLaws.{run_begins}
use Rattle.pure_session_meaning.proofs.EndLaws.{runs_close}
use Rattle.pure_session_meaning.proofs.OwnerLaws.{theories_may_begin}
use Rattle.pure_session_meaning.specs.Closing.{TheoryCloses}
use Rattle.pure_session_meaning.proofs.ParentLaws.{contents_merge_or_not}

module _ (texts : List (List ℕ)) (theories : List Loaded) where
  -- What closes is a theory of the session.
  closed-at : (index : ℕ) (v : Verdict) → Closes texts theories index v → (theory : Loaded) × IsTheoryAt theories index theory
  closed-at index v (barred {theory = theory} is_at all why) = (theory, is_at)
  closed-at index v (ran {theory = theory} is_at all begins declared) = (theory, is_at)

  abbrev IsBarredOrLast : (indexes : List ℕ) → List Verdict → Type 0
  IsBarredOrLast indexes verdicts = ((name : List ℕ) × IsFirstBarred theories indexes verdicts name) ⊎ ((contents : List Content) × AreLast verdicts contents)

  -- Of theories that closed one is the first that was refused, or all ran.
  barred_or_last : (indexes : List ℕ) (verdicts : List Verdict) → AllClose texts theories indexes verdicts → IsBarredOrLast indexes verdicts
  barred_or_last _ _ nothing = inr ([], tt)
  barred_or_last _ _ (also {index = index} {indexes = indexes} {verdict = Barred row} {verdicts = verdicts} c cs) =
      let at = closed-at index (Barred row) c in inl (at.0.name, (at.0, at.1, refl))
  barred_or_last _ _ (also {index = index} {indexes = indexes} {verdict = Ran notes last} {verdicts = verdicts} c cs) = elim (barred_or_last indexes verdicts cs) [
    | inl found ↦ inl (found.0, found.1)
    | inr all ↦ inr (last ∷ all.0, ((notes, refl), all.1))
  ]

  some-parent : (contents : List Content) → ¬ (beginning_over contents ≡ [])
  some-parent [] e = absurd (cc)
  some-parent (Q ∷ Qs) e = absurd (cc)

  module _ (session : IsLoadedSession texts theories) where
    well : (place : ℕ) (theory : Loaded) → slice_get theories place ≡ Some theory → IsWellLoaded texts theory
    well place theory held = well-at theories session.well place held
      where
        some-same : (a b : Loaded) → Some a ≡ Some b → a ≡ b
        some-same a b e = cc

        well-at : (ls : List Loaded) → Each (IsWellLoaded texts) ls → (i : ℕ) → slice_get ls i ≡ Some theory → IsWellLoaded texts theory
        well-at [] h i e = absurd (cc)
        well-at (l ∷ ls) h zero e = subst (IsWellLoaded texts) (some-same l theory e) h.0
        well-at (l ∷ ls) h (suc i) e = well-at ls h.1 i e

    module _ (index : ℕ) (theory : Loaded) (is_at : IsTheoryAt theories index theory) (parents : List Verdict) (closed : AllClose texts theories theory.parents parents) where
      abbrev IsClosed : Type 0
      IsClosed = (v : Verdict) × Closes texts theories index v

      begun : (contents : List Content) → AreLast parents contents → (merged : List Decl) → IsMerge (beginning_over contents) merged → (name : ℕ) → HasText texts name theory.name → IsClosed
      begun contents last merged merge name text =
          let first : Content = record { declarations = merged; own = Some (record { name = name; index = index }); ancestors = ancestors_of (beginning_over contents) } in
          let begins : Begins texts index theory parents first = record {
            contents = contents;
            last = last;
            name = name;
            text = text;
            may = theories_may_begin texts theories session index theory is_at parents closed contents last name text;
            begins = record { some_parent = some-parent contents; merge = merge; own = refl; ancestors = refl };
          } in
          let rest = runs_close texts theories session index [] first theory.text.commands (run_begins texts theories index theory is_at parents closed first begins) in
          (Ran rest.0 rest.1, rest.2)

      over : (contents : List Content) → AreLast parents contents → IsClosed
      over contents last = elim (contents_merge_or_not (beginning_over contents)) [
        | inl w ↦ (let named = (well is_at.0 theory is_at.2).named in begun contents last w.0 w.1 named.0 named.1)
        | inr w ↦ (Barred (refused_theory theory.name (reason_text texts [] (NotCoregular w.0 w.1 w.2))), barred is_at closed (not_coregular contents last w.0 w.1 w.2 w.3 refl))
      ]

      closes : IsClosed
      closes = elim (barred_or_last theory.parents parents closed) [
        | inl found ↦ (Barred (refused_theory theory.name (parent_refused_text ++ found.0)), barred is_at closed (by_parent found.0 found.1 refl))
        | inr all ↦ over all.0 all.1
      ]

    some-theory : (ls : List Loaded) (place : ℕ) → place < length ls → (theory : Loaded) × (slice_get ls place ≡ Some theory)
    some-theory [] place h = absurd (omega (arith, h))
    some-theory (l ∷ ls) zero h = (l, refl)
    some-theory (l ∷ ls) (suc place) h = some-theory ls place (omega (arith, h))

    abbrev EachCloses : ℕ → Type 0
    EachCloses n = (place : ℕ) → place < n → place < length theories → (v : Verdict) × Closes texts theories (suc place) v

    all-close : (n : ℕ) → EachCloses n → n < length theories → (indexes : List ℕ) → Each (λ p. (1 ≤ p) × (p ≤ n)) indexes → (verdicts : List Verdict) × AllClose texts theories indexes verdicts
    all-close n earlier within [] h = ([], nothing)
    all-close n earlier within (zero ∷ indexes) h = absurd (omega (arith, h.0.0))
    all-close n earlier within (suc p ∷ indexes) h =
        let one = earlier p (omega (arith, h.0.1)) (omega (arith, h.0.1, within)) in
        let rest = all-close n earlier within indexes h.1 in
        (one.0 ∷ rest.0, also one.1 rest.1)

    each-closes : (n : ℕ) → EachCloses n
    each-closes zero place h within = absurd (omega (arith, h))
    each-closes (suc n) place h within =
        let theory = some-theory theories place within in
        let parents = all-close place (λ q less inside. each-closes n q (omega (arith, less, h)) inside) within theory.0.parents (session.parents place theory.0 theory.1) in
        closes (suc place) theory.0 (place, refl, theory.1) parents.0 parents.1

    -- the verdicts of so many theories, from a place on
    listed : (count from : ℕ) (P : ℕ → Verdict → Type 0) → ((place : ℕ) → place < count → (v : Verdict) × P (from + place) v)
        → (vs : List Verdict) × (length vs ≡ count) × ((place : ℕ) (v : Verdict) → slice_get vs place ≡ Some v → P (from + place) v)
    listed zero from P f = ([], refl, λ place v e. absurd (cc))
    listed (suc count) from P f =
        let one = f zero (omega arith) in
        let rest = listed count (suc from) P (λ place h. let w = f (suc place) (omega (arith, h)) in (w.0, subst (λ n. P n w.0) (moved place) w.1)) in
        (one.0 ∷ rest.0, ap suc rest.1, at one.0 rest.0 one.1 rest.2)
      where
        moved : (place : ℕ) → from + suc place ≡ suc from + place
        moved place = omega arith

        same-verdict : (a b : Verdict) → Some a ≡ Some b → a ≡ b
        same-verdict a b e = cc

        at : (one : Verdict) (vs : List Verdict) → P (from + zero) one → ((place : ℕ) (v : Verdict) → slice_get vs place ≡ Some v → P (suc from + place) v)
            → (place : ℕ) (v : Verdict) → slice_get (one ∷ vs) place ≡ Some v → P (from + place) v
        at one vs h rest zero v e = subst (P (from + zero)) (same-verdict one v e) h
        at one vs h rest (suc place) v e = subst (λ n. P n v) (sym (moved place)) (rest place v e)

    from-zero : (n : ℕ) → n ≡ 0 + n
    from-zero n = omega arith

    pub statements_there : (verdicts : List Verdict) × AreStatements texts theories (flat_map notes_of verdicts)
    statements_there =
        let w = listed (length theories) 0 (λ place v. Closes texts theories (suc place) v) (λ place h.
        let c = each-closes (length theories) place h h in
        (c.0, subst (λ n. Closes texts theories (suc n) c.0) (from-zero place) c.1)) in
        (w.0, record { verdicts = w.0; are = λ place v e. subst (λ n. Closes texts theories (suc n) v) (sym (from-zero place)) (w.2 place v e); all = w.1; notes_are = refl })

pub theory_closes : TheoryCloses
theory_closes texts theories session index theory is_at parents closed = closes texts theories session index theory is_at parents closed
