-- Each part has one outcome at most, and so has a command with its parts.
use Rattle.std.proofs.Common.{◌≡◌, ◌⊎◌, ℕ, ◌+◌, suc, List, [], ◌∷◌, ◌++◌, map, length, refl, sym, ◌∙◌, ap, subst, inl, inr}
use Rattle.std.specs.Prelude.{Result, Ok, Err}
use Rattle.pure_definitions.specs.Names.{Label}
use Rattle.pure_definitions.specs.Declarations.Decl.{algebra_of}
use Rattle.pure_order.specs.OrderTables.Classes.{IsAntisymmetric}
use Rattle.pure_grammar.specs.Theories.TheoryText.{Span, Step, Have, Command, Class as ClassOf, TypeDecl, Arity as ArityOf, Const, Axiom, Definition, Lemma}
use Rattle.pure_typ.specs.NameTexts.{HasText, AreSessionTexts}
use Rattle.pure_logic.specs.Content.{Content}
use Rattle.pure_lookup.specs.Meaning.{facts, full_text}
use Rattle.pure_lookup.specs.Laws.{IsInSession}
use Rattle.pure_lookup.proofs.TextLemmas.{one_name}
use Rattle.pure_print.specs.declared.row.Row.{Row}
use Rattle.pure_elab.specs.Vocabulary.{Vocabulary}
use Rattle.pure_statements.specs.declared.reason.Reason.{Reason}
use Rattle.pure_statements.specs.declared.reason.Reason.TheVariants.{Duplicate}
use Rattle.pure_statements.specs.Chain.{Then, Unless, Gives}
use Rattle.pure_statements.specs.Statement.{IsStated}
use Rattle.pure_statements.specs.Rows.{have_text}
use Rattle.pure_declare.specs.Notes.{Note, Said, Forked, Outcome}
use Rattle.pure_declare.specs.Commands.{Place, IsOwnText, IsNameOf, IsTaken, vocabulary, IsOutcome}
use Rattle.pure_declare.specs.First.{outcome_of}
use Rattle.pure_declare.specs.Parts.{Part, Whole, Within, End, binding, IsBoundOutcome, IsHaveOutcome, have_outcome, IsHaveDeclaredAs, IsEndedAs, LeavesRow, IsPartDeclaredAs, DeclaresPart}
use Rattle.pure_declare.specs.Fold.{Stands, HasParts, part_label, AreParts, Declares}
use Rattle.pure_declare.specs.Good.{IsGood}
use Rattle.pure_declare.specs.Once.{PartsOnce, CommandsOnce}
use Rattle.pure_declare.proofs.OnceSteps.{Once, gives-once, then-once, unless-once, stated-once}
use Rattle.pure_declare.proofs.OnceLaws.{outcome-once, own-once, declares_once}
use Rattle.pure_declare.proofs.PlainLaws.{lemma-bound, one-part, whole-first}
use Rattle.pure_declare.proofs.PartLaws.{bound-binding}
use Rattle.pure_declare.proofs.HaveLaws.{IsBehind, behind-none, behind-next}

ok-same : (o p : Outcome) → ◌≡◌ {A = Result Outcome Reason} (Ok o) (Ok p) → o ≡ p
ok-same o p e = cc

ok-err : (o : Outcome) (r : Reason) → ◌≡◌ {A = Result Outcome Reason} (Ok o) (Err r) → ⊥
ok-err o r e = absurd (cc)

module _ (P : Place) (names : AreSessionTexts P.texts) (anti : IsAntisymmetric (vocabulary P).algebra) where
  bound-once : (n m : ℕ) (span : Span) (script : List Step) → Once (IsBoundOutcome P n m span script)
  unfolding IsBoundOutcome
  bound-once n m span script =
      unless-once (IsTaken P facts n) Duplicate (Then (IsStated (vocabulary P) P.source span) (λ s. Gives (binding P n m script s)))
      (then-once (IsStated (vocabulary P) P.source span) (λ s. Gives (binding P n m script s)) (stated-once (vocabulary P) anti P.source span) (λ s. gives-once (binding P n m script s)))

  have-once : (x : List ℕ) (have : Have) → Once (IsHaveOutcome P x have)
  have-once x have r s (n, m, i, j, f) (k, l, e, d, g) =
      let first : n ≡ k = one_name P.texts names (have_text P.theory x have.name) n k i e in
      let second : m ≡ l = one_name P.texts names (full_text P.theory x) m l j d in
      let there = subst (λ (o : ℕ). IsBoundOutcome P o m have.prop have.script r) first f in
      bound-once k l have.prop have.script r s (subst (λ (o : ℕ). IsBoundOutcome P k o have.prop have.script r) second there) g

  have_done-once : (x : List ℕ) (have : Have) (o p : Outcome) → IsHaveDeclaredAs P x have o → IsHaveDeclaredAs P x have p → o ≡ p
  have_done-once x have o p h k = h.comes ∙ ap (have_outcome P x have) (have-once x have h.answer k.answer h.is k.is) ∙ sym k.comes

  end-once : (x : List ℕ) (span : Span) (script : List Step) (o p : Outcome) → IsEndedAs P x span script o → IsEndedAs P x span script p → o ≡ p
  end-once x span script o p (n, i, h) (k, j, g) =
      let same : n ≡ k = one_name P.texts names (full_text P.theory x) n k i j in
      ok-same o p (bound-once k k span script (Ok o) (Ok p) (subst (λ (m : ℕ). IsBoundOutcome P m m span script (Ok o)) same h) g)

-- A have, or a lemma's own end.
abbrev pub IsInner : Part → Type 0
IsInner (Whole command) = ⊥
IsInner _ = Unit {0}

module _ (texts : List (List ℕ)) (names : AreSessionTexts texts) (source : List ℕ) where
  abbrev at : Label → Content → List ℕ → Place
  at label Q theory = record { texts = texts; source = source; label = label; theory = theory; content = Q }

  inner-same : (label : Label) (Q : Content) (part : Part) → IsInner part → IsAntisymmetric (algebra_of Q.declarations) → (theory : List ℕ) (o p : Outcome) → IsPartDeclaredAs (at label Q theory) part o → IsPartDeclaredAs (at label Q theory) part p → o ≡ p
  inner-same label Q (Whole command) inner anti theory o p h k = absurd inner
  inner-same label Q (Within x have) inner anti theory o p h k = have_done-once (at label Q theory) names anti x have o p h k
  inner-same label Q (End x span script) inner anti theory o p h k = end-once (at label Q theory) names anti x span script o p h k

  pub inner-once : (label : Label) (Q : Content) (part : Part) → IsInner part → IsAntisymmetric (algebra_of Q.declarations) → (note other : Note) (next more : Content)
      → DeclaresPart texts source label Q part note next → DeclaresPart texts source label Q part other more → (note ≡ other) × (next ≡ more)
  inner-once label Q part inner anti note other next more h k =
      let o : Outcome = record { note = note; next = next } in
      let p : Outcome = record { note = other; next = more } in
      let there = subst (λ (t : List ℕ). IsPartDeclaredAs (at label Q t) part o) (own-once texts Q h.theory k.theory h.own k.own) h.declares in
      let same : o ≡ p = inner-same label Q part inner anti k.theory o p there k.declares in
      (ap (λ (x : Outcome). x.note) same, ap (λ (x : Outcome). x.next) same)

  -- The haves of a lemma from a place on, and its own end.
  module _ (theory : List ℕ) (label : Label) (Q : Content) (anti : IsAntisymmetric (algebra_of Q.declarations)) (x : List ℕ) (number : ℕ) (named : HasText texts number (full_text theory x)) (span : Span) (script : List Step) where
    abbrev left_of : List Have → List Part
    left_of haves = map (Within x) haves ++ End x span script ∷ []

    anti-behind : (place : ℕ) (R : Content) → IsBehind texts theory number label Q place R → IsAntisymmetric (algebra_of R.declarations)
    anti-behind place R b = subst (λ (V : Vocabulary). IsAntisymmetric V.algebra) (sym b.words) anti

    parts-same : (haves : List Have) (place : ℕ) (R : Content) → IsBehind texts theory number label Q place R → (notes others : List Note) (next more : Content)
        → AreParts texts source label place R (left_of haves) notes next → AreParts texts source label place R (left_of haves) others more → (notes ≡ others) × (next ≡ more)
    parts-same [] place R b notes others next more (note, then, rest, d, (none, last), all) (other, those, remain, e, (empty, end), whole) =
        let same = inner-once (part_label label place) R (End x span script) tt (anti-behind place R b) note other then those d e in (
          all ∙ ap (λ (l : List Note). note ∷ l) none ∙ ap (λ (n : Note). n ∷ []) same.0 ∙ sym (ap (λ (l : List Note). other ∷ l) empty) ∙ sym whole,
          last ∙ same.1 ∙ sym end,
        )
    parts-same (have ∷ haves) place R b notes others next more (note, then, rest, d, h, all) (other, those, remain, e, k, whole) =
        let same = inner-once (part_label label place) R (Within x have) tt (anti-behind place R b) note other then those d e in
        let behind = behind-next texts theory label Q x number named source place R have other those b e in
        let moved = subst (λ (S : Content). AreParts texts source label (place + 1) S (left_of haves) rest next) same.1 h in
        let on = parts-same haves (place + 1) those behind rest remain next more moved k in
        (all ∙ ap (λ (n : Note). n ∷ rest) same.0 ∙ ap (λ (l : List Note). other ∷ l) on.0 ∙ sym whole, on.1)

-- A lemma whose statement stands leaves no row as a whole.
forked-no_row : (P : Place) (n : ℕ) (span : Span) (script : List Step) (o : Outcome) → IsBoundOutcome P n n span script (Ok o) → LeavesRow o → ⊥
forked-no_row P n span script o h row =
    let b = bound-binding P n n span script o h in
    let same : o.note ≡ (binding P b.number b.lemma b.script b.stated).note = ap (λ (x : Outcome). x.note) b.is in
    no-both row.0 (sym row.1 ∙ same)
  where
    no-both : (row : Row) {f : _} → Said row ≡ Forked f → ⊥
    no-both row e = absurd (cc)

module _ (P : Place) (session : IsInSession P.texts P.content) (anti : IsAntisymmetric (algebra_of P.content.declarations)) (x : List ℕ) (span : Span) (haves : List Have) (script : List Step) where
  pub stands-no_whole : Stands P (Lemma x span haves script) → (o : Outcome) → IsPartDeclaredAs P (Whole (Lemma x span haves script)) o → ⊥
  stands-no_whole (p, h) o w = by w.0.answer w.0.is w.0.comes
    where
      by : (answer : Result Outcome Reason) → IsOutcome P (Lemma x span haves script) answer → o ≡ outcome_of P (Lemma x span haves script) answer → ⊥
      by (Ok q) is e =
          let row : LeavesRow q = subst LeavesRow e w.1 in
          forked-no_row P is.0 span script q (lemma-bound P is.0 span script (Ok q) is.2) row
      by (Err reason) is e = ok-err p reason (outcome-once P anti session (Lemma x span haves script) (Ok p) (Err reason) h is)

pub parts_once : PartsOnce
parts_once texts source label Q (Whole command) note other next more session g h k =
    declares_once texts source label Q command note other next more session g (whole-first texts source label Q command note next h) (whole-first texts source label Q command other more k)
parts_once texts source label Q (Within x have) note other next more session g h k = inner-once texts session.names source label Q (Within x have) tt g.antisymmetric note other next more h k
parts_once texts source label Q (End x span script) note other next more session g h k = inner-once texts session.names source label Q (End x span script) tt g.antisymmetric note other next more h k

module _ (texts : List (List ℕ)) (source : List ℕ) (label : Label) (Q : Content) (session : IsInSession texts Q) (g : IsGood Q) where
  abbrev here : List ℕ → Place
  here theory = record { texts = texts; source = source; label = part_label label 0; theory = theory; content = Q }

  -- Chains of one part.
  whole-same : (command : Command) (notes others : List Note) (next more : Content) → AreParts texts source label 0 Q (Whole command ∷ []) notes next → AreParts texts source label 0 Q (Whole command ∷ []) others more
      → (notes ≡ others) × (next ≡ more)
  whole-same command notes others next more h k =
      let a = one-part texts source label Q (Whole command) notes next h in
      let b = one-part texts source label Q (Whole command) others more k in
      let same = parts_once texts source (part_label label 0) Q (Whole command) a.0 b.0 next more session g a.1 b.1 in
      (a.2 ∙ ap (λ (n : Note). n ∷ []) same.0 ∙ sym b.2, same.1)

  by-whole : (command : Command) (ps qs : List Part) → ps ≡ Whole command ∷ [] → qs ≡ Whole command ∷ [] → (notes others : List Note) (next more : Content)
      → AreParts texts source label 0 Q ps notes next → AreParts texts source label 0 Q qs others more → (notes ≡ others) × (next ≡ more)
  by-whole command ps qs e f notes others next more h k =
      whole-same command notes others next more (subst (λ (rs : List Part). AreParts texts source label 0 Q rs notes next) e h) (subst (λ (rs : List Part). AreParts texts source label 0 Q rs others more) f k)

  -- A chain of a lemma as a whole refuses it.
  pub no-whole : (theory : List ℕ) → IsOwnText texts Q theory → (x : List ℕ) (span : Span) (haves : List Have) (script : List Step) → Stands (here theory) (Lemma x span haves script)
      → (notes : List Note) (next : Content) → AreParts texts source label 0 Q (Whole (Lemma x span haves script) ∷ []) notes next → ⊥
  no-whole theory own x span haves script stands notes next h =
      let one = one-part texts source label Q (Whole (Lemma x span haves script)) notes next h in
      let w = subst (λ (t : List ℕ). IsPartDeclaredAs (here t) (Whole (Lemma x span haves script)) (record { note = one.0; next = next })) (own-once texts Q one.1.theory theory one.1.own own) one.1.declares in
      stands-no_whole (here theory) session g.antisymmetric x span haves script stands (record { note = one.0; next = next }) w

  module _ (theory : List ℕ) (own : IsOwnText texts Q theory) where
    by-parts : (command : Command) (ps qs : List Part) → HasParts (here theory) command ps → HasParts (here theory) command qs → (notes others : List Note) (next more : Content)
        → AreParts texts source label 0 Q ps notes next → AreParts texts source label 0 Q qs others more → (notes ≡ others) × (next ≡ more)
    by-parts (Lemma x span haves script) ps qs (inl (stands, e)) (inl (also, f)) notes others next more h k =
        parts-same texts session.names source theory label Q g.antisymmetric x stands.1.0 stands.1.1 span script haves 0 Q (behind-none texts theory label Q x stands.1.0 stands.1.1 own) notes others next more
        (subst (λ (rs : List Part). AreParts texts source label 0 Q rs notes next) e h) (subst (λ (rs : List Part). AreParts texts source label 0 Q rs others more) f k)
    by-parts (Lemma x span haves script) ps qs (inl (stands, e)) (inr f) notes others next more h k =
        absurd (no-whole theory own x span haves script stands others more (subst (λ (rs : List Part). AreParts texts source label 0 Q rs others more) f k))
    by-parts (Lemma x span haves script) ps qs (inr e) (inl (stands, f)) notes others next more h k =
        absurd (no-whole theory own x span haves script stands notes next (subst (λ (rs : List Part). AreParts texts source label 0 Q rs notes next) e h))
    by-parts (Lemma x span haves script) ps qs (inr e) (inr f) notes others next more h k = by-whole (Lemma x span haves script) ps qs e f notes others next more h k
    by-parts (ClassOf x above) ps qs e f notes others next more h k = by-whole (ClassOf x above) ps qs e f notes others next more h k
    by-parts (TypeDecl x params) ps qs e f notes others next more h k = by-whole (TypeDecl x params) ps qs e f notes others next more h k
    by-parts (ArityOf con domains class) ps qs e f notes others next more h k = by-whole (ArityOf con domains class) ps qs e f notes others next more h k
    by-parts (Const x span) ps qs e f notes others next more h k = by-whole (Const x span) ps qs e f notes others next more h k
    by-parts (Axiom x span) ps qs e f notes others next more h k = by-whole (Axiom x span) ps qs e f notes others next more h k
    by-parts (Definition x typ text) ps qs e f notes others next more h k = by-whole (Definition x typ text) ps qs e f notes others next more h k

pub commands_once : CommandsOnce
commands_once texts source label Q command notes others next more session g h k =
    let same : h.theory ≡ k.theory = own-once texts Q h.theory k.theory h.own k.own in
    by-parts texts source label Q session g k.theory k.own command h.parts k.parts
    (subst (λ (t : List ℕ). HasParts (record { texts = texts; source = source; label = part_label label 0; theory = t; content = Q }) command h.parts) same h.has) k.has notes others next more h.are k.are
