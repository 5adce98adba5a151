-- From what is found for a lemma to what is said of the session's lemma; facts and statements as they are compared.
use Rattle.std.proofs.Common.{◌≡◌, ◌∙◌, ℕ, Bool, List, [], ◌++◌, inl, inr, refl, sym, ap, subst, arith, Option, Some, None}
use Rattle.std.specs.Prelude.{Result, Ok, Err, IfOk}
use Rattle.std.specs.List.{flat_map}
use Rattle.pure_text.specs.Lists.{IsIn}
use Rattle.pure_text.proofs.ListLaws.{each_at}
use Rattle.pure_definitions.specs.Names.{Label}
use Rattle.pure_definitions.specs.Types.Typ.{Typ, prop}
use Rattle.pure_definitions.specs.Terms.Typing.{HasType}
use Rattle.pure_definitions.specs.Terms.Term.{Term, Const, Free, Var, Bound, Abs, App}
use Rattle.pure_definitions.specs.Terms.Bounds.{Occurs}
use Rattle.pure_definitions.specs.Declarations.Decl.{AxiomDecl, PromiseDecl}
use Rattle.pure_graph.specs.Order.{Loaded}
use Rattle.pure_logic.specs.Content.{Content, IsContent, IsWellFormed}
use Rattle.pure_theory_tables.specs.Facts.{fact as stated_fact}
use Rattle.pure_theory_run.specs.Declare.Notes.{Fork}
use Rattle.pure_theory_run.specs.Declare.Tidy.{IsTidy, IsTidyDecl, IsTidyFact, HasIndexes, IsUnschematic}
use Rattle.pure_theory_run.specs.Method.Outcome.{IsProvable}
use Rattle.pure_theory_run.specs.Named.{lemma_named}
use Rattle.pure_theory_run.specs.Outline.{Outline}
use Rattle.pure_theory_run.specs.Sessions.{AreSaid}
use Rattle.pure_theory_run.specs.SessionMeaning.Statements.{forks_of, notes_of}
use Rattle.pure_unify_final.specs.Laws.{HasVariablesUpTo}
use Rattle.pure_find.specs.declared.finding.Finding.{Finding}
use Rattle.pure_find.specs.declared.named.Found.{Found}
use Rattle.pure_find.specs.Facts.{facts_of}
use Rattle.pure_find.specs.Lines.{total_line, is_clean}
use Rattle.pure_find.specs.Answers.{IsAnswer, IsFoundText, IsSaidOf}
use Rattle.pure_find.specs.Findings.{IsTidyProposition, StatesTidy, IsFinding, IsLongFound}

-- ---- terms

-- a variable in a term has an index with the property
index-of : (I : ℕ → Type 0) (x i : ℕ) (T : Typ) (t : Term) → HasIndexes I t → Occurs (Var x i T) t → I i
index-of I x i T (Const c U) h o = absurd (cc)
index-of I x i T (Free y U) h o = absurd (cc)
index-of I x i T (Var y j U) h o = let same : j ≡ i = cc in subst I same h.0
index-of I x i T (Bound n) h o = absurd (cc)
index-of I x i T (Abs U b) h (inl o) = absurd (cc)
index-of I x i T (Abs U b) h (inr o) = index-of I x i T b h.1 o
index-of I x i T (App f a) h (inl o) = absurd (cc)
index-of I x i T (App f a) h (inr (inl o)) = index-of I x i T f h.0 o
index-of I x i T (App f a) h (inr (inr o)) = index-of I x i T a h.1 o

zero-variables : (t : Term) → HasIndexes (λ i. i ≡ 0) t → HasVariablesUpTo 0 t
zero-variables t h x i T o = let zero : i ≡ 0 = index-of (λ j. j ≡ 0) x i T t h o in omega (arith, zero)

no-variables : (t : Term) → IsUnschematic t → HasVariablesUpTo 0 t
no-variables t h x i T o = absurd (index-of (λ j. ⊥) x i T t h o)

-- a lemma's statement
pub tidy-statement : (texts : List (List ℕ)) (f : Fork) → IsProvable texts f → IsTidyProposition f.fixed
tidy-statement texts f p = record { typed = p.proposition.typed; normal = p.statement.normal; variables = no-variables f.fixed p.statement.fixed }

-- the facts of its content
pub states-tidy : (Q : Content) → IsContent Q → IsTidy Q → StatesTidy Q
states-tidy Q content tidy name s there = by s.label there
  where
    tidy-fact : (A : Term) → IsTidyFact A → HasType [] A prop → IsTidyProposition A
    tidy-fact A h typed = record { typed = typed; normal = h.normal; variables = zero-variables A h.zeros }

    by : (l : Option Label) → IsIn (stated_fact name l s.prop) Q.declarations → IsTidyProposition s.prop
    by None h = tidy-fact s.prop (each_at IsTidyDecl Q.declarations tidy (AxiomDecl name s.prop) h) (each_at (IsWellFormed Q) Q.declarations content.well_formed (AxiomDecl name s.prop) h).proposition.typed
    by (Some l) h = tidy-fact s.prop (each_at IsTidyDecl Q.declarations tidy (PromiseDecl name l s.prop) h) (each_at (IsWellFormed Q) Q.declarations content.well_formed (PromiseDecl name l s.prop) h).proposition.typed

-- ---- answers

-- what is found for each statement of a long form is found for the lemma's
pub finding-for : {E : Type 0} (texts : List (List ℕ)) (C statement : Term) → statement ≡ C → (long : Option Term) → IsLongFound statement long → (Q R : Content) → Q ≡ R → (r : Result Finding E)
    → IfOk r (λ finding. (D : Term) → IsLongFound D long → IsFinding D (facts_of texts Q) finding) → IfOk r (IsFinding C (facts_of texts R))
finding-for texts C statement is long found Q R same (Ok finding) h = subst (λ (x : Term × Content). IsFinding x.0 (facts_of texts x.1) finding) (λ i. (is i, same i)) (h statement found)
finding-for texts C statement is long found Q R same (Err fault) h = tt

-- the finding as text
pub text-found : (texts : List (List ℕ)) (f : Fork) (finding : Finding) → IsFinding f.fixed (facts_of texts f.content) finding → (text : List ℕ) (clean : Bool) → text ≡ finding.text.items ++ total_line finding.standings.items → clean ≡ is_clean finding.standings.items
    → IsFoundText texts f text clean
text-found texts f finding h text clean is is_so = record { standings = finding.standings.items; are = h.are; text_is = is ∙ ap (λ l. l ++ total_line finding.standings.items) h.text_is; clean_is = is_so }

-- what is said of the lemma with a name is said of the session
said-so : (texts : List (List ℕ)) (theories : List Loaded) (values : List Outline) (forks lent : List Fork) → AreSaid texts theories values forks → lent ≡ forks → (names : List (List ℕ)) → names ≡ texts → (name : List ℕ) (found : Option Fork)
    → lemma_named names name lent ≡ found → (text : List ℕ) (clean : Bool) → IsSaidOf names found text clean → IsAnswer texts theories name text clean
said-so texts theories values forks lent said same names named name found at text clean is =
    let notes = flat_map notes_of said.closed.verdicts in
    let lemmas : lent ≡ forks_of notes = same ∙ said.closed.forks_are in
    let here : lemma_named texts name (forks_of notes) ≡ found = sym (ap (λ fs. lemma_named texts name fs) lemmas) ∙ (sym (ap (λ ns. lemma_named ns name lent) named) ∙ at) in
    record {
      notes = notes;
      statements = record { verdicts = said.closed.verdicts; are = said.closed.are; all = said.all; notes_are = refl };
      said = subst (λ o. IsSaidOf texts o text clean) (sym here) (subst (λ ns. IsSaidOf ns found text clean) named is);
    }

pub none-said : {E : Type 0} (texts : List (List ℕ)) (theories : List Loaded) (values : List Outline) (forks lent : List Fork) → AreSaid texts theories values forks → lent ≡ forks → (names : List (List ℕ)) → names ≡ texts → (name : List ℕ)
    → lemma_named names name lent ≡ None → (r : Result Found E) → IfOk r (λ s. IsSaidOf [] None s.text s.clean) → IfOk r (λ s. IsAnswer texts theories name s.text s.clean)
none-said texts theories values forks lent said same names named name at (Ok s) is = said-so texts theories values forks lent said same names named name None at s.text s.clean is
none-said texts theories values forks lent said same names named name at (Err fault) is = tt

pub some-said : {E : Type 0} (texts : List (List ℕ)) (theories : List Loaded) (values : List Outline) (forks lent : List Fork) → AreSaid texts theories values forks → lent ≡ forks → (names : List (List ℕ)) → names ≡ texts → (name : List ℕ) (f : Fork)
    → lemma_named names name lent ≡ Some f → (r : Result Found E) → IfOk r (λ s. IsFoundText names f s.text s.clean) → IfOk r (λ s. IsAnswer texts theories name s.text s.clean)
some-said texts theories values forks lent said same names named name f at (Ok s) is = said-so texts theories values forks lent said same names named name (Some f) at s.text s.clean is
some-said texts theories values forks lent said same names named name f at (Err fault) is = tt
